-- After an answer a repository has at most its quota and one largest object in the database.
use Rattle.desk.proofs.Prelude.{◌≡◌, ◌≤◌, ℕ, Bool, true, false, cond, List, ◌∷◌, ◌++◌, IsWorld, IsAnsweredAs, length, replicate, Result, Ok, Err, Some, refl, arith, length-append, AllByRecursion, length-replicate, Ghosts, World, Answer, Bound, store_refusal, left_by, answer_ending, policy_view, From, IsBoundedBy, Holds, IsHonest, is_upload_of, plan_seen, request_seen, setting_of, AnswersAll, AnswersIf, LeavesOthers, LeavesWorld, StaysWithin, verdict_by, Reply, BodyFault, given_in, is_refused}
use Rattle.refinement.specs.Left.{Gives}
use Rattle.names.specs.declared.bodies.Body.{Ghosts as BodyGhosts}
use Rattle.model.specs.World.{total}
use Rattle.model.specs.Steps.{after}
use Rattle.model.specs.Laws.{quota_of}
use Rattle.model.proofs.Apart.{differ_by_bytes, desk_leaves_views}
use Rattle.model.proofs.Left.{all_left}
use Rattle.model.proofs.Quota.{desk_stays}
use Rattle.policy.specs.declared.policies.Policy.{Policy}
use Rattle.uploads.proofs.Bounds.{leaves_within, stores_within}
use Rattle.desk.specs.declared.admission.RepoRequest.{RepoRequest}

module _ {S : Type 0} (g : Ghosts S) (old new : S) where
  -- the store holds the world after the verdict, or the world before it
  pub answer_holds : (P : World → Type 0) (world : World) (verdict : Answer) (r : Result Reply BodyFault) → AnswersIf g old new world verdict r → P world → P (after world (Some verdict))
      → (kept : World) × Holds g new kept × P kept
  answer_holds P world verdict (Err f) done same grown = (world, done.holds, same)
  answer_holds P world verdict (Ok reply) done same grown = at (is_refused reply) done.gives
    where
      at : (v : Bool) → Gives g old new world verdict (cond v store_refusal verdict) → (kept : World) × Holds g new kept × P kept
      at true gives = (world, gives.holds, same)
      at false gives = (after world (Some verdict), gives.holds, grown)

  -- what a stop leaves of the store is the world after the verdict, or the world before it, or what a stop would have left
  answer_left : (P : World → Type 0) (world : World) (verdict : Answer) (r : Result Reply BodyFault) → AnswersIf g old new world verdict r → P world → P (after world (Some verdict))
      → (bound : Bound) → IsBoundedBy g old bound → AllByRecursion P bound → (next : Bound) × IsBoundedBy g new next × AllByRecursion P next
  answer_left P world verdict (Err f) done same grown bound was all = (world ∷ bound, done.left bound was, (same, all))
  answer_left P world verdict (Ok reply) done same grown bound was all =
      let ending = answer_ending world (Some (given_in verdict reply)) in
      let made = after world (Some verdict) in
      (left_by ending world made bound, done.gives.left bound was, all_left P ending world made bound same grown all)

-- another world with the same views of other repositories, and whose totals are as small as the quotas demand
abbrev IsLeftOf : Policy → List ℕ → World → World → Type 0
IsLeftOf policy repo world kept =
    LeavesOthers repo world kept
    × ((name : List ℕ) (most : ℕ) → total name world ≤ most → quota_of name (policy_view policy) ≤ most → total name kept ≤ most)

module _ {S : Type 0} {g : Ghosts S} {old new : S} {r : Result Reply BodyFault} (policy : Policy) (now : ℕ) (asked : RepoRequest) (world : World) (laws : IsWorld world) (u : Bool) (bytes : List ℕ) (left : ℕ)
    (done : IsAnsweredAs g u old new world asked.repo.now (plan_seen world policy now asked (length (bytes ++ replicate left 0))) bytes left r) where
  -- the verdict that was answered, on a content that begins with the bytes that were read
  outcome : (verdict : Answer) × AnswersIf g old new world verdict r × IsLeftOf policy asked.repo.now world (after world (Some verdict))
  outcome =
      let rest : List ℕ = replicate left 0 in
      let body = bytes ++ rest in
      let setting = setting_of policy now in
      let seen = request_seen asked (length body) in (
        verdict_by world asked.repo.now (plan_seen world policy now asked (length body)) body,
        done.answers rest (λ put. length-replicate {A = ℕ} left 0),
        (
          λ other differ policy user. desk_leaves_views world setting seen body policy user other (differ_by_bytes asked.repo.now other differ),
          λ name most within quota. desk_stays world setting seen body name most laws refl within quota,
        ),
      )

  -- the world that is kept
  pub leaves_world : LeavesWorld g new (policy_view policy) asked.repo.now world
  leaves_world =
      let it = outcome in
      let found = answer_holds g old new (IsLeftOf policy asked.repo.now world) world it.0 r it.1 (λ other differ seen user. refl, λ name most within quota. within) it.2 in
      record { kept = found.0; holds = found.1; apart = found.2.0; within = found.2.1 }

  -- the bound is kept
  pub stays_within : StaysWithin g old new (policy_view policy) world
  stays_within repo most within quota =
      let it = outcome in
      let small : World → Type 0 = λ w. total repo w ≤ most in
      let after_it = it.2.1 repo most within quota in
      let found = answer_holds g old new small world it.0 r it.1 within after_it in (
        stores_within g new found.0 repo most found.1 found.2,
        λ bound was all. let left = answer_left g old new small world it.0 r it.1 within after_it bound was all in leaves_within g new left.0 repo most left.1 left.2,
      )

module _ {S B : Type 0} {g : Ghosts S} {b : BodyGhosts B} {old new : S} {before content : B} {r : Result Reply BodyFault} (policy : Policy) (now : ℕ) (asked : RepoRequest)
    (done : AnswersAll g b (is_upload_of asked) (setting_of policy now) (request_seen asked) old new before content r) where
  -- the answer to a content that begins with the bytes that were read
  answered_whole : IsHonest g new → (world : World) → Holds g old world
      → IsAnsweredAs g (is_upload_of asked) old new world asked.repo.now (plan_seen world policy now asked (length (done.bytes ++ replicate (b.size content) 0))) done.bytes (b.size content) r
  answered_whole honest world h =
      let rest : List ℕ = replicate (b.size content) 0 in
      let known = length-append done.bytes rest in
      let all = length-replicate {A = ℕ} (b.size content) 0 in
      let read = done.read.size in
      done.answered.each honest world h tt tt (length (done.bytes ++ rest)) (λ put. omega (arith, known, all, read))

  pub answer_world : From g old new (LeavesWorld g new (policy_view policy) asked.repo.now)
  answer_world = record {
    honest = done.answered.honest;
    each = λ honest world h. leaves_world policy now asked world h.laws (is_upload_of asked) done.bytes (b.size content) (answered_whole honest world h);
  }

  pub answer_bounded : From g old new (StaysWithin g old new (policy_view policy))
  answer_bounded = record {
    honest = done.answered.honest;
    each = λ honest world h. stays_within policy now asked world h.laws (is_upload_of asked) done.bytes (b.size content) (answered_whole honest world h);
  }
