-- An upload that is received in slices, from its beginning to its answer.
use Rattle.desk.proofs.Prelude.{◌≡◌, ◌∙◌, ◌+◌, ℕ, true, List, [], ◌∷◌, ◌++◌, length, Bor, Some, Result, Ok, Err, IfOk, OnOk, refl, sym, ap, subst, arith, append-nil, length-append, Ghosts, World, repo_text, policy_view, plan_seen, receives, store_refusal, From, Keeps, Reads, from_weaker, keeps_still, reads_lead, still_then, keeps_then, StoreFault, NotGranted, Reply, Receipt, ReceiveFault, IsReplyOf, IsAnsweredAs, LeavesWorld, StaysWithin, Receives, RepliesReceived}
use Rattle.std.specs.Bool.{⊤}
use Rattle.std.specs.Result.{result_ok}
use Rattle.model.specs.Answers.{Denial, Plan}
use Rattle.model.specs.Policy.{Policy}
use Rattle.names.specs.declared.texts.RepoName.{RepoName}
use Rattle.policy.specs.declared.policies.Policy as code
use Rattle.store.specs.Shown.{HasTables}
use Rattle.tables.specs.Staging.{upload_number}
use Rattle.tables.specs.declared.rows.UploadId.{UploadId}
use Rattle.refinement.specs.Staging.{Stages}
use Rattle.chunks.specs.Intakes.{HasCounted, HasTaken, IsCut}
use Rattle.chunks.specs.declared.intake.Intake.{Intake}
use Rattle.uploads.specs.Beginning.{Begins}
use Rattle.desk.specs.Objects.{DeniesIf}
use Rattle.desk.specs.Receiving.{HasReceived, IsReceiving, JudgesUpload, RefusesUpload}
use Rattle.desk.specs.declared.admission.RepoRequest.{RepoRequest}
use Rattle.desk.specs.declared.slices.Receiving.{Receiving}
use Rattle.desk.proofs.Arriving.{all_read, taken_none}
use Rattle.desk.proofs.Bounded.{leaves_world, stays_within}
use Rattle.desk.proofs.Early.{answered_then, failed_early, refused_early}
use Rattle.desk.proofs.Puts.{put_by}
use Rattle.desk.proofs.Staying.{keeps_within, receiving_still}

ok_is : {T E : Type 0} (r : Result T E) (x : T) → Some x ≡ result_ok r → r ≡ Ok x
ok_is (Ok y) x is = cc
ok_is (Err e) x is = absurd (cc)

-- what holds of a value that is there
pub ok_holds : {T E : Type 0} (P : T → Type 0) (r : Result T E) (x : T) → Some x ≡ result_ok r → IfOk r P → P x
ok_holds P r x is all = subst (λ (q : Result _ _). IfOk q P) (ok_is r x is) all

-- a request that is granted is planned so
pub granted_plan : (repo : List ℕ) (plan : Result Plan Denial) (r : Result (Bor RepoName × Bor (List ℕ)) NotGranted)
    (home : Bor RepoName) (name : Bor (List ℕ)) → Some (home, name) ≡ result_ok r → JudgesUpload repo plan r
    → plan ≡ Ok (receives name.now)
granted_plan repo plan r home name is judged = (subst (JudgesUpload repo plan) (ok_is r (home, name) is) judged).1

module _ {S : Type 0} (g : Ghosts S) where
  -- ---- an upload is begun

  begins_keeps : (a b : S) (world : World) (repo : RepoName) (name : List ℕ) (size : ℕ) (r : Result UploadId StoreFault)
      → Begins g world repo name size a b r → Keeps g a b world
  begins_keeps a b world repo name size (Ok id) done = done.0
  begins_keeps a b world repo name size (Err f) done = done

  -- a call that keeps the world leaves each repository within the same bound
  pub kept_within : (a b : S) (policy : Policy) → From g a b (Keeps g a b) → From g a b (StaysWithin g a b policy)
  kept_within a b policy kept = from_weaker g a b _ _ (λ world keeps. keeps_within g a b policy world keeps) kept

  -- and so does one that only reads
  pub reads_within : (a b : S) (policy : Policy) {P : World → Type 0} → Reads g a b P → From g a b (StaysWithin g a b policy)
  reads_within a b policy {P = P} reads = record {
    honest = reads.same.was_honest;
    each = λ k world h. keeps_within g a b policy world (keeps_still g a b world (reads_lead g a b P world reads h));
  }

  module _ (a b c : S) {P : World → Type 0} (repo : RepoName) (name : List ℕ) (size : ℕ) (reads : Reads g a b P) where
    -- it was begun or not, after calls that only read
    pub begun_keeps : (r : Result UploadId StoreFault) → From g b c (λ world. Begins g world repo name size b c r)
        → From g a c (Keeps g a c)
    begun_keeps r begun = record {
      honest = λ k. reads.same.was_honest (begun.honest k);
      each = λ k world h.
          let lead = reads_lead g a b P world reads h in
          let kept = begins_keeps b c world repo name size r (begun.each k world lead.holds) in
          still_then g a b c world world (λ bound. world ∷ bound) lead kept;
    }

    -- what they found still holds
    pub begun_after : {Q R : World → Type 0} → From g b c Q → ((world : World) → P world → R world) → From g a c R
    begun_after begun found = record {
      honest = λ k. reads.same.was_honest (begun.honest k);
      each = λ k world h. found world (reads.each (begun.honest k) world h);
    }

    -- no byte of it has arrived
    pub begun_empty : (id : UploadId) (i : Intake) (left : ℕ) (r : Result UploadId StoreFault) → Some id ≡ result_ok r
        → i.upload ≡ id → i.size ≡ size → left ≡ size → IsCut i.written i.last.items [] [] × HasCounted i.hasher i.taken []
        → From g b c (λ world. Begins g world repo name size b c r)
        → From g a c (λ world. IsReceiving g c (record {
          upload = id;
          intake = i;
          repo = repo;
          name = name;
          size = size;
          left = left;
        }) [])
    begun_empty id i left r made same limit all empty begun = record {
      honest = λ k. reads.same.was_honest (begun.honest k);
      each = λ k world h.
          let lead = reads_lead g a b P world reads h in
          let done = subst (Begins g world repo name size b c) (ok_is r id made) (begun.each k world lead.holds) in
          record {
            upload = same;
            taken = taken_none g c i id size same limit empty (repo_text repo) name done.1;
            left = omega (arith, all);
          };
    }

  -- ---- a piece of it arrives

  module _ (a b : S) (r : Receiving) (j : Intake) (piece : List ℕ)
      (kept : From g a b (λ world. (repo name : List ℕ) (size : ℕ) (bytes : List ℕ) → HasTaken g a r.intake repo name size bytes
      → Keeps g a b world)) where
    -- it was taken
    pub piece_taken : (left : ℕ) → left + length piece ≡ r.left → j.upload ≡ r.intake.upload
        → (HasTables g a → (repo name : List ℕ) (size : ℕ) (bytes : List ℕ) → HasTaken g a r.intake repo name size bytes
        → HasTaken g b j repo name size (bytes ++ piece))
        → From g a b (λ world. (bytes : List ℕ) → IsReceiving g a r bytes
        → Keeps g a b world × IsReceiving g b (record r { intake = j; left = left }) (bytes ++ piece))
    piece_taken left less same step = record {
      honest = kept.honest;
      each = λ clean world h bytes it. (
        kept.each clean world h (repo_text r.repo) r.name r.size bytes it.taken,
        record {
          upload = same ∙ it.upload;
          taken = step h.ready (repo_text r.repo) r.name r.size bytes it.taken;
          left = let e = length-append bytes piece in let n = it.left in omega (arith, e, n, less);
        },
      );
    }

    -- it was refused, and what had arrived was removed or not
    pub piece_refused : (c : S) → From g b c (Keeps g b c)
        → From g a c (λ world. (bytes : List ℕ) → IsReceiving g a r bytes → Keeps g a c world × ⊤)
    piece_refused c cleared = record {
      honest = λ clean. kept.honest (cleared.honest clean);
      each = λ clean world h bytes it.
          let so_far = kept.each (cleared.honest clean) world h (repo_text r.repo) r.name r.size bytes it.taken in
          (keeps_then g a b c world so_far (cleared.each clean world so_far.holds), tt);
    }

  -- whatever became of it, each repository is within the same bound
  pub piece_within : (a b : S) (r : Receiving) {Q : List ℕ → Type 0}
      → From g a b (λ world. (bytes : List ℕ) → IsReceiving g a r bytes → Keeps g a b world × Q bytes)
      → From g a b (λ world. (bytes : List ℕ) → IsReceiving g a r bytes → (policy : Policy) → StaysWithin g a b policy world)
  piece_within a b r taken = record {
    honest = taken.honest;
    each = λ k world h bytes it policy. keeps_within g a b policy world (taken.each k world h bytes it).0;
  }

  -- ---- all of it has arrived

  module _ (policy : code.Policy) (now : ℕ) (asked : RepoRequest) (r : Receiving) (reply : Reply) where
    -- the plan for the request, if its content has this size
    abbrev planned : World → ℕ → Result Plan Denial
    planned world size = plan_seen world policy now asked size

    -- the reply is that of this plan, to these bytes
    abbrev IsDone : S → S → World → Result Plan Denial → List ℕ → Type 0
    IsDone old new world plan bytes = IsAnsweredAs g true old new world asked.repo.now plan bytes 0 (Ok reply)

    -- the request is answered by the bytes that arrived
    abbrev pub AnswersReceived : S → S → Type 0
    AnswersReceived old new =
        From g old new (λ world. (bytes : List ℕ) → HasReceived g old r asked bytes
        → IsDone old new world (planned world (length bytes)) bytes)

    module _ (old mid : S) (size : ℕ) (sized : size ≡ r.size) {P : World → Type 0} (reads : Reads g old mid P) where
      -- as many as the upload was begun with
      as_many : (bytes : List ℕ) → HasReceived g old r asked bytes → length bytes ≡ size
      as_many bytes had = all_read (length bytes) r.left r.size had.receiving.left had.all ∙ sym sized

      -- the request is not granted
      pub finish_refused : (refused : NotGranted) → ((world : World) → P world → DeniesIf refused (planned world size))
          → RefusesUpload refused reply → AnswersReceived old mid
      finish_refused refused is shows = record {
        honest = reads.same.was_honest;
        each = λ k world h bytes had.
            let lead = reads_lead g old mid P world reads h in
            let denied = is world (reads.each k world h) in
            subst (λ (n : ℕ). IsDone old mid world (planned world n) bytes) (sym (as_many bytes had))
            (refused_early g true world asked.repo.now (planned world size) old mid lead reads.same bytes 0 refl refused reply denied shows);
      }

      -- it is for another upload
      pub finish_other : IsReplyOf reply store_refusal → AnswersReceived old mid
      finish_other shows = record {
        honest = reads.same.was_honest;
        each = λ k world h bytes had.
            let lead = reads_lead g old mid P world reads h in
            failed_early g true world asked.repo.now (planned world (length bytes)) old mid lead reads.same bytes 0 reply shows;
      }

      -- it is granted, and the upload was completed or not
      pub finish_granted : (new : S) (home : RepoName) (name : List ℕ) (received : Result Receipt ReceiveFault)
          → ((world : World) → P world → (repo_text home ≡ asked.repo.now) × (planned world size ≡ Ok (receives name)))
          → repo_text home ≡ repo_text r.repo → name ≡ r.name
          → From g mid new (λ world. (bytes : List ℕ) → IsReceiving g mid r bytes → r.left ≡ 0
          → Receives g mid new world (repo_text r.repo) r.name bytes 0 received)
          → RepliesReceived received (Ok reply) → reply.body_read ≡ true → AnswersReceived old new
      finish_granted new home name received granted placed named came replies read = record {
        honest = λ k. reads.same.was_honest (came.honest k);
        each = λ k world h bytes had.
            let lead = reads_lead g old mid P world reads h in
            let it = granted world (reads.each (came.honest k) world h) in
            let still = receiving_still g old mid r bytes reads.same h.ready had.receiving in
            let plan = it.1 ∙ ap (λ (n : List ℕ). Ok (receives n)) named in
            let done = subst (λ (repo : List ℕ). Receives g mid new world repo r.name bytes 0 received) (sym placed ∙ it.0)
            (came.each k world lead.holds bytes still had.all) in
            let answered = put_by g mid new world asked.repo.now r.name bytes 0 plan received (Ok reply) (none received) read done replies in
            subst (λ (n : ℕ). IsDone old new world (planned world n) bytes) (sym (as_many bytes had))
            (answered_then g true world asked.repo.now (planned world size) old mid new lead reads.same bytes 0 (Ok reply) answered);
      }
        where
          none : (x : Result Receipt ReceiveFault) → OnOk x (◌≡◌ {A = ℕ} 0 0)
          none (Ok receipt) = refl
          none (Err e) = tt

    module _ (old new : S) (done : AnswersReceived old new) where
      -- the same, with no more bytes
      answered_all : (world : World) (bytes : List ℕ) → IsDone old new world (planned world (length bytes)) bytes
          → IsDone old new world (planned world (length (bytes ++ []))) bytes
      answered_all world bytes =
          subst (λ (all : List ℕ). IsDone old new world (planned world (length all)) bytes) (sym (append-nil bytes))

      pub finish_world : From g old new (λ world. (bytes : List ℕ) → HasReceived g old r asked bytes
          → LeavesWorld g new (policy_view policy) asked.repo.now world)
      finish_world = record {
        honest = done.honest;
        each = λ k world h bytes had.
            leaves_world policy now asked world h.laws true bytes 0 (answered_all world bytes (done.each k world h bytes had));
      }

      pub finish_bounded : From g old new (λ world. (bytes : List ℕ) → HasReceived g old r asked bytes
          → StaysWithin g old new (policy_view policy) world)
      finish_bounded = record {
        honest = done.honest;
        each = λ k world h bytes had.
            stays_within policy now asked world h.laws true bytes 0 (answered_all world bytes (done.each k world h bytes had));
      }
