-- A batch: from what the code judges of each object to the verdict of the definitions.
use Rattle.std.specs.Prelude.{ℤ, pos, int_le}
use Rattle.desk.proofs.Prelude.{◌≡◌, ◌∙◌, ℕ, ◌-◌, ◌==◌, Bool, true, false, not, List, [], ◌∷◌, ◌++◌, map, Option, Some, None, Result, Ok, Err, refl, sym, ap, ap₂, map-append, Rule, B1, B4, B5, B6, ◌>>=◌, check, ok_or, or_default, RepoState, is_gone, size_of, has_room, BatchForm, Answer, Denial, offers, downloads, may_pull, may_push, ref_or_default, valid_size, check_gone, check_hash, action_at, download_of, upload_of, upload_actions, unless_stored, offer, offers_for, may_batch, batch_verdict, content_href, object_asked, offer_at, result_at, actions_at, IsSound, Judged, AreLinksOf, actions_for, actions_on, judged_as, judged_on, judged_by, may_transfer, IsCallerOf, case_policy, case_repo, case_user, case_with}
use Rattle.std.specs.Bool.{⊤}
use Rattle.names.specs.declared.operations.Operation.{Operation}
use Rattle.names.specs.declared.operations.Operation.TheVariants as operation
use Rattle.model.specs.Forms.{BatchObject}
use Rattle.model.specs.Callers.{Caller}
use Rattle.model.specs.Cases as model
use Rattle.model.specs.Answers.{Offer}
use Rattle.model.specs.Answers as answer
use Rattle.forms.specs.declared.offers.Actions.{Actions}
use Rattle.forms.specs.declared.offers.Actions.TheVariants.{Download, Upload, Stored}
use Rattle.forms.specs.declared.offers.Links.{Links}
use Rattle.forms.specs.declared.offers.Offer as shown
use Rattle.forms.specs.declared.batch.BatchObject as given
use Rattle.desk.specs.Batching.{sound_size}
use Rattle.desk.specs.declared.cases.Case.{Case}
use Rattle.desk.specs.declared.batching.NamedObject.{NamedObject}

-- ---- one object

-- what can be done with an object whose name and size are valid
judged_sound : (state : RepoState) (asked : BatchForm) (o : BatchObject) (size : ℕ) → sound_size asked.hash_algo o ≡ Ok size
    → (check_gone state o.oid >>= λ kept. actions_for state asked.operation (size_of o.oid state) size) ≡ actions_on state asked o
judged_sound state asked o size is = ap (λ (v : Result ℕ Rule). v >>= λ n. check_gone state o.oid >>= λ kept. actions_for state asked.operation (size_of o.oid state) n) (sym is)

-- the same, if its name is not retired, by the size that is stored under its name
pub judged_found : (state : RepoState) (asked : BatchForm) (o : BatchObject) (named : NamedObject) (stored : Option ℕ) (room : ℤ) (fits : Bool) (actions : Result Actions Rule)
    → room ≡ state.room → fits ≡ int_le (pos named.size) room → IsSound asked.hash_algo o (Ok named) → false ≡ is_gone named.name state → stored ≡ size_of named.name state
    → ((s : RepoState) → fits ≡ has_room named.size s → actions ≡ actions_for s asked.operation stored named.size) → actions ≡ actions_on state asked o
judged_found state asked o named stored room fits actions is fitting sound kept found by =
    by state (fitting ∙ ap (int_le (pos named.size)) is)
    ∙ ap (λ there. actions_for state asked.operation there named.size) (found ∙ ap (λ name. size_of name state) sound.1)
    ∙ ap (λ (gone : Bool). check (not gone) B6 >>= λ there. actions_for state asked.operation (size_of o.oid state) named.size) (kept ∙ ap (λ name. is_gone name state) sound.1)
    ∙ judged_sound state asked o named.size sound.0

-- an object whose name is retired
pub judged_gone : (state : RepoState) (asked : BatchForm) (o : BatchObject) (named : NamedObject) → IsSound asked.hash_algo o (Ok named) → true ≡ is_gone named.name state → Err B6 ≡ actions_on state asked o
judged_gone state asked o named sound gone =
    ap (λ (v : Bool). check (not v) B6 >>= λ there. actions_for state asked.operation (size_of o.oid state) named.size) (gone ∙ ap (λ name. is_gone name state) sound.1)
    ∙ judged_sound state asked o named.size sound.0

-- ---- all objects, one after the other

-- with this room, these offers are the objects as they are judged
pub record HasJudged (asked : BatchForm) (room : ℤ) (some : List shown.Offer) (objects : List given.BatchObject) (state : RepoState) : Type 0 where
  pub room_is : room ≡ state.room
  pub judged : map judged_by some ≡ map (judged_on state asked) (map object_asked objects)

module _ (asked : BatchForm) (room : ℤ) (state : RepoState) where
  -- one object more
  pub judged_more : (some more : List shown.Offer) (objects : List given.BatchObject) (o : given.BatchObject) (actions : Result Actions Rule) → HasJudged asked room some objects state
      → actions ≡ actions_on state asked (object_asked o) → map judged_by more ≡ map judged_by some ++ judged_as (object_asked o) actions ∷ []
      → HasJudged asked room more (objects ++ o ∷ []) state
  judged_more some more objects o actions so_far is added =
      let on = judged_on state asked in
      let whole = ap (map on) (map-append object_asked objects (o ∷ [])) ∙ map-append on (map object_asked objects) (object_asked o ∷ []) in
      record {
        room_is = so_far.room_is;
        judged = added ∙ ap₂ (λ (xs : List Judged) (x : Judged). xs ++ x ∷ []) so_far.judged (ap (judged_as (object_asked o)) is) ∙ sym whole;
      }

-- ---- its actions, as the definitions have them

-- an object that was judged, with its actions at these links
abbrev shown_at : Links → Judged → Offer
shown_at links j = record { oid = j.oid; size = j.size; actions = result_at links j.oid j.actions }

-- the steps to what can be done with an object, and then its actions, are the steps of the definitions
module _ (links : Links) (oid : List ℕ) (state : RepoState) where
  checked : (b : Bool) (rule : Rule) (actions : Actions) → result_at links oid (check b rule >>= λ same. Ok actions) ≡ (check b rule >>= λ same. Ok (actions_at links oid actions))
  checked true rule actions = refl
  checked false rule actions = refl

  downloads_from : (v : Result ℕ Rule) (h k : Result ⊤ Rule) (stored : Option ℕ)
      → result_at links oid ((v >>= λ size. h >>= λ hash. Ok size) >>= λ size. k >>= λ kept. actions_for state operation.Download stored size)
      ≡ (v >>= λ size. h >>= λ hash. k >>= λ kept. ok_or stored B1 >>= λ there. check (there == size) B4 >>= λ same. Ok (actions_at links oid Download))
  downloads_from (Err rule) h k stored = refl
  downloads_from (Ok size) (Err rule) k stored = refl
  downloads_from (Ok size) (Ok hash) (Err rule) stored = refl
  downloads_from (Ok size) (Ok hash) (Ok kept) None = refl
  downloads_from (Ok size) (Ok hash) (Ok kept) (Some there) = checked (there == size) B4 Download

  uploads_from : (v : Result ℕ Rule) (h k : Result ⊤ Rule) (stored : Option ℕ)
      → result_at links oid ((v >>= λ size. h >>= λ hash. Ok size) >>= λ size. k >>= λ kept. actions_for state operation.Upload stored size)
      ≡ (v >>= λ size. h >>= λ hash. k >>= λ kept. unless_stored state (actions_at links oid Upload) stored size)
  uploads_from (Err rule) h k stored = refl
  uploads_from (Ok size) (Err rule) k stored = refl
  uploads_from (Ok size) (Ok hash) (Err rule) stored = refl
  uploads_from (Ok size) (Ok hash) (Ok kept) None = checked (has_room size state) B5 Upload
  uploads_from (Ok size) (Ok hash) (Ok kept) (Some there) = checked (there == size) B4 Stored

module _ (case : Case) (who : Caller) (state : RepoState) (ref : List ℕ) (links : Links) (is_caller : IsCallerOf case who) (are : AreLinksOf case ref links) (asked : BatchForm) where
  abbrev seen : model.Case
  seen = case_with case who state

  abbrev left : links.expires_in ≡ who.expires - case.now
  left = are.expires_in ∙ ap (λ (e : ℕ). e - case.now) is_caller.expires

  download_at : (oid : List ℕ) → actions_at links oid Download ≡ downloads (action_at seen (content_href (case_policy case).base (case_repo case).name oid))
  download_at oid = rw (are.base, are.repo, are.token ∙ is_caller.token, left) refl

  upload_at : (oid : List ℕ) → actions_at links oid Upload ≡ upload_actions seen ref oid
  upload_at oid = rw (are.base, are.repo, are.ref, are.token ∙ is_caller.token, left) refl

  download_is : (o : BatchObject) → asked.operation ≡ operation.Download → shown_at links (judged_on seen.state asked o) ≡ offer (download_of seen asked.hash_algo) o
  download_is o is =
      let v = valid_size o in
      let h = check_hash asked.hash_algo in
      let stored = size_of o.oid seen.state in
      let k = check_gone seen.state o.oid in
      let steps = ap (λ p. result_at links o.oid ((v >>= λ size. h >>= λ hash. Ok size) >>= λ size. k >>= λ kept. actions_for seen.state p stored size)) is
      ∙ downloads_from links o.oid seen.state v h k stored
      ∙ ap (λ (actions : answer.Actions). v >>= λ size. h >>= λ hash. k >>= λ kept. ok_or stored B1 >>= λ there. check (there == size) B4 >>= λ same. Ok actions) (download_at o.oid) in
      ap (λ (r : Result answer.Actions Rule). record { oid = o.oid; size = or_default o.size 0; actions = r }) steps

  upload_is : (o : BatchObject) → asked.operation ≡ operation.Upload → shown_at links (judged_on seen.state asked o) ≡ offer (upload_of seen ref asked.hash_algo) o
  upload_is o is =
      let v = valid_size o in
      let h = check_hash asked.hash_algo in
      let stored = size_of o.oid seen.state in
      let k = check_gone seen.state o.oid in
      let steps = ap (λ p. result_at links o.oid ((v >>= λ size. h >>= λ hash. Ok size) >>= λ size. k >>= λ kept. actions_for seen.state p stored size)) is
      ∙ uploads_from links o.oid seen.state v h k stored
      ∙ ap (λ (actions : answer.Actions). v >>= λ size. h >>= λ hash. k >>= λ kept. unless_stored seen.state actions stored size) (upload_at o.oid) in
      ap (λ (r : Result answer.Actions Rule). record { oid = o.oid; size = or_default o.size 0; actions = r }) steps

  all_alike : {f g : BatchObject → Offer} → ((o : BatchObject) → f o ≡ g o) → (os : List BatchObject) → map f os ≡ map g os
  all_alike same [] = refl
  all_alike same (o ∷ os) = ap₂ (λ x xs. x ∷ xs) (same o) (all_alike same os)

  -- all objects, judged and then shown
  shown_all : (os : List BatchObject) → map (shown_at links) (map (judged_on seen.state asked) os) ≡ map (λ o. shown_at links (judged_on seen.state asked o)) os
  shown_all [] = refl
  shown_all (o ∷ os) = ap (λ xs. shown_at links (judged_on seen.state asked o) ∷ xs) (shown_all os)

  objects_are : (operation : Operation) → asked.operation ≡ operation → ref_or_default asked.ref (case_repo case) ≡ ref
      → map (λ o. shown_at links (judged_on seen.state asked o)) asked.objects ≡ offers_for seen asked operation
  objects_are operation.Download is named = all_alike (λ o. download_is o is) asked.objects
  objects_are operation.Upload is named =
      all_alike (λ o. upload_is o is) asked.objects ∙ ap (λ r. map (offer (upload_of seen r asked.hash_algo)) asked.objects) (sym named)

  may_alike : (operation : Operation) → ref_or_default asked.ref (case_repo case) ≡ ref → may_batch seen asked operation ≡ may_transfer case operation ref
  may_alike operation.Download named = ap (λ (u : List ℕ). may_pull (case_policy case) u (case_repo case).name 404) (sym is_caller.user)
  may_alike operation.Upload named =
      ap₂ (λ (u r : List ℕ). may_push (case_policy case) u (case_repo case).name r) (sym is_caller.user) named

  -- the verdict on a batch that the policy allows
  pub batch_allowed : (some : List shown.Offer) → ref_or_default asked.ref (case_repo case) ≡ ref → may_transfer case asked.operation ref ≡ Ok tt
      → map judged_by some ≡ map (judged_on seen.state asked) asked.objects → batch_verdict seen asked ≡ Ok (offers (map (offer_at links) some))
  batch_allowed some named may judged =
      let objects = shown_each some ∙ ap (map (shown_at links)) judged ∙ shown_all asked.objects ∙ objects_are asked.operation refl named in
      rw (may_alike asked.operation named ∙ may) (ap (λ (os : List Offer). Ok (offers os)) (sym objects))
    where
      shown_each : (os : List shown.Offer) → map (offer_at links) os ≡ map (shown_at links) (map judged_by os)
      shown_each [] = refl
      shown_each (o ∷ os) = ap (λ xs. offer_at links o ∷ xs) (shown_each os)

-- the verdict on a batch that the policy denies
pub batch_denied : (case : Case) (who : Caller) (state : RepoState) (ref : List ℕ) (asked : BatchForm) (denial : Denial) → case_user case ≡ who.user
    → ref_or_default asked.ref (case_repo case) ≡ ref → may_transfer case asked.operation ref ≡ Err denial → batch_verdict (case_with case who state) asked ≡ Err denial
batch_denied case who state ref asked denial user named denied = at asked.operation refl denied
  where
    at : (operation : Operation) → asked.operation ≡ operation → may_transfer case operation ref ≡ Err denial → batch_verdict (case_with case who state) asked ≡ Err denial
    at operation.Download is e = rw (is, sym user, e) refl
    at operation.Upload is e = rw (is, sym user, named, e) refl
