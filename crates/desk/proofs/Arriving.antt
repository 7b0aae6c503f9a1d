-- An upload, from the bytes that arrive to the answer.
use Rattle.desk.proofs.Prelude.{◌≡◌, ◌∙◌, ◌+◌, ◌≤◌, ℕ, Bool, true, false, List, [], ◌++◌, length, replicate, Option, Some, None, is_some, Result, Ok, Err, bytes_eq, refl, sym, ap, subst, arith, take, append-nil, append_assoc, length-append, length-take, IsTrue, nil_from_length, length-replicate, Ghosts, X2, World, Object, name_of, object_named, with_object, Answer, stores, by_rule, store_refusal, content_verdict, Ending, changed, unchanged, failed, answer_ending, StoreFault, Holds, From, Keeps, Ends, leads_none, keeps_still, keeps_then, keeps_ends, ends_then, ends_reported, Receipt, Differs, ReceiveFault, HasRead, object_from, Takes, HasAll, Fills, Carries, Settles, Receives, ReceivesStaged, repo_text, Refused}
use Rattle.std.proofs.lemmas.Bool.{true≢false}
use Rattle.std.proofs.lemmas.Slice.Eq.{bytes_eq-Decides}
use Rattle.names.specs.declared.bodies.Body.{Ghosts as BodyGhosts}
use Rattle.names.specs.Texts.{is_repo}
use Rattle.model.specs.Steps.{after}
use Rattle.store.specs.Shown.{HasTables}
use Rattle.tables.specs.Staging.{upload_number}
use Rattle.tables.specs.declared.rows.UploadId.{UploadId}
use Rattle.refinement.specs.Left.{Gives}
use Rattle.refinement.specs.Staging.{Stages}
use Rattle.chunks.specs.Intakes.{IsCut, IsWhole, HasCounted, HasTaken}
use Rattle.chunks.specs.declared.intake.Intake.{Intake}
use Rattle.chunks.specs.declared.intake.Arrival.{Arrival}
use Rattle.uploads.specs.Removing.{Sweeps}
use Rattle.uploads.specs.Completing.{Staged, bytes_in, object_of, IsAsBegun, Arrives, Completes}
use Rattle.uploads.specs.declared.completing.Kept.{Kept}
use Rattle.uploads.specs.declared.completing.Kept.TheVariants.{New, Already}
use Rattle.uploads.specs.declared.completing.UploadFault.{UploadFault}
use Rattle.uploads.specs.declared.completing.UploadFault.TheVariants as upload_fault
use Rattle.desk.specs.Receiving.{IsReceiving}
use Rattle.desk.specs.declared.receiving.Receipt.TheVariants.{Stored}
use Rattle.desk.specs.declared.receiving.ReceiveFault.TheVariants as fault
use Rattle.desk.specs.declared.slices.Receiving.{Receiving}

-- ---- the content

module _ {B : Type 0} (g : BodyGhosts B) where
  -- no read, or one that failed
  pub read_none : (b c : B) → g.moves b c [] → g.size c ≡ g.size b → HasRead g b c []
  read_none b c moves same = record { moves = moves; size = omega (arith, same) }

  pub read_more : ((one two three : B) (front back : List ℕ) → g.moves one two front → g.moves two three back → g.moves one three (front ++ back))
      → (a b c : B) (xs ys : List ℕ) → HasRead g a b xs → HasRead g b c ys → HasRead g a c (xs ++ ys)
  read_more moves_on a b c xs ys p q = record {
    moves = moves_on a b c xs ys p.moves q.moves;
    size = let e = length-append xs ys in let n = p.size in let m = q.size in omega (arith, e, n, m);
  }

  -- a read into the front of a piece
  pub read_piece : (b c : B) (n : ℕ) (piece : List ℕ) → n ≤ length piece → n + g.size c ≡ g.size b → g.moves b c (take n piece) → HasRead g b c (take n piece)
  read_piece b c n piece within size moves = record {
    moves = moves;
    size = let e = length-take n piece in omega (arith, e, within, size);
  }

-- all of the content was read
pub all_read : (a b c : ℕ) → a + b ≡ c → b ≡ 0 → a ≡ c
all_read a b c sum none = omega (arith, sum, none)

-- ---- the verdict on bytes

has_name : (o : Object) → o.name ≡ name_of o.bytes → content_verdict o ≡ Ok (stores o)
has_name o same = rw ((bytes_eq-Decides o.name (name_of o.bytes)).1 same) refl

lacks_name : (o : Object) → bytes_eq o.name (name_of o.bytes) ≡ false → content_verdict o ≡ Err (by_rule X2)
lacks_name o off = rw off refl

-- an object that is there already changes nothing
same_world : (o : Object) (world : World) → is_some (object_named o.repo o.name world) ≡ true → with_object o world ≡ world
same_world o world there = rw there refl

quiet : (o : Object) (world : World) → is_some (object_named o.repo o.name world) ≡ true → answer_ending world (Some (Ok (stores o))) ≡ unchanged
quiet o world there = at (object_named o.repo o.name world) refl there
  where
    at : (found : Option Object) → object_named o.repo o.name world ≡ found → is_some found ≡ true → answer_ending world (Some (Ok (stores o))) ≡ unchanged
    at None e is = absurd (true≢false (sym is))
    at (Some it) e is = rw e refl

-- the result of a loop that goes on
abbrev pub taken : Result Unit ReceiveFault
taken = Ok tt

-- the receipt that a completion leads to
abbrev pub receipt_of : Result Kept UploadFault → Result Receipt StoreFault
receipt_of (Ok kept) = Ok Stored
receipt_of (Err upload_fault.Differs) = Ok Differs
receipt_of (Err (upload_fault.Store f)) = Err f

-- a fault of the store as the fault of an answer
abbrev pub answered_by : Result Receipt StoreFault → Result Receipt ReceiveFault
answered_by (Ok receipt) = Ok receipt
answered_by (Err f) = Err (fault.Store f)

module _ {S : Type 0} (g : Ghosts S) where
  -- ---- what is answered

  module _ (old new : S) (world : World) where
    -- the world is kept, and the store is reported as refusing
    pub kept_refused : (verdict : Answer) → Keeps g old new world → Gives g old new world verdict store_refusal
    kept_refused verdict keeps = ends_reported g old new world (after world (Some verdict)) keeps

    carried_new : (o : Object) → content_verdict o ≡ Ok (stores o) → object_named o.repo o.name world ≡ None → Ends g old new changed world (with_object o world) (with_object o world) → Carries g old new world o (Ok Stored)
    carried_new o stored free ends =
        let ending : changed ≡ answer_ending world (Some (Ok (stores o))) = rw free refl in (
          stored,
          subst (λ (v : Answer). Gives g old new world v v) (sym stored)
              (subst (λ (e : Ending). Ends g old new e world (with_object o world) (with_object o world)) ending ends),
        )

    carried_again : (o : Object) → content_verdict o ≡ Ok (stores o) → is_some (object_named o.repo o.name world) ≡ true → Keeps g old new world → Carries g old new world o (Ok Stored)
    carried_again o stored there keeps = (
      stored,
      subst (λ (v : Answer). Gives g old new world v v) (sym stored)
          (subst (λ (e : Ending). Ends g old new e world (with_object o world) (with_object o world)) (sym (quiet o world there))
          (subst (λ (w : World). Ends g old new unchanged world w w) (sym (same_world o world there)) keeps)),
    )

    carried_other : (o : Object) → bytes_eq o.name (name_of o.bytes) ≡ false → Keeps g old new world → Carries g old new world o (Ok Differs)
    carried_other o off keeps = (lacks_name o off, subst (λ (v : Answer). Gives g old new world v v) (sym (lacks_name o off)) keeps)

    module _ (id : UploadId) (upload : Staged) (all : upload.size ≡ length (bytes_in upload)) where
      abbrev object : Object
      object = object_from upload.repo upload.name (bytes_in upload)

      same_object : IsAsBegun upload → object_of upload ≡ object
      same_object begun = ap (λ (n : List ℕ). object_from upload.repo n (bytes_in upload)) begun.0

      as_begun : bytes_eq upload.name (name_of (bytes_in upload)) ≡ true → IsAsBegun upload
      as_begun is = (sym ((bytes_eq-Decides upload.name (name_of (bytes_in upload))).0 is), sym all)

      not_begun : bytes_eq upload.name (name_of (bytes_in upload)) ≡ false → IsAsBegun upload → ⊥
      not_begun off begun = true≢false (sym ((bytes_eq-Decides upload.name (name_of (bytes_in upload))).1 (sym begun.0)) ∙ off)

      differs : (b : Bool) → bytes_eq upload.name (name_of (bytes_in upload)) ≡ b → Completes g world id upload old new (Err upload_fault.Differs) → Carries g old new world object (Ok Differs)
      differs true is done = absurd (done.0 (as_begun is))
      differs false is done = carried_other object is done.1

      refused : (b : Bool) (f : StoreFault) → bytes_eq upload.name (name_of (bytes_in upload)) ≡ b → Completes g world id upload old new (Err (upload_fault.Store f)) → Carries g old new world object (Err f)
      refused true f is done =
          let begun = as_begun is in
          subst (λ (v : Answer). Gives g old new world v store_refusal) (sym (has_name object (sym begun.0)))
          (subst (λ (o : Object). Ends g old new failed world (with_object o world) world) (same_object begun) done.0)
      refused false f is done = kept_refused (content_verdict object) (done.1 (not_begun is))

      -- a completion is carried out as its receipt reports
      pub completed : (r : Result Kept UploadFault) → Completes g world id upload old new r → Carries g old new world object (receipt_of r)
      completed (Ok New) done =
          carried_new object (has_name object (sym done.0.0)) done.1 (subst (λ (o : Object). Ends g old new changed world (with_object o world) (with_object o world)) (same_object done.0) done.2)
      completed (Ok Already) done = carried_again object (has_name object (sym done.0.0)) done.1 done.2
      completed (Err upload_fault.Differs) done = differs (bytes_eq upload.name (name_of (bytes_in upload))) refl done
      completed (Err (upload_fault.Store f)) done = refused (bytes_eq upload.name (name_of (bytes_in upload))) f refl done

  pub settled : (old new : S) (id : UploadId) (arrival : Arrival) (r : Result Kept UploadFault)
      → From g old new (λ world. (upload : Staged) → Arrives g old id upload arrival.last arrival.name arrival.size → Completes g world id upload old new r)
      → From g old new (Settles g old new id arrival (receipt_of r))
  settled old new id arrival r done = record {
    honest = done.honest;
    each = λ honest world h repo name bytes is_repo all.
        let it = all.arrived in
        let upload : Staged = record { repo = repo; name = name; size = arrival.size; pieces = it.pieces; last = arrival.last.bytes.items } in
        let arrives : Arrives g old id upload arrival.last arrival.name arrival.size = record {
          repo = is_repo;
          next = it.whole.next;
          last = refl;
          stages = it.staged;
          name = all.named ∙ ap name_of (sym it.whole.all);
          length = all.counted ∙ ap length (sym it.whole.all);
        } in
        subst (λ (b : List ℕ). Carries g old new world (object_from repo name b) (receipt_of r)) it.whole.all
        (completed old new world id upload arrives.length r (done.each honest world h upload arrives));
  }

  -- the same after a call that kept the world
  carries_then : (a b c : S) (world : World) (o : Object) (r : Result Receipt StoreFault) → Keeps g a b world → Carries g b c world o r → Carries g a c world o r
  carries_then a b c world o (Ok receipt) keeps done = (done.0, keeps_ends g a b c (answer_ending world (Some (content_verdict o))) world (after world (Some (content_verdict o))) (after world (Some (content_verdict o))) keeps done.1)
  carries_then a b c world o (Err f) keeps done = keeps_ends g a b c failed world (after world (Some (content_verdict o))) world keeps done

  -- ---- the loop

  module _ (a : S) (i : Intake) where
    pub takes_none : From g a a (Takes g a i a i [] taken)
    takes_none = record {
      honest = λ k. k;
      each = λ k world h repo name size bytes had. (
        keeps_still g a a world (leads_none g a world h),
        subst (HasTaken g a i repo name size) (sym (append-nil bytes)) had,
      );
    }

    -- what happened before a fault
    pub takes_failed : (b : S) (j : Intake) (xs ys : List ℕ) (e : ReceiveFault) → From g a b (Takes g a i b j xs taken) → From g a b (Takes g {T = Unit} a i b j ys (Err e))
    takes_failed b j xs ys e so_far = record {
      honest = so_far.honest;
      each = λ k world h repo name size bytes had. ((so_far.each k world h repo name size bytes had).0, tt);
    }

    module _ (b c : S) (j k : Intake) (xs : List ℕ) (so_far : From g a b (Takes g a i b j xs taken))
        (kept : From g b c (λ world. (repo name : List ℕ) (size : ℕ) (bytes : List ℕ) → HasTaken g b j repo name size bytes → Keeps g b c world)) where
      pub takes_more : (piece ys : List ℕ) → piece ≡ ys
          → (HasTables g b → (repo name : List ℕ) (size : ℕ) (bytes : List ℕ) → HasTaken g b j repo name size bytes → HasTaken g c k repo name size (bytes ++ piece))
          → From g a c (Takes g a i c k (xs ++ ys) taken)
      takes_more piece ys same step = record {
        honest = λ clean. so_far.honest (kept.honest clean);
        each = λ clean world h repo name size bytes had.
            let it = so_far.each (kept.honest clean) world h repo name size bytes had in (
              keeps_then g a b c world it.0 (kept.each clean world it.0.holds repo name size (bytes ++ xs) it.1),
              subst (λ (more : List ℕ). HasTaken g c k repo name size (bytes ++ (xs ++ more))) same
                  (subst (HasTaken g c k repo name size) (append_assoc bytes xs piece) (step it.0.holds.ready repo name size (bytes ++ xs) it.1)),
            );
      }

      pub takes_refused : (ys : List ℕ) (e : ReceiveFault) → From g a c (Takes g {T = Unit} a i c k ys (Err e))
      takes_refused ys e = record {
        honest = λ clean. so_far.honest (kept.honest clean);
        each = λ clean world h repo name size bytes had.
            let it = so_far.each (kept.honest clean) world h repo name size bytes had in
            (keeps_then g a b c world it.0 (kept.each clean world it.0.holds repo name size (bytes ++ xs) it.1), tt);
      }

  -- ---- from the upload to the answer

  -- whatever the fault is, the world is kept
  pub received_none : (old new : S) (world : World) (repo name bytes : List ℕ) (left : ℕ) (e : ReceiveFault) → Keeps g old new world → Receives g old new world repo name bytes left (Err e)
  received_none old new world repo name bytes left (fault.Store f) keeps = (λ rest is. kept_refused old new world (content_verdict (object_from repo name (bytes ++ rest))) keeps, λ some. keeps)
  received_none old new world repo name bytes left (fault.Body f) keeps = keeps

  -- the fault is reported as one of the store
  pub as_refused : (old new : S) (world : World) (repo name bytes : List ℕ) (left : ℕ) (e : ReceiveFault) → Receives g old new world repo name bytes left (Err e) → Receives g old new world repo name bytes left (Err (fault.Store Refused))
  as_refused old new world repo name bytes left (fault.Store f) done = done
  as_refused old new world repo name bytes left (fault.Body f) keeps = received_none old new world repo name bytes left (fault.Store Refused) keeps

  -- no content is left
  received_all : (old new : S) (world : World) (repo name bytes : List ℕ) (left : ℕ) (r : Result Receipt StoreFault) → left ≡ 0 → Carries g old new world (object_from repo name bytes) r
      → Receives g old new world repo name bytes left (answered_by r)
  received_all old new world repo name bytes left (Ok receipt) none done = done
  received_all old new world repo name bytes left (Err f) none done = (
    λ rest is. subst (λ (all : List ℕ). Carries g old new world (object_from repo name all) (Err f)) (sym (ap (λ (more : List ℕ). bytes ++ more) (nil_from_length rest (is ∙ none)) ∙ append-nil bytes)) done,
    λ some. absurd (omega (arith, none, some)),
  )

  -- ---- all of the upload

  module _ (i : Intake) (id : UploadId) (arrival : Arrival)
      (named : (bytes : List ℕ) → HasCounted i.hasher i.taken bytes → (arrival.name ≡ name_of bytes) × (arrival.size ≡ length bytes))
      (whole : (pieces : List (List ℕ)) (bytes : List ℕ) → IsCut i.written i.last.items pieces bytes → IsWhole pieces arrival.last bytes) where
    -- the bytes that the intake took arrived
    all_taken : (s : S) (repo name : List ℕ) (size : ℕ) (bytes : List ℕ) → i.upload ≡ id → HasTaken g s i repo name size bytes → HasAll g s id arrival repo name size bytes
    all_taken s repo name size bytes same had =
        let cuts = had.cuts in
        let says = named bytes had.counted in
        record {
          arrived = record {
            pieces = cuts.pieces;
            whole = whole cuts.pieces bytes cuts.cut;
            staged = subst (λ (u : UploadId). Stages g s (upload_number u) repo name size cuts.pieces) same cuts.staged;
          };
          named = says.0;
          counted = says.1;
        }

    -- they are all of the upload, which was answered
    pub ended : (a b : S) (r : Result Receipt StoreFault) → From g a b (Settles g a b id arrival r)
        → From g a b (λ world. (repo name bytes : List ℕ) → IsTrue (is_repo repo) → i.upload ≡ id → HasTaken g a i repo name (length bytes) bytes → Receives g a b world repo name bytes 0 (answered_by r))
    ended a b r settled = record {
      honest = settled.honest;
      each = λ clean world h repo name bytes is same had.
          let all = all_taken a repo name (length bytes) bytes same had in
          received_all a b world repo name bytes 0 r refl (settled.each clean world h repo name bytes is (subst (λ (n : ℕ). HasAll g a id arrival repo name n bytes) (sym all.counted) all));
    }

  module _ (a : S) (i : Intake) (id : UploadId) (size : ℕ) (same : i.upload ≡ id) (limit : i.size ≡ size) (empty : IsCut i.written i.last.items [] [] × HasCounted i.hasher i.taken []) where
    -- an intake that begins has taken no byte
    pub taken_none : (repo name : List ℕ) → Stages g a (upload_number id) repo name size [] → HasTaken g a i repo name size []
    taken_none repo name stages = record {
      limit = limit;
      within = omega arith;
      counted = empty.1;
      cuts = record {
        pieces = [];
        cut = empty.0;
        staged = subst (λ (u : UploadId). Stages g a (upload_number u) repo name size []) (sym same) stages;
      };
    }

    pub fills_failed : (b : S) (j : Intake) (bytes : List ℕ) (r : Result Unit ReceiveFault) (e : ReceiveFault) → From g a b (Takes g a i b j bytes r) → From g a b (Fills g a b id size bytes (Err e))
    fills_failed b j bytes r e so_far = record {
      honest = so_far.honest;
      each = λ clean world h repo name stages. ((so_far.each clean world h repo name size [] (taken_none repo name stages)).0, tt);
    }

    pub fills_all : (b : S) (j : Intake) (bytes : List ℕ) (arrival : Arrival) → j.upload ≡ i.upload → From g a b (Takes g a i b j bytes taken)
        → ((bytes : List ℕ) → HasCounted j.hasher j.taken bytes → (arrival.name ≡ name_of bytes) × (arrival.size ≡ length bytes))
        → ((pieces : List (List ℕ)) (bytes : List ℕ) → IsCut j.written j.last.items pieces bytes → IsWhole pieces arrival.last bytes)
        → From g a b (Fills g {E = ReceiveFault} a b id size bytes (Ok arrival))
    fills_all b j bytes arrival upload so_far named whole = record {
      honest = so_far.honest;
      each = λ clean world h repo name stages.
          let it = so_far.each clean world h repo name size [] (taken_none repo name stages) in
          (it.0, all_taken j id arrival named whole b repo name size bytes (upload ∙ same) it.1);
    }

  module _ (a : S) (id : UploadId) (size : ℕ) where
    -- a fault ended the content
    pub staged_part : (b : S) (bytes : List ℕ) (left : ℕ) (r : Result Arrival ReceiveFault) (e : ReceiveFault) → From g a b (Fills g a b id size bytes r) → From g a b (ReceivesStaged g a b id size bytes left (Err e))
    staged_part b bytes left r e filled = record {
      honest = filled.honest;
      each = λ clean world h repo name is whole stages. received_none a b world repo name bytes left e (filled.each clean world h repo name stages).0;
    }

    -- all of it arrived
    pub staged_all : (b c : S) (bytes : List ℕ) (left : ℕ) (arrival : Arrival) (r : Result Receipt StoreFault) → left ≡ 0 → From g a b (Fills g {E = ReceiveFault} a b id size bytes (Ok arrival))
        → From g b c (Settles g b c id arrival r) → From g a c (ReceivesStaged g a c id size bytes left (answered_by r))
    staged_all b c bytes left arrival r none filled settled = record {
      honest = λ clean. filled.honest (settled.honest clean);
      each = λ clean world h repo name is whole stages.
          let more = filled.each (settled.honest clean) world h repo name stages in
          let counted = more.1.counted in
          let same : size ≡ arrival.size = omega (arith, whole, none, counted) in
          let all = subst (λ (n : ℕ). HasAll g b id arrival repo name n bytes) same more.1 in
          received_all a c world repo name bytes left r none (carries_then a b c world (object_from repo name bytes) r more.0 (settled.each clean world more.0.holds repo name bytes is all));
    }

  -- ---- what an upload left is removed

  -- nothing was done
  pub kept_none : (a : S) → From g a a (Keeps g a a)
  kept_none a = record { honest = λ k. k; each = λ k world h. keeps_still g a a world (leads_none g a world h) }

  -- all staged uploads were removed, or some of them
  pub swept_keeps : (a b : S) (world : World) (r : Result ℕ StoreFault) → Sweeps g world a b r → Keeps g a b world
  swept_keeps a b world (Ok n) swept = swept.0
  swept_keeps a b world (Err f) keeps = keeps

  module _ (a b c : S) (world : World) (keeps : (kept : World) → Holds g b kept → Keeps g b c kept) where
    stored_then : (o : Object) (found : Option Object) → object_named o.repo o.name world ≡ found → Carries g a b world o (Ok Stored) → Carries g a c world o (Ok Stored)
    stored_then o None free done =
        let made = with_object o world in
        let ending : answer_ending world (Some (Ok (stores o))) ≡ changed = rw free refl in
        let ends : Ends g a b changed world made made = subst (λ (e : Ending). Ends g a b e world made made) ending (subst (λ (v : Answer). Gives g a b world v v) done.0 done.1) in
        carried_new a c world o done.0 free (ends_then g a b c world made changed ends (keeps made ends.holds))
    stored_then o (Some it) is done =
        let made = with_object o world in
        let there : is_some (object_named o.repo o.name world) ≡ true = ap is_some is in
        let ends : Ends g a b unchanged world made made = subst (λ (e : Ending). Ends g a b e world made made) (quiet o world there) (subst (λ (v : Answer). Gives g a b world v v) done.0 done.1) in
        let kept : Keeps g a b world = subst (λ (w : World). Ends g a b unchanged world w w) (same_world o world there) ends in
        carried_again a c world o done.0 there (keeps_then g a b c world kept (keeps world kept.holds))

  module _ (repo name bytes : List ℕ) (left : ℕ) (world : World) where
    received_then : (a b c : S) (r : Result Receipt ReceiveFault) → Keeps g a b world → Receives g b c world repo name bytes left r → Receives g a c world repo name bytes left r
    received_then a b c (Ok receipt) keeps done = carries_then a b c world (object_from repo name bytes) (Ok receipt) keeps done
    received_then a b c (Err (fault.Store f)) keeps done = (λ rest is. carries_then a b c world (object_from repo name (bytes ++ rest)) (Err f) keeps (done.0 rest is), λ some. keeps_then g a b c world keeps (done.1 some))
    received_then a b c (Err (fault.Body cut)) keeps done = keeps_then g a b c world keeps done

    then_cleared : (a b c : S) (r : Result Receipt ReceiveFault) → Receives g a b world repo name bytes left r → ((kept : World) → Holds g b kept → Keeps g b c kept) → Receives g a c world repo name bytes left r
    then_cleared a b c (Ok Stored) done keeps = stored_then a b c world keeps (object_from repo name bytes) (object_named repo name world) refl done
    then_cleared a b c (Ok Differs) done keeps =
        let kept : Keeps g a b world = subst (λ (v : Answer). Gives g a b world v v) done.0 done.1 in
        (done.0, subst (λ (v : Answer). Gives g a c world v v) (sym done.0) (keeps_then g a b c world kept (keeps world kept.holds)))
    then_cleared a b c (Err (fault.Store f)) done keeps =
        let kept = keeps world (done.0 (replicate left 0) (length-replicate left 0)).holds in (
          λ rest is. ends_then g a b c world (after world (Some (content_verdict (object_from repo name (bytes ++ rest))))) failed (done.0 rest is) kept,
          λ some. keeps_then g a b c world (done.1 some) kept,
        )
    then_cleared a b c (Err (fault.Body cut)) done keeps = keeps_then g a b c world done (keeps world done.holds)

  -- an upload was begun, its content was received, and what it left was removed or not
  pub received : (a b c d : S) (id : UploadId) (repo name : List ℕ) (size : ℕ) (bytes : List ℕ) (left : ℕ) (r : Result Receipt ReceiveFault) → IsTrue (is_repo repo) → length bytes + left ≡ size
      → From g a b (λ world. Keeps g a b world × Stages g b (upload_number id) repo name size []) → From g b c (ReceivesStaged g b c id size bytes left r) → From g c d (Keeps g c d)
      → From g a d (λ world. Receives g a d world repo name bytes left r)
  received a b c d id repo name size bytes left r is whole begun came cleared = record {
    honest = λ clean. begun.honest (came.honest (cleared.honest clean));
    each = λ clean world h.
        let it = begun.each (came.honest (cleared.honest clean)) world h in
        let done = came.each (cleared.honest clean) world it.0.holds repo name is (sym whole) it.1 in
        then_cleared repo name bytes left world a c d r (received_then repo name bytes left world a b c r it.0 done) (cleared.each clean);
  }

  -- all of an upload arrived and was answered, and what it left was removed or not
  pub completed_all : (a b c : S) (r : Receiving) (done : Result Receipt ReceiveFault)
      → From g a b (λ world. (repo name bytes : List ℕ) → IsTrue (is_repo repo) → r.intake.upload ≡ r.upload → HasTaken g a r.intake repo name (length bytes) bytes → Receives g a b world repo name bytes 0 done)
      → From g b c (Keeps g b c) → From g a c (λ world. (bytes : List ℕ) → IsReceiving g a r bytes → r.left ≡ 0 → Receives g a c world (repo_text r.repo) r.name bytes 0 done)
  completed_all a b c r done ended cleared = record {
    honest = λ clean. ended.honest (cleared.honest clean);
    each = λ clean world h bytes it none.
        let had = subst (λ (n : ℕ). HasTaken g a r.intake (repo_text r.repo) r.name n bytes) (sym (all_read (length bytes) r.left r.size it.left none)) it.taken in
        then_cleared (repo_text r.repo) r.name bytes 0 world a b c done (ended.each (cleared.honest clean) world h (repo_text r.repo) r.name bytes r.repo.in_range it.upload had) (cleared.each clean);
  }
