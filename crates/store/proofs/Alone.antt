-- A database alone is a store, which shows its chunks in order, for proofs in other crates.
use Rattle.std.proofs.Common.{◌≡◌, inl, inr, ℕ, List, Option, Result, Ok, Err, OnOk, OnErr, refl, ap, ◌∙◌}
use Rattle.std.specs.Prelude.{IfOk}
use Rattle.sqlite_trees.specs.declared.store.Store as trees
use Rattle.tables.specs.Rows.{Tables}
use Rattle.tables.specs.declared.fault.StoreFault.{StoreFault}
use Rattle.tables.specs.declared.Store as tables
use Rattle.tables.specs.Shown as database
use Rattle.tables.specs.Seeking as seeking
use Rattle.tables.specs.Staging.{upload_number, asked_upload, after_begin}
use Rattle.tables.specs.declared.new_rows.NewUpload.{NewUpload}
use Rattle.tables.specs.declared.rows.UploadId.{UploadId}
use Rattle.tables.specs.declared.rows.UploadRow.{UploadRow}
use Rattle.store.specs.Normal.{normal}
use Rattle.store.specs.Database.{alone}
use Rattle.tables.proofs.Marked.{uploads_marked}
use Rattle.store.specs.Shown.{HasTables, Moves, AddsNothing, IsDurable, Makes, Puts, Fails, Reads, Changes, PutsOr, Begins, Finds}
use Rattle.store.proofs.Steps.{normal-again, begin-agrees}

pub has_tables : {S : Type 0} (g : trees.Ghosts S) (s : tables.Store S) → database.HasTables g s → HasTables (alone g) s
has_tables g s kept = record { kept = kept; ordered = λ k o. normal-again (database.shown g s); marked = λ k o. uploads_marked g s kept k o }

module _ {S : Type 0} (g : trees.Ghosts S) (old new : tables.Store S) where
  ready : (database.HasTables g old → database.HasTables g new) → HasTables (alone g) old → HasTables (alone g) new
  ready stays h = has_tables g new (stays h.kept)

  still_moves : database.Moves g (λ t. t) old new → Moves (alone g) (λ t. t) old new
  still_moves m = record { was_honest = m.was_honest; was_open = m.was_open; ready = ready m.ready; shows = λ k h o. ap normal (m.shows k h.kept o) }

  adds_nothing : database.AddsNothing g old new → AddsNothing (alone g) old new
  adds_nothing a = record { was_honest = a.was_honest; outcomes = λ k t left. ((left.0.0, a.outcomes k left.0.0 left.0.1, left.0.2), left.1); safe = a.safe }

  -- a call that only reads
  pub reads : {T : Type 0} (r : Result T StoreFault) (P : Tables → T → Type 0) (Q : Tables → T → Type 0) → ((t : Tables) (x : T) → P t x → Q (normal t) x)
      → database.Reads g old new r P → Reads (alone g) old new r Q
  reads r P Q says e = record {
    answers = λ k h. answered r (e.answers k h.kept);
    same = still_moves e.same;
    adds = adds_nothing e.adds;
  }
    where
      answered : (q : Result _ StoreFault) → IfOk q (λ x. database.IsOpen g old × P (database.shown g old) x) → IfOk q (λ x. database.IsOpen g old × Q (normal (database.shown g old)) x)
      answered (Ok x) it = (it.0, says (database.shown g old) x it.1)
      answered (Err f) it = tt

  -- the same, if its value is made into another one
  module _ {T U : Type 0} (P : Tables → T → Type 0) (Q : Tables → U → Type 0) where
    pub reads_ok : (x : T) (y : U) → ((t : Tables) → P t x → Q (normal t) y) → database.Reads g old new (Ok x) P → Reads (alone g) old new (Ok y) Q
    reads_ok x y says e = record {
      answers = λ k h. let it = e.answers k h.kept in (it.0, says (database.shown g old) it.1);
      same = still_moves e.same;
      adds = adds_nothing e.adds;
    }

    pub reads_err : (fault : StoreFault) → database.Reads g old new (Err fault) P → Reads (alone g) old new (Err fault) Q
    reads_err fault e = record { answers = λ k h. tt; same = still_moves e.same; adds = adds_nothing e.adds }

  module _ (step after : Tables → Tables) (agree : (t : Tables) → normal (step t) ≡ after (normal t)) where
    moves : database.Moves g step old new → Moves (alone g) after old new
    moves m = record {
      was_honest = m.was_honest;
      was_open = m.was_open;
      ready = ready m.ready;
      shows = λ k h o. ap normal (m.shows k h.kept o) ∙ agree (database.shown g old);
    }

    durable : database.IsDurable g new → IsDurable (alone g) new
    durable d = record { only = λ k t left. inl (left.0.2 ∙ ap normal (d.only k left.0.0 left.0.1)); safe = d.safe }

    pub makes : database.Makes g step old new → Makes (alone g) after old new
    makes m = record { moves = moves m.moves; was_open = m.was_open; is_open = m.is_open; durable = λ h. durable (m.durable h.kept) }

    puts : database.Makes g step old new → Puts (alone g) after old new
    puts m = record {
      moves = moves m.moves;
      adds = λ h. record {
        was_honest = m.moves.was_honest;
        outcomes = λ k t left. inr (
          m.was_open k,
          after (normal (database.shown g old)),
          refl,
          inl (left.0.2 ∙ ap normal ((m.durable h.kept).only k left.0.0 left.0.1 ∙ m.moves.shows k h.kept (m.is_open k)) ∙ agree (database.shown g old)),
        );
        safe = λ k _. (m.durable h.kept).safe k;
      };
    }

    fails : database.Fails g step old new → Fails (alone g) after old new
    fails f = record {
      moves = still_moves f.moves;
      adds = λ h. let a = f.adds h.kept in record {
        was_honest = a.was_honest;
        outcomes = λ k t left. elim (a.outcomes k left.0.0 left.0.1) [
          | inl was ↦ inl ((left.0.0, was, left.0.2), left.1)
          | inr it ↦ inr (it.0, after (normal (database.shown g old)), refl, inl (left.0.2 ∙ ap normal it.1 ∙ agree (database.shown g old)))
        ];
        safe = a.safe;
      };
    }

    module _ {T : Type 0} (r : Result T StoreFault) (P Q : Tables → T → Type 0) (says : (t : Tables) (x : T) → P t x → Q (normal t) x) (e : database.Changes g old new r step P) where
      answered : (q : Result T StoreFault) → IfOk q (λ x. database.IsOpen g old × P (database.shown g old) x) → IfOk q (λ x. database.IsOpen g old × Q (normal (database.shown g old)) x)
      answered (Ok x) it = (it.0, says (database.shown g old) x it.1)
      answered (Err f) it = tt

      made : (q : Result T StoreFault) → OnOk q (database.Makes g step old new) → OnOk q (Makes (alone g) after old new)
      made (Ok x) m = makes m
      made (Err f) m = tt

      put : (q : Result T StoreFault) → OnOk q (database.Makes g step old new) → OnOk q (Puts (alone g) after old new)
      put (Ok x) m = puts m
      put (Err f) m = tt

      failed : (q : Result T StoreFault) → OnErr q (database.Fails g step old new) → OnErr q (Fails (alone g) after old new)
      failed (Ok x) f = tt
      failed (Err fault) f = fails f

      -- a call that makes a step
      pub changes : Changes (alone g) old new r after Q
      changes = record { answers = λ k h. answered r (e.answers k h.kept); made = made r e.made; failed = failed r e.failed }

      -- the same, if a stop need not leave it
      pub puts_or : PutsOr (alone g) old new r after Q
      puts_or = record { answers = λ k h. answered r (e.answers k h.kept); made = put r e.made; failed = failed r e.failed }

  -- the call that finds the staged upload of a repository
  pub finds : (repo : List ℕ) (r : Result (Option UploadRow) StoreFault) → seeking.Finds g old new repo r → Finds (alone g) old new repo r
  finds repo r e = record { answers = λ k h. e.answers k h.kept; same = still_moves e.same; adds = adds_nothing e.adds }

  -- the call that begins an upload
  pub begins : (r : Result UploadId StoreFault) (asked : NewUpload) → database.Begins g old new r asked → Begins (alone g) old new r asked
  begins (Ok id) asked e = record {
    answers = λ k h. e.answers k h.kept;
    made = makes (after_begin (asked_upload asked (upload_number id))) (after_begin (asked_upload asked (upload_number id))) (begin-agrees (asked_upload asked (upload_number id))) e.made;
    failed = tt;
  }
  begins (Err fault) asked e = record {
    answers = λ k h. tt;
    made = tt;
    failed = record {
      moves = still_moves e.failed.moves;
      adds = λ h. let a = e.failed.adds h.kept in record {
        was_honest = a.was_honest;
        outcomes = λ k t left. elim (a.outcomes k left.0.0 left.0.1) [
          | inl was ↦ inl ((left.0.0, was, left.0.2), left.1)
          | inr it ↦ inr (it.0, normal left.0.0, (it.1.0, it.1.1, ap normal it.1.2 ∙ begin-agrees (asked_upload asked it.1.0) (database.shown g old)), inl left.0.2)
        ];
        safe = a.safe;
      };
    };
  }
