-- From the contract of a function on a connection to that of a call on the store.
use Rattle.tables.proofs.Prelude.{◌≡◌, List, Bool, true, false, None, Result, Ok, Err, OnOk, IsTrue, arith, inl, inr, refl, sym, ap, subst, ◌∙◌, true≢false, Database, Held, state, Ghosts, Store, StoreFault, Tables, Upload, tables_of, IsReady, IsKept, Keeps, Looks, Commits, Transacts, IsHonest, IsOpen, HasTables, Moves, Adds, Makes, Reads, Changes, shown}
use Rattle.tables.proofs.Once.{same_tables}
use Rattle.tables.specs.Remembered.{KnowsStaged}
use Rattle.tables.specs.Calls as call
use Rattle.tables.proofs.Recalled.{KeepsKnown}

module _ {S : Type 0} (g : Ghosts S) (old new : Store S) where
  -- what the store remembered of uploads, it still knows
  abbrev pub Recalls : Type 0
  Recalls = (us : List Upload) → KnowsStaged old.staged us → KnowsStaged new.staged us

  -- a call after which the store shows what it did
  pub keeps_moves : Recalls → (IsHonest g new → IsHonest g old) → (IsHonest g new → Keeps (state g old.conn) (state g new.conn)) → Moves g (λ t. t) old new
  keeps_moves recalls honest keeps = record {
    was_honest = honest;
    was_open = λ k. (keeps k).was_open;
    ready = λ had. record {
      ready = λ clean is_open. let same = keeps clean in subst IsKept (sym (same.now is_open)) (had.ready (honest clean) (same.was_open is_open));
      known = λ clean is_open. let same = keeps clean in
          recalls (shown g new).uploads (subst (λ (d : Database). KnowsStaged old.staged (tables_of d).uploads) (sym (same.now is_open)) (had.known (honest clean) (same.was_open is_open)));
    };
    shows = λ k _ is_open. ap tables_of ((keeps k).now is_open);
  }

  -- the same, if what it leaves is no more than before
  pub reads_from : {T U : Type 0} (r : Result T StoreFault) (q : Result U StoreFault) (P : Tables → T → Type 0) (Q : Tables → U → Type 0)
      → Recalls → Looks g old.conn new.conn r P → call.Answers g old.conn new.conn q Q → Reads g old new q Q
  reads_from r q P Q recalls looks answers =
      let honest : IsHonest g new → IsHonest g old = λ k. omega (arith, k, looks.survives.clean) in
      record {
        answers = λ k had. answers k had.ready;
        same = keeps_moves recalls honest looks.same;
        adds = record {
          was_honest = honest;
          outcomes = λ k t left. elim (looks.survives.crash k left.0.trees left.2) [ inl before ↦ (left.0, left.1, before, left.3) | inr none ↦ absurd none ];
          safe = λ k safe trees left. elim (looks.survives.crash k trees left) [ inl before ↦ safe trees before | inr none ↦ absurd none ];
        };
      }

  -- a store that has to be open if it has the tables
  pub was_open : (IsHonest g new → HasTables g old → IsOpen g old) → IsHonest g new → IsOpen g old
  was_open if_ready k = go (state g old.conn).is_open refl
    where
      go : (b : Bool) → (state g old.conn).is_open ≡ b → IsTrue (state g old.conn).is_open
      go true is = is
      go false is = let never = λ (is_open : IsOpen g old). let e : false ≡ true = sym is ∙ is_open in true≢false (sym e) in if_ready k record { ready = λ _ o. absurd (never o); known = λ _ o. absurd (never o) }

  module _ {T : Type 0} (f : Tables → Tables) where
    pub outcomes : (r : Result T StoreFault) → Commits g (IsReady (state g old.conn)) old.conn new.conn r f → HasTables g old → Adds g f old new
    outcomes r commits had = record {
      was_honest = commits.clean;
      outcomes = λ k t left. elim ((commits.stop had.ready).crash k left.0.trees left.2) [
        | inl before ↦ inl (left.0, left.1, before, left.3)
        | inr after ↦ inr (after.1, left.3 ∙ same_tables left.0 after.0 left.1 after.2.kept after.3 ∙ after.2.tables)
      ];
      safe = λ k safe trees left. elim ((commits.stop had.ready).crash k trees left) [ inl before ↦ safe trees before | inr after ↦ (after.0, after.2.kept, after.3) ];
    }

    -- a call that committed its step
    pub makes : {x : T} → ((t : Tables) → IsHonest g new → HasTables g old → t ≡ shown g old → KnowsStaged new.staged (f t).uploads) → Commits g (IsReady (state g old.conn)) old.conn new.conn (Ok x) f → Makes g f old new
    makes knows commits =
        let opened : IsHonest g new → IsOpen g old = was_open (λ clean had. (commits.ok clean had.ready).0) in
        record {
          moves = record {
            was_honest = commits.clean;
            was_open = λ k _. opened k;
            ready = λ had. record {
              ready = λ clean _. (commits.ok clean had.ready).1.kept;
              known = λ clean _. subst (λ (t : Tables). KnowsStaged new.staged t.uploads) (sym (commits.ok clean had.ready).1.tables) (knows (shown g old) clean had refl);
            };
            shows = λ k had _. (commits.ok k had.ready).1.tables;
          };
          was_open = opened;
          is_open = commits.is_open;
          durable = λ had. record {
            only = λ k t left. left.3 ∙ same_tables left.0 (state g new.conn).now left.1 (commits.ok k had.ready).1.kept (commits.saved k left.0.trees left.2);
            safe = λ k trees left. ((state g new.conn).now, (commits.ok k had.ready).1.kept, commits.saved k trees left);
          };
        }

-- calls that leave what the store remembers
module _ {S : Type 0} (g : Ghosts S) (old : Store S) (conn : Held S) where
  abbrev left : Store S
  left = record old { conn = conn }

  pub looks_reads : {T U : Type 0} (r : Result T StoreFault) (q : Result U StoreFault) (P : Tables → T → Type 0) (Q : Tables → U → Type 0)
      → Looks g old.conn conn r P → call.Answers g old.conn conn q Q → Reads g old left q Q
  looks_reads r q P Q = reads_from g old left r q P Q (λ us h. h)

  pub transacts_changes : {T : Type 0} (f : Tables → Tables) (r : Result T StoreFault) (P : Tables → T → Type 0) → KeepsKnown f → Transacts g old.conn conn r f P → Changes g old left r f P
  transacts_changes f (Ok x) P keeps it = record {
    answers = λ k had. it.answers k had.ready;
    made = makes g old left f (λ t k had is. keeps old.staged t (subst (λ (u : Tables). KnowsStaged old.staged u.uploads) (sym is) (had.known (it.commits.clean k) (was_open g old left (λ clean had. (it.commits.ok clean had.ready).0) k)))) it.commits;
    failed = tt;
  }
  transacts_changes f (Err e) P keeps it = record {
    answers = λ _ _. tt;
    made = tt;
    failed = record { moves = keeps_moves g old left (λ us h. h) it.commits.clean it.commits.err; adds = λ had. outcomes g old left f (Err e) it.commits had };
  }

-- a store that has the tables and remembers nothing
pub ready_unknown : {S T E : Type 0} (g : Ghosts S) (s : Store S) (r : Result T E) → s.staged ≡ None → OnOk r (IsReady (state g s.conn)) → OnOk r (HasTables g s)
unfolding KnowsStaged
ready_unknown g s (Ok x) none ready = record { ready = ready; known = λ _ _. subst (λ m. KnowsStaged m (shown g s).uploads) (sym none) tt }
ready_unknown g s (Err e) none ready = tt
