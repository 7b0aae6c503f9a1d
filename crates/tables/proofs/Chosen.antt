-- A call that makes the step of the value that it returns, in a transaction of its own.
use Rattle.tables.proofs.Prelude.{◌≡◌, true, Ok, Result, IfOk, IsTrue, refl, sym, subst, IfOk-weaker, HasCleanDisk, Held, state, survives_weaker, Ghosts, Inside, StoreFault, Tables, Steps, Leads, tables_in, Finishes, Commits, LeadsSome, Chooses}
use Rattle.sqlite_trees.specs.Tree.{Trees}
use Rattle.tables.proofs.Calls.{before, commits_from}

module _ {S T : Type 0} (g : Ghosts S) (old begun mid last : Held S) (r : Result T StoreFault) (x : T) (same : begun ≡ record old { in_transaction = true }) (ends : Finishes g mid last r) where
  pub chooses_from : {Given : Type 0} (step : T → Tables → Tables) (P : Tables → T → Type 0) → (IsTrue (state g old).is_open → (state g old).now ≡ (state g old).committed)
      → ((db : Trees) → IsTrue (state g last).is_open → (state g last).may_leave db → db ≡ (state g last).committed.trees) → Inside g {E = StoreFault} begun mid (Ok x)
      → (Given → HasCleanDisk (state g mid) → IsTrue begun.in_transaction → IsTrue (state g begun).is_open × P (tables_in (state g begun)) x)
      → (Given → HasCleanDisk (state g mid) → IsTrue begun.in_transaction → Steps (step x) (state g begun) (state g mid)) → IfOk r (λ y. y ≡ x) → Chooses g Given old last r step P
  chooses_from {Given} step P settled durable inside said made answer =
      let commits = commits_from g old begun mid last r x same ends {Given = Given} (step x) settled durable inside made in
      let says = subst (λ (h : Held S). Given → HasCleanDisk (state g mid) → IsTrue h.in_transaction → IsTrue (state g h).is_open × P (tables_in (state g h)) x) same said in
      let clean_mid : HasCleanDisk (state g last) → HasCleanDisk (state g mid) = before g old begun mid last r x same ends in
      record {
        answers = λ clean given. let here = says given (clean_mid clean) refl in IfOk-weaker r _ _ (λ y is. (here.0, subst (P (tables_in (state g old))) (sym is) here.1)) answer;
        made = IfOk-weaker r _ _ (λ y is. subst (λ z. Commits g Given old last r (step z)) (sym is) commits) answer;
        err = commits.err;
        clean = commits.clean;
        stop = λ given. survives_weaker (state g old) (state g last) (Leads (step x) (state g old)) (LeadsSome g old step P)
            (λ clean db led. (x, (says given (clean_mid clean) refl).1, led)) (commits.stop given);
      }
