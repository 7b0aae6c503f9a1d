-- The facts after a chain of checks that passed.
use Rattle.std.proofs.Common.{◌≡◌, Bool, true, false, List, [], ◌∷◌, refl, Result, Ok, Err, Option, Some, None, find, IfOk, IfSome, IsTrue, subst}
use Rattle.std.specs.Bool.{⊤}
use Rattle.std.specs.List.{AllByRecursion}
use Rattle.std.proofs.lemmas.Bool.{cond_both}
use Rattle.names.specs.declared.rules.Rule.{Rule}
use Rattle.model.specs.Reading.{◌>>=◌, check, ok_or}
use Rattle.model.specs.Answers.{by_rules}

pub passed : {A B E : Type 0} (Q : A → Type 0) (P : B → Type 0) (r : Result A E) (f : A → Result B E)
    → IfOk r Q → ((x : A) → Q x → IfOk (f x) P) → IfOk (r >>= f) P
passed Q P (Ok x) f is then = then x is
passed Q P (Err e) f is then = tt

any : {A E : Type 0} (r : Result A E) → IfOk r (λ _. ⊤)
any (Ok x) = tt
any (Err e) = tt

pub then_any : {A B E : Type 0} (P : B → Type 0) (r : Result A E) (f : A → Result B E) → ((x : A) → IfOk (f x) P) → IfOk (r >>= f) P
then_any P r f then = passed (λ _. ⊤) P r f (any r) (λ x _. then x)

pub by_rules_ok : {A : Type 0} (Q : A → Type 0) (r : Result A Rule) → IfOk r Q → IfOk (by_rules r) Q
by_rules_ok Q (Ok x) is = is
by_rules_ok Q (Err e) is = tt

pub found_ok : {A E : Type 0} (Q : A → Type 0) (o : Option A) (e : E) → IfSome o Q → IfOk (ok_or o e) Q
found_ok Q (Some x) e is = is
found_ok Q None e is = tt

pub check_ok : {E : Type 0} (test : Bool) (e : E) → IfOk (check test e) (λ _. IsTrue test)
check_ok true e = refl
check_ok false e = tt

pub find_ok : {A : Type 0} (Q : A → Type 0) (test : A → Bool) (xs : List A) → AllByRecursion Q xs → IfSome (find test xs) Q
find_ok Q test [] all = tt
find_ok Q test (x ∷ xs) all =
    cond_both (test x) (Some x) (find test xs) (λ o. IfSome o Q) (λ _. all.0) (λ _. find_ok Q test xs all.1)

-- a property of the Ok results of an answer, for an answer that is Ok
pub ok_is : {A E : Type 0} (P : A → Type 0) (r : Result A E) (x : A) → r ≡ Ok x → IfOk r P → P x
ok_is {A = A} {E = E} P r x e is = let moved : IfOk {E = E} (Ok x) P = subst (λ (q : Result A E). IfOk q P) e is in moved

-- a check that passed, lifted to a denial by a rule
pub rules_check_ok : (test : Bool) (e : Rule) → IfOk (by_rules (check test e)) (λ _. IsTrue test)
rules_check_ok test e = by_rules_ok (λ _. IsTrue test) (check test e) (check_ok test e)
