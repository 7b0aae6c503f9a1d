use Rattle.policy.proofs.Prelude.{◌≡◌, false, sym, subst, true≢false, false_from_ne_true, is_ref, PolicyFault, IfRefused, at_key}
use Rattle.std.proofs.Common.{IsTrue}
use Rattle.policy.specs.declared.faults.FaultCode.TheVariants.{Y3}
use Rattle.policy.proofs.tables.TableAt.ref_name.Goals as goal

pub returns-in-None : goal.returns-in-None
returns-in-None c =
    let none : is_ref c.args.text.now ≡ false =
    false_from_ne_true (is_ref c.args.text.now) (λ yes. true≢false (sym (c.in-None.ensures.accepted.1 (subst (λ text. IsTrue (is_ref text)) (sym c.in_ok-from_str.ensures.ok) yes)))) in
    subst (λ (e : PolicyFault). IfRefused e (λ f. (is_ref c.args.text.now ≡ false) × (f ≡ at_key Y3 c.args.self.now.place c.args.key))) (sym c.into.ensures) (none, c.fault.ensures)
