use Rattle.forms.proofs.Prelude.{Some, string_bytes, is_ref, is_if_given}
use Rattle.forms.proofs.Bodies.{fails}
use Rattle.forms.proofs.body.ref_of.Goals as goal

pub returns-in-None : goal.returns-in-None
returns-in-None c =
    rw c.in-Some.is (fails (is_if_given is_ref) (Some (string_bytes c.in-Some.text)) (λ yes. c.in-None.ensures.accepted.1 yes))
