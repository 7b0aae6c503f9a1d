use Rattle.desk.proofs.Prelude.{◌∙◌, ℕ, List, Option, refl, ap, ref_text, ref_or_default, case_repo}
use Rattle.desk.proofs.Showing.{read_alike}
use Rattle.desk.proofs.locking.wanted_by.Goals as goal

pub returns : goal.returns
returns c = record {
  repo = c.name.ensures;
  ref = c.ref_or_default.ensures
      ∙ ap (λ (o : Option (List ℕ)). ref_or_default o (case_repo c.args.case.now)) (read_alike ref_text c.args.asked.now.ref_name c.as_ref.result c.as_ref.ensures.value);
  path = refl;
  owner = refl;
  at = refl;
}
