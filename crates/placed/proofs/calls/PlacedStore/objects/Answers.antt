use Rattle.placed.proofs.Prelude.{List, sym, subst, Upload}
use Rattle.tables.specs.Staging.{AreUploadsOf}
use Rattle.placed.proofs.Forward.{reads}
use Rattle.placed.proofs.Views.{objects-viewed}
use Rattle.placed.proofs.calls.PlacedStore.objects.Goals as goal

pub returns : goal.returns
returns g c =
    reads g.T.State g.D.Disk c.args.self.now c.objects.new.self c.objects.result _ _
    (λ t x is. subst (λ (us : List Upload). AreUploadsOf x.items us) (sym (objects-viewed _ _ _ t)) is) c.objects.ensures
