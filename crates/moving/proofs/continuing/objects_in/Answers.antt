use Rattle.std.proofs.Common.{rules, subst, sym}
use Rattle.std.proofs.lemmas.Fn.{filter_same}
use Rattle.compared.proofs.ReadCalls.{read_one}
use Rattle.tables.specs.Listing.{AreMarkedOf}
use Rattle.moving.specs.Moving.{objects_in}
use Rattle.moving.proofs.ListedObjects.{objects_listed}
use Rattle.moving.proofs.continuing.objects_in.Goals as goal

pub returns : goal.returns
returns g c =
    read_one g.S.State _ _ c.in_ok-uploads.uploads _ _ _
    (λ t are. subst (λ l. AreMarkedOf l (objects_in t)) (sym (filter_same _ (λ m. m.is_complete) _ (λ x b f k. search rules) _ _ c.retain.ensures.filtered))
    (objects_listed c.in_ok-uploads.uploads.items t are))
    c.in_ok-uploads.ensures
