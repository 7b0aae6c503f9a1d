use Rattle.uploads.proofs.Prelude.{◌≤◌, From, Shortens}
use Rattle.uploads.proofs.removing.shorten.Given as goal

abbrev pub invariant-parts : goal.invariant-parts
invariant-parts g l = record {
  most : l.left ≤ 16777215;
  so_far : From g.S.State l.fn.store l.store (Shortens g.S.State l.fn.store l.store);
}

abbrev pub decreases-parts : goal.decreases-parts
decreases-parts g l = l.left
