use Rattle.operator.proofs.Prelude.{⊤, ◌≡◌, false, From, Reads}
use Rattle.store.specs.Shown.{HasTables}
use Rattle.operator.specs.Inspections.{IsChecked, Spares}
use Rattle.operator.proofs.inspecting.Inspection.advance.Given as goal

abbrev pub invariant-objects : goal.invariant-objects
invariant-objects g l = record {
  world : From g.S.State l.fn.store l.store (λ _. Spares g.S.State l.fn.store l.store l.fn.self l.self);
  reads : Reads g.S.State l.fn.store l.store (λ _. ⊤);
  purpose : l.self.purpose ≡ l.fn.self.purpose;
  rows : l.self.rows ≡ l.fn.self.rows;
  pauses : l.self.pauses ≡ l.fn.self.pauses;
  unread : l.self.unread ≡ l.fn.self.unread;
  checked : l.fn.self.pauses ≡ false → HasTables g.S.State l.fn.store → IsChecked g.S.State l.fn.store l.fn.self → IsChecked g.S.State l.store l.self;
}
