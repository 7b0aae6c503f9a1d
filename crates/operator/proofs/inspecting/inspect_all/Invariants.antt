use Rattle.operator.proofs.Prelude.{⊤, ◌≡◌, false, From, Reads}
use Rattle.std.specs.Prelude.{None}
use Rattle.store.specs.Shown.{HasTables, IsHonest, shown}
use Rattle.tables.specs.Staging.{AreUploadsOf, objects_of}
use Rattle.operator.specs.Inspections.{IsChecked}
use Rattle.operator.specs.declared.inspecting.Purpose.TheVariants.{Check}
use Rattle.operator.proofs.Damaged.{IsSilent}
use Rattle.operator.proofs.inspecting.inspect_all.Given as goal

abbrev pub invariant-steps : goal.invariant-steps
invariant-steps g l = record {
  world : From g.S.State l.fn.store l.store (λ _. Reads g.S.State l.fn.store l.store (λ _. ⊤) × (l.inspection.damaged ≡ 0));
  reads : l.fn.purpose ≡ Check → Reads g.S.State l.fn.store l.store (λ _. ⊤);
  purpose : l.inspection.purpose ≡ l.fn.purpose;
  silent : From g.S.State l.fn.store l.store (λ world. l.inspection.unread ≡ 0
      → IsSilent (g.K.Sink.taken l.fn.output) (g.K.Sink.taken l.output) l.inspection world);
  pauses : l.inspection.pauses ≡ false;
  listed : IsHonest g.S.State l.store → HasTables g.S.State l.fn.store → AreUploadsOf l.inspection.rows.items (objects_of None (shown g.S.State l.fn.store));
  checked : l.fn.purpose ≡ Check → HasTables g.S.State l.fn.store → IsChecked g.S.State l.store l.inspection;
  good : g.K.Sink.failed l.output ≡ g.K.Sink.failed l.fn.output;
}
