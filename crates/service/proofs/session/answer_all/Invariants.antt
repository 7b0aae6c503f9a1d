use Rattle.service.proofs.Prelude.{◌≡◌, None, ◌+◌, ◌≤◌, List, ℕ, Consumes, setting_of, From, waiting, weight, source_of, IsOpen, IsServing}
use Rattle.service.proofs.session.answer_all.Given as goal

abbrev pub invariant-messages : goal.invariant-messages
invariant-messages g l = record {
  is_open : IsOpen l.conn;
  same_reference : g.R.Source.reference (source_of l.conn) ≡ g.R.Source.reference (source_of l.fn.conn);
  count : l.answered + weight l.conn ≤ weight l.fn.conn;
  no_fault : g.R.Source.failed (source_of l.conn) ≡ g.R.Source.failed (source_of l.fn.conn);
  good : g.K.Sink.failed l.sink ≡ g.K.Sink.failed l.fn.sink;
  none : l.later ≡ None;
  serving : From g.S.State l.fn.store l.store (λ world. (bytes : List ℕ)
      × Consumes (g.R.Source.left (source_of l.fn.conn)) (g.R.Source.left (source_of l.conn)) bytes
      × IsServing g.S.State (setting_of l.setting.policy.now l.setting.now) bytes (waiting l.conn) world l.fn.store l.store
      (g.K.Sink.taken l.fn.sink) (g.K.Sink.taken l.sink) l.answered);
}

abbrev pub decreases-messages : goal.decreases-messages
decreases-messages g l = weight l.conn
