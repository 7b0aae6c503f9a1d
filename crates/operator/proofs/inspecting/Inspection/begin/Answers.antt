use Rattle.operator.proofs.Prelude.{Reads, err_from_is_err_and}
use Rattle.std.specs.Prelude.{None}
use Rattle.uploads.proofs.Listed.{lists_by}
use Rattle.operator.proofs.inspecting.Inspection.begin.Goals as goal

pub returns-in_err-rows-clause-reads : goal.returns-in_err-rows-clause-reads
returns-in_err-rows-clause-reads g c = record { same = c.objects.ensures.same; adds = c.objects.ensures.adds; each = λ honest world h. tt }

pub returns-in_err-rows-clause-all : goal.returns-in_err-rows-clause-all
returns-in_err-rows-clause-all g c =
    let p = err_from_is_err_and c.from_residual.result c.from_residual.ensures.1 in
    record { same = c.objects.ensures.same; adds = c.objects.ensures.adds; each = λ honest world h. rw p.1 tt }

pub returns-clause-reads : goal.returns-clause-reads
returns-clause-reads g c = record { same = c.objects.ensures.same; adds = c.objects.ensures.adds; each = λ honest world h. tt }

pub returns-clause-all : goal.returns-clause-all
returns-clause-all g c = record {
  same = c.objects.ensures.same;
  adds = c.objects.ensures.adds;
  each = λ honest world h.
      let said = c.in_ok-rows.ensures.answers honest h.ready in
      lists_by g.S.State c.args.store.now c.objects.new.self world None h.ready c.objects.ensures.same (h.shows (c.objects.ensures.same.was_honest honest) said.0) c.in_ok-rows.rows.items said.1;
}

pub returns-clause-rows : goal.returns-clause-rows
returns-clause-rows g c honest ready = (c.in_ok-rows.ensures.answers honest ready).1
