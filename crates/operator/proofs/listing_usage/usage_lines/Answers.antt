use Rattle.operator.proofs.Prelude.{Ok, ◌∙◌, ◌++◌, List, ℕ, ap, string_bytes, reads_weaker, ap₂, map}
use Rattle.operator.specs.Columns.{table_lines}
use Rattle.operator.specs.Usage.{room_lines}
use Rattle.operator.proofs.Counted.{lines_viewed, none_ok, room_read, room_then}
use Rattle.operator.proofs.listing_usage.usage_lines.Goals as goal

pub returns-in_err-room-clause-reads : goal.returns-in_err-room-clause-reads
returns-in_err-room-clause-reads g c =
    reads_weaker g.S.State c.args.store.now c.room.new.self _ _ (λ world laws p. none_ok _ _ c.from_residual.result c.from_residual.ensures.1)
    (room_read g.S.State c.args.store.now c.room.new.self c.room.result c.room.ensures.same c.room.ensures.adds c.room.ensures.answers)

pub returns-in_err-headings-clause-reads : goal.returns-in_err-headings-clause-reads
returns-in_err-headings-clause-reads g c =
    reads_weaker g.S.State c.args.store.now c.room.new.self _ _
    (λ world laws p. none_ok _ _ c.from_residual-in_err-headings.result c.from_residual-in_err-headings.ensures.1)
    (room_read g.S.State c.args.store.now c.room.new.self c.room.result c.room.ensures.same c.room.ensures.adds c.room.ensures.answers)

pub returns-in_err-rows-clause-reads : goal.returns-in_err-rows-clause-reads
returns-in_err-rows-clause-reads g c =
    reads_weaker g.S.State c.args.store.now c.rows_of.new.store _ _
    (λ world laws p. none_ok _ _ c.from_residual-in_err-rows.result c.from_residual-in_err-rows.ensures.1)
    (room_then g.S.State c.args.store.now c.room.new.self c.rows_of.new.store c.room.result _ c.room.ensures.same c.room.ensures.adds
    c.room.ensures.answers c.rows_of.ensures)

pub returns-in_err-lines-clause-reads : goal.returns-in_err-lines-clause-reads
returns-in_err-lines-clause-reads g c =
    reads_weaker g.S.State c.args.store.now c.rows_of.new.store _ _
    (λ world laws p. none_ok _ _ c.from_residual-in_err-lines.result c.from_residual-in_err-lines.ensures.1)
    (room_then g.S.State c.args.store.now c.room.new.self c.rows_of.new.store c.room.result _ c.room.ensures.same c.room.ensures.adds
    c.room.ensures.answers c.rows_of.ensures)

pub returns-in_err-push_room-clause-reads : goal.returns-in_err-push_room-clause-reads
returns-in_err-push_room-clause-reads g c =
    reads_weaker g.S.State c.args.store.now c.rows_of.new.store _ _
    (λ world laws p. none_ok _ _ c.from_residual-in_err-push_room.result c.from_residual-in_err-push_room.ensures.1)
    (room_then g.S.State c.args.store.now c.room.new.self c.rows_of.new.store c.room.result _ c.room.ensures.same c.room.ensures.adds
    c.room.ensures.answers c.rows_of.ensures)

pub returns-clause-reads : goal.returns-clause-reads
returns-clause-reads g c =
    reads_weaker g.S.State c.args.store.now c.rows_of.new.store _ _
    (λ world laws p. (
      map (map string_bytes) c.in_ok-rows.rows.items,
      lines_viewed g.S.State c.rows_of.new.store world c.args.now c.args.repos.now _ p.1,
      c.in_ok-room.room,
      p.0,
      c.in_ok-push_room.ensures
          ∙ ap (λ (t : List ℕ). t ++ room_lines c.in_ok-room.room)
          (c.in_ok-lines.ensures ∙ ap₂ table_lines c.in_ok-headings.ensures (ap (map (map string_bytes)) c.as_slice.ensures.value)),
    ))
    (room_then g.S.State c.args.store.now c.room.new.self c.rows_of.new.store (Ok c.in_ok-room.room) _ c.in_ok-room.ensures.same c.in_ok-room.ensures.adds
    c.in_ok-room.ensures.answers c.in_ok-rows.ensures)
