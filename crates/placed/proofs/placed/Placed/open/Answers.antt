-- The calls make a store that serves the places of the database.
use Rattle.placed.proofs.Prelude.{false}
use Rattle.std.proofs.lemmas.Result.{err_from_is_err_and}
use Rattle.store.proofs.Moved.{moves_none, nothing_none}
use Rattle.placed.proofs.Cleared.{clears_none, clears_then}
use Rattle.placed.proofs.Keeping.{altered}
use Rattle.placed.proofs.Opened.{IsMadeOf, opened_was, opened_shown, opened_durable, opened_left, opened_tables, same_then}
use Rattle.placed.specs.declared.placed.Placed.{Placed}
use Rattle.placed.proofs.placed.Placed.open.Given.{Over}
use Rattle.placed.proofs.placed.Placed.open.Goals as goal

-- the store that is made
abbrev made : (g : Over) → goal.After-new g → Placed g.row.T.Denot g.row.D.Denot
made g c = record {
  rows = c.clear_staged.new.rows;
  disk = c.trim.new.disk;
  regions = c.in_ok-regions.regions;
  staged = c.new.result;
  unsynced = 0;
  has_lost = false;
  alloc = c.args.alloc;
}

by : (g : Over) (c : goal.After-new g)
    → IsMadeOf g.T.State g.D.Disk c.args.rows c.read_places.new.rows c.args.disk c.sync.new.disk c.read_places.new.disk (made g c)
by g c = record {
  empty = c.new.ensures.items;
  first = c.in_ok-sync.ensures.same;
  durable = c.in_ok-sync.ensures.durable;
  then = c.in_ok-regions.ensures.same;
  cut = altered g.D.Disk c.read_places.new.disk c.trim.new.disk _ c.trim.ensures.kept;
  still = c.in_ok-regions.ensures.still;
  adds = c.in_ok-regions.ensures.adds;
  taken = c.in_ok-regions.ensures.taken;
  within = c.in_ok-regions.ensures.within;
  some = c.in_ok-clear_staged.ensures.some;
  all = c.in_ok-clear_staged.ensures.all;
  left = c.in_ok-clear_staged.ensures.left;
}

pub returns-clause-tables : goal.returns-clause-tables
returns-clause-tables g c h durable = opened_tables g.T.State g.D.Disk _ _ _ _ _ _ (by g c) h durable

pub returns-clause-was_open : goal.returns-clause-was_open
returns-clause-was_open g c h k = opened_was g.T.State g.D.Disk _ _ _ _ _ _ (by g c) h k.0

pub returns-clause-shown : goal.returns-clause-shown
returns-clause-shown g c h k o = opened_shown g.T.State g.D.Disk _ _ _ _ _ _ (by g c) h k o

pub returns-clause-left : goal.returns-clause-left
returns-clause-left g c h durable k t leaves = opened_left g.T.State g.D.Disk _ _ _ _ _ _ (by g c) h durable k t leaves

pub returns-clause-durable : goal.returns-clause-durable
returns-clause-durable g c h durable o = opened_durable g.T.State g.D.Disk _ _ _ _ _ _ (by g c) h durable o

pub returns-in_err-sync-clause-ended : goal.returns-in_err-sync-clause-ended
returns-in_err-sync-clause-ended g c =
    rw (err_from_is_err_and c.from_residual.result c.from_residual.ensures.1).1 (record {
      ended_rows = c.args.rows;
      ended_file = c.sync.new.disk;
      some = clears_none g.T.State c.args.rows c.args.rows (moves_none g.T.State c.args.rows) (nothing_none g.T.State c.args.rows);
      same = c.in_err-sync.ensures.same;
    })

pub returns-in_err-regions-clause-ended : goal.returns-in_err-regions-clause-ended
returns-in_err-regions-clause-ended g c =
    let e = c.in_err-regions.ensures in
    rw (err_from_is_err_and c.from_residual-in_err-regions.result c.from_residual-in_err-regions.ensures.1).1 (record {
      ended_rows = c.read_places.new.rows;
      ended_file = c.read_places.new.disk;
      some = clears_none g.T.State c.args.rows c.read_places.new.rows e.still e.adds;
      same = same_then g.D.Disk c.args.disk c.sync.new.disk c.read_places.new.disk c.in_ok-sync.ensures.same e.same;
    })

pub returns-in_err-clear_staged-clause-ended : goal.returns-in_err-clear_staged-clause-ended
returns-in_err-clear_staged-clause-ended g c =
    let e = c.in_ok-regions.ensures in
    rw (err_from_is_err_and c.from_residual-in_err-clear_staged.result c.from_residual-in_err-clear_staged.ensures.1).1 (record {
      ended_rows = c.clear_staged.new.rows;
      ended_file = c.read_places.new.disk;
      some = clears_then g.T.State c.args.rows c.read_places.new.rows c.clear_staged.new.rows
          (clears_none g.T.State c.args.rows c.read_places.new.rows e.still e.adds) c.in_err-clear_staged.ensures.some;
      same = same_then g.D.Disk c.args.disk c.sync.new.disk c.read_places.new.disk c.in_ok-sync.ensures.same e.same;
    })
