use Rattle.tables.proofs.Prelude.{arith, ◌≡◌, Bool, true, false, IsTrue, refl, rules, ap, ◌∙◌, Database, HasCleanDisk, state, Tables, tables_in, tables_of, IsAfter}
use Rattle.tables.specs.declared.layout.Layout.TheVariants.{Rows}
use Rattle.tables.specs.Layout.{version_one}
use Rattle.tables.specs.Rows.{meta}
use Rattle.tables.specs.Runs.{HasOld, raised, migrated}
use Rattle.tables.proofs.Once.{same_tables}
use Rattle.tables.proofs.Opened.{not_none, old_meta, first_is_other}
use Rattle.tables.proofs.Migrating.{did, migrating_survives}
use Rattle.tables.proofs.schema.migrate.Goals as goal

never : (b : Bool) → b ≡ false → IsTrue b → ⊥
never true e h = absurd (cc)
never false e h = absurd (let a : false ≡ true = h in cc)

pub returns-then-not-branch-2-clause-unknown : goal.returns-then-not-branch-2-clause-unknown
returns-then-not-branch-2-clause-unknown g c clean _ =
    let tables = c.in_ok-has_first_tables.ensures in
    let first = tables.same.0 (search (rules, c.if-not-branch.false)) in
    let it = c.in_ok-has_number.ensures.answers version_one clean (old_meta (state g.S.Store c.args.conn.now) (tables.ready (search (rules, c.if-not-branch.false)))) in
    record {
      foreign = record {
        some = λ none. not_none version_one (state g.S.Store c.args.conn.now).now.schema (state g.S.Store c.args.conn.now).now.schema none (first.all.parts.made meta refl) refl;
        other = λ all _. first_is_other Rows (state g.S.Store c.args.conn.now).now.schema first all;
      };
      other = λ _ version. never c.in_ok-has_number.field-0 (search (rules, c.if-not-branch-2.true)) (it.1.1 version);
    }

pub returns-in_err-upgrade-clause-survives : goal.returns-in_err-upgrade-clause-survives
returns-in_err-upgrade-clause-survives g c =
    let tables = c.in_ok-has_first_tables.ensures in
    migrating_survives g.S.Store c.args.conn.now c.has_number.new.conn c.upgrade.new.conn c.upgrade.result (tables.ready (search (rules, c.if-not-branch.false))) (c.if-not-is_autocommit.ensures.settled refl) c.in_ok-has_number.field-0 (search (rules, c.if-not-branch-2.false)) c.in_ok-has_number.ensures c.upgrade.ensures

pub returns-clause-survives : goal.returns-clause-survives
returns-clause-survives g c =
    let tables = c.in_ok-has_first_tables.ensures in
    migrating_survives g.S.Store c.args.conn.now c.has_number.new.conn c.upgrade.new.conn c.upgrade.result (tables.ready (search (rules, c.if-not-branch.false))) (c.if-not-is_autocommit.ensures.settled refl) c.in_ok-has_number.field-0 (search (rules, c.if-not-branch-2.false)) c.in_ok-has_number.ensures c.upgrade.ensures

pub returns-clause-ok : goal.returns-clause-ok
returns-clause-ok g c =
    let tables = c.in_ok-has_first_tables.ensures in
    did g.S.Store c.args.conn.now c.has_number.new.conn c.upgrade.new.conn _ (tables.ready (search (rules, c.if-not-branch.false))) (c.if-not-is_autocommit.ensures.settled refl) c.in_ok-has_number.field-0 (search (rules, c.if-not-branch-2.false)) c.in_ok-has_number.ensures c.in_ok-upgrade.ensures

pub returns-clause-version : goal.returns-clause-version
unfolding raised
returns-clause-version g c clean is_open =
    let tables = c.in_ok-has_first_tables.ensures in
    let it = did g.S.Store c.args.conn.now c.has_number.new.conn c.upgrade.new.conn _ (tables.ready (search (rules, c.if-not-branch.false))) (c.if-not-is_autocommit.ensures.settled refl) c.in_ok-has_number.field-0 (search (rules, c.if-not-branch-2.false)) c.in_ok-has_number.ensures c.in_ok-upgrade.ensures clean in
    ap (λ (t : Tables). t.meta) it.1.tables

pub returns-clause-only : goal.returns-clause-only
returns-clause-only g c clean =
    let tables = c.in_ok-has_first_tables.ensures in
    let it = did g.S.Store c.args.conn.now c.has_number.new.conn c.upgrade.new.conn _ (tables.ready (search (rules, c.if-not-branch.false))) (c.if-not-is_autocommit.ensures.settled refl) c.in_ok-has_number.field-0 (search (rules, c.if-not-branch-2.false)) c.in_ok-has_number.ensures c.in_ok-upgrade.ensures clean in
    (it.0, λ db kept left. same_tables db (state g.S.Store c.upgrade.new.conn).now kept it.1.kept (c.in_ok-upgrade.ensures.saved clean db.trees left) ∙ it.1.tables)
