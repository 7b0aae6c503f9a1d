use Rattle.tables.proofs.Prelude.{arith, rules}
use Rattle.tables.proofs.Decoded.{one_meta, meta_one}
use Rattle.tables.proofs.schema.is_numbered.Goals as goal

pub returns-then-one-eq1 : goal.returns-then-one-eq1
returns-then-one-eq1 c metas all = (
  λ is. one_meta c.args.number c.args.rows.now c.row-item.result metas c.in_ok-one.one c.in_ok-version.version (omega (arith, c.in-len1.len_at_least)) (omega (arith, c.in-len1.len_below)) c.row-item.is all c.in_ok-one.ensures.ok.1 c.in_ok-version.ensures.ok.1 (search rules) (search rules),
  λ is. let both = meta_one c.args.number c.args.rows.now c.row-item.result metas c.in_ok-one.one c.in_ok-version.version c.row-item.is all c.in_ok-one.ensures.ok.1 c.in_ok-version.ensures.ok.1 is in search rules,
)
