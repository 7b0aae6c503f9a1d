use Rattle.tables.proofs.Prelude.{refl, rules, state, token, has_digest, show_token, tables_in, none_shown}
use Rattle.tables.specs.Statements.{reading}
use Rattle.tables.proofs.Calls.{does_on}
use Rattle.tables.proofs.tokens.is_free.Goals as goal

pub returns-clause-value : goal.returns-clause-value
unfolding reading
returns-clause-value g c clean inside ready =
    let it = c.in_ok-rows.ensures.rows clean inside ready in (
      it.0,
      none_shown show_token (has_digest c.args.digest.now) (tables_in (state g.S.Store c.args.tx.now.conn.now)).tokens c.in_ok-rows.rows.items c.is_empty.result
          (it.1 (token c.args.digest.now) refl (rw c.params-to_sql.ensures)) (search rules),
    )

pub returns-clause-does : goal.returns-clause-does
unfolding reading
returns-clause-does g c =
    does_on g.S.Store c.args.tx.now.conn.now c.select.new.tx.conn.now _ (λ t. t) record { within = c.in_ok-rows.ensures.within; ok = c.in_ok-rows.ensures.same (token c.args.digest.now) refl }
