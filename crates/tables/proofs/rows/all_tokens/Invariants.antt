use Rattle.tables.proofs.Prelude.{◌≡◌, List, map, take, Token, show_token, token_fields, read_token}
use Rattle.tables.proofs.rows.all_tokens.Given as goal

abbrev pub invariant-loop-row : goal.invariant-loop-row
invariant-loop-row l = (tokens : List Token) → l.rows ≡ map show_token tokens → map read_token l.found.items ≡ map token_fields (take l.row-index tokens)
