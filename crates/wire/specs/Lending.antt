-- The value of a connection after the call that lends it, if there is no message.
use Rattle.std.specs.Prelude.{Result}
use Rattle.std.specs.Borrow.{Fml, RattleType, MutBor, RestsIfErr}
use Rattle.names.specs.declared.streams.Source.{Ghosts}
use Rattle.wire.specs.declared.connection.Conn.{Conn}
use Rattle.wire.specs.declared.connection.Stop.{Stop}
use Rattle.wire.specs.declared.inflow.Inflow.{Inflow}
use Rattle.wire.specs.contracts.connection.Conn as conn

-- the connection has the property after a refusal
abbrev pub conn_rests : (R : RattleType) (g : Ghosts R.Denot) → MutBor (Conn R.Denot g) → Result (Inflow R.Denot g) Stop → (Conn R.Denot g → Type 0) → Fml
conn_rests R g c r P = RestsIfErr (conn.the_row R g) c (λ i. i.conn.ghost_name) r P
