-- The content of an upload, as it is read.
use Rattle.std.specs.Prelude.{◌≡◌, ◌+◌, ◌<◌, ℕ, List, length}
use Rattle.names.specs.declared.bodies.Body.{Ghosts}
use Rattle.names.specs.declared.bodies.BodyFault.TheVariants.{Ended, Device}
use Rattle.names.specs.Streams.{HasGrown}
use Rattle.names.specs.declared.bodies.BodyFault.{BodyFault}
use Rattle.desk.specs.declared.receiving.ReceiveFault.{ReceiveFault}
use Rattle.desk.specs.declared.receiving.ReceiveFault.TheVariants as fault

module _ {B : Type 0} (g : Ghosts B) where
  -- these bytes of the content were read
  pub record HasRead (old new : B) (bytes : List ℕ) : Type 0 where
    pub moves : g.moves old new bytes
    pub size : length bytes + g.size new ≡ g.size old

  -- the content was read to its end, and no read failed
  pub record IsReadOut (old new : B) : Type 0 where
    pub whole : g.size new ≡ 0
    pub good : g.failed new ≡ g.failed old

  -- some of the content is unread, and no byte of it waits
  pub record IsCutOff (content : B) : Type 0 where
    pub some : 0 < g.size content
    pub drained : g.is_drained content

  -- the state of the content after a fault of its own: the input ended, or a read failed
  abbrev pub IsLeftBy : B → B → BodyFault → Type 0
  IsLeftBy old new Ended = IsCutOff new × g.is_ended new × (g.failed new ≡ g.failed old)
  IsLeftBy old new Device = IsCutOff new × HasGrown (g.failed old) (g.failed new)

  -- the state of the content after such a fault, or after the store refused
  abbrev pub IsLeftAfter : B → B → ReceiveFault → Type 0
  IsLeftAfter old new (fault.Store f) = g.failed new ≡ g.failed old
  IsLeftAfter old new (fault.Body f) = IsLeftBy old new f
