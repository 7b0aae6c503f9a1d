-- The ranges of the options that are numbers.
use Rattle.std.specs.Prelude.{◌≤◌, IfSome, ⊤}
use Rattle.command_line.specs.declared.args.ServeArgs.{ServeArgs}
use Rattle.command_line.specs.declared.args.Command.{Command}
use Rattle.command_line.specs.declared.args.Command.TheVariants.{Text, Session, Serve, Policy, Migrate, Local, Remote}
use Rattle.command_line.specs.declared.args.OperatorCommand.{OperatorCommand}
use Rattle.command_line.specs.declared.args.OperatorCommand.TheVariants.{Status, Hold, Reload, Stop}
use Rattle.command_line.specs.Words.{IsCommand}

-- a client may idle for 1 to 86,400 seconds, and the connections are unlimited or 1 to 1,000,000
pub record AreInRange (args : ServeArgs) : Type 0 where
  pub idle : (1 ≤ args.idle) × (args.idle ≤ 86400)
  pub requests : IfSome args.requests (λ count. (1 ≤ count) × (count ≤ 1000000))

-- the options of the command are in their ranges
abbrev pub IsInRange : Command → Type 0
IsInRange (Text _) = ⊤
IsInRange (Session _) = ⊤
IsInRange (Serve args) = AreInRange args
IsInRange (Policy _) = ⊤
IsInRange (Migrate _) = ⊤
IsInRange (Local _ command) = IsCommand command
IsInRange (Remote _ command) = IsCommand command

-- the command can run over files, without a server
abbrev pub NeedsNoServer : OperatorCommand → Type 0
NeedsNoServer Status = ⊥
NeedsNoServer (Hold _) = ⊥
NeedsNoServer Reload = ⊥
NeedsNoServer Stop = ⊥
NeedsNoServer _ = ⊤

-- a command over files is one that needs no server
abbrev pub HasItsServer : Command → Type 0
HasItsServer (Local _ command) = NeedsNoServer command
HasItsServer _ = ⊤
