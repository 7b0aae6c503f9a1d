-- Why a task was not done, by the fault of the call that it made.
use Rattle.tables.specs.declared.fault.StoreFault.{StoreFault}
use Rattle.tables.specs.declared.fault.StoreFault.TheVariants as tables
use Rattle.tokens.specs.declared.issuing.TokenFault.{TokenFault}
use Rattle.tokens.specs.declared.issuing.TokenFault.TheVariants as tokens
use Rattle.operator.specs.declared.faults.TaskFault.{TaskFault}
use Rattle.desk.specs.declared.foreseeing.ForeseeFault.{ForeseeFault}
use Rattle.desk.specs.declared.foreseeing.ForeseeFault.TheVariants as desk
use Rattle.operator.specs.declared.faults.TaskFault.TheVariants.{Store, Token, NoCaller, Memory}

-- a refusal by the database, or memory ran out
abbrev pub of_store : StoreFault → TaskFault
of_store tables.Refused = Store tables.Refused
of_store tables.Memory = Memory

-- a token that was not issued, or a refusal by the database, or memory ran out
abbrev pub of_token : TokenFault → TaskFault
of_token tokens.AlreadyIssued = Token tokens.AlreadyIssued
of_token tokens.ExpiresTooLate = Token tokens.ExpiresTooLate
of_token (tokens.Store refused) = of_store refused

-- no valid token was presented, or memory ran out
abbrev pub of_foresight : ForeseeFault → TaskFault
of_foresight desk.NoCaller = NoCaller
of_foresight desk.Memory = Memory
