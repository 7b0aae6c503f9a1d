-- Why a chunk was not read.
use Rattle.std.specs.Prelude.{Result, Ok, Err}
use Rattle.tables.specs.declared.fault.StoreFault.{StoreFault}
use Rattle.tables.specs.declared.fault.StoreFault.TheVariants.{Refused}
use Rattle.store.specs.declared.read_fault.ReadFault.{ReadFault}
use Rattle.store.specs.declared.read_fault.ReadFault.TheVariants.{Store, Unreadable}

-- the fault of a call that needs the bytes
abbrev pub fault_behind : ReadFault → StoreFault
fault_behind Unreadable = Refused
fault_behind (Store fault) = fault

-- the result of a call that needs the bytes
abbrev pub result_behind : {T : Type 0} → Result T ReadFault → Result T StoreFault
result_behind (Ok x) = Ok x
result_behind (Err fault) = Err (fault_behind fault)
