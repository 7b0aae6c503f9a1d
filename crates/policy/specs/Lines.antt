-- How a fault is printed.
use Rattle.std.specs.Prelude.{ℕ, ◌++◌, List, [], codes, decimal}
use Rattle.policy.specs.declared.faults.Fault.{Fault}
use Rattle.policy.specs.declared.faults.FaultCode.{FaultCode}
use Rattle.policy.specs.declared.faults.FaultCode.TheVariants.{Y1, Y2, Y3, Y4, Y5}
use Rattle.policy.specs.declared.faults.PolicyFault.{PolicyFault}
use Rattle.policy.specs.declared.faults.PolicyFault.TheVariants.{Refused, Memory}
use Rattle.policy.specs.declared.faults.Place.{Place}
use Rattle.policy.specs.declared.faults.Place.TheVariants.{File, Top, Repo, Row}

-- the printed form of a code
abbrev pub code_text : FaultCode → List ℕ
code_text Y1 = codes "Y1"
code_text Y2 = codes "Y2"
code_text Y3 = codes "Y3"
code_text Y4 = codes "Y4"
code_text Y5 = codes "Y5"

-- the place of the fault; empty for a fault of the whole file
abbrev pub place_text : Place → List ℕ
place_text File = []
place_text Top = codes " at top"
place_text (Repo n) = codes " at repo " ++ decimal n
place_text (Row n) = codes " at row " ++ decimal n

-- the code and the place
abbrev pub fault_text : Fault → List ℕ
fault_text f = code_text f.code ++ place_text f.place

-- the printed form of a policy fault
abbrev pub policy_fault_text : PolicyFault → List ℕ
policy_fault_text (Refused fault) = fault_text fault
policy_fault_text Memory = codes "no memory"
