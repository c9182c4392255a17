-- What the faults print.
use Rattle.std.specs.Prelude.{ℕ, List, Option, Some, codes}
use Rattle.srch_base.specs.declared.faults.OpenFault.{OpenFault}
use Rattle.srch_base.specs.declared.faults.OpenFault.TheVariants.{NoMemory as OpenNoMemory, Failed as OpenFailed}
use Rattle.srch_base.specs.declared.faults.Or.{Or}
use Rattle.srch_base.specs.declared.faults.Or.TheVariants.{NoMemory, Fault}

abbrev pub failed_text : List ℕ
failed_text = codes "a device failed"

abbrev pub no_memory_text : List ℕ
no_memory_text = codes "out of memory"

abbrev pub open_fault_text : OpenFault → List ℕ
open_fault_text OpenNoMemory = no_memory_text
open_fault_text OpenFailed = failed_text

-- what the cause prints, where there is one
abbrev pub or_text : {F : Type 0} → (F → Option (List ℕ)) → Or F → Option (List ℕ)
or_text text NoMemory = Some no_memory_text
or_text text (Fault fault) = text fault
