-- A fault that was read.
use Rattle.std.proofs.Common.{◌≡◌, ℕ, List, subst, Err}
use Rattle.srch_base.specs.declared.faults.Or.{Or}
use Rattle.srch_base.specs.declared.faults.Or.TheVariants as causes
use Rattle.conf_text.specs.Confs.{IsFaultOf, ReadsConf}
use Rattle.conf_text.specs.declared.fault.ConfFault.{ConfFault}

-- a fault of a configuration is that of its text
pub fault_read : (bytes : List ℕ) (e : Or ConfFault) (fault : ConfFault) → e ≡ causes.Fault fault → ReadsConf bytes (Err e) → IsFaultOf bytes fault
fault_read bytes e fault is reads = let P : Or ConfFault → Type 0 = λ e. ReadsConf bytes (Err e) in subst P is reads
