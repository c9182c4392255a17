use Rattle.std.proofs.Common.{◌≡◌, ℕ, List, Err, subst}
use Rattle.conf_text.specs.Confs.{IsConfOf, IsFaultOf, ReadsConf}
use Rattle.conf_text.specs.declared.fault.ConfFault.{ConfFault}
use Rattle.path_texts.proofs.PathTexts.{paths_are_texts}
use Rattle.srch_base.specs.declared.faults.Or.{Or}
use Rattle.srch_base.specs.declared.faults.Or.TheVariants as causes
use Rattle.index_tool.proofs.configuring.configure.Goals as goal

-- a fault of a configuration is that of its text
fault_read : (bytes : List ℕ) (e : Or ConfFault) (fault : ConfFault) → e ≡ causes.Fault fault → ReadsConf bytes (Err e) → IsFaultOf bytes fault
fault_read bytes e fault is reads = let P : Or ConfFault → Type 0 = λ e. ReadsConf bytes (Err e) in subst P is reads

pub returns-in-Ok-read_conf-clause-configures : goal.returns-in-Ok-read_conf-clause-configures
returns-in-Ok-read_conf-clause-configures g c =
    let is : IsConfOf c.in-Ok.text.items c.in-Ok-read_conf.conf = subst (λ (bytes : List ℕ). IsConfOf bytes c.in-Ok-read_conf.conf) c.as_slice.ensures.value c.in-Ok-read_conf.ensures.reads in (
      c.in-Ok.text.items,
      c.in-Ok.ensures.reads,
      is,
      c.in-Ok-read_conf.ensures.sound.schemas,
      paths_are_texts c.in-Ok.text.items c.in-Ok-read_conf.conf is,
      c.in-Ok.ensures.cause,
    )

pub returns-clause-configures : goal.returns-clause-configures
returns-clause-configures g c = (
  c.in-Ok.text.items,
  c.in-Ok.ensures.reads,
  subst (λ (bytes : List ℕ). IsFaultOf bytes c.in-Err-Fault.field-0-0) c.as_slice.ensures.value
      (fault_read c.as_slice.result.now c.in-Err-Fault.field-0 c.in-Err-Fault.field-0-0 c.in-Err-Fault.field-0-is c.in-Err-Fault.ensures.reads),
  c.in-Ok.ensures.cause,
)
