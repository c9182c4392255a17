use Rattle.std.proofs.Common.{◌≡◌, drop}
use Rattle.ql_refusals.specs.Refusals.{first_of}
use Rattle.ql_select.specs.Faults.{option_fault}
use Rattle.ql_select.proofs.faults.options_fault.Given as goal

abbrev pub invariant-options : goal.invariant-options
invariant-options l = first_of (option_fault l.pass l.schema) l.options ≡ first_of (option_fault l.pass l.schema) (drop l.option-index l.options)
