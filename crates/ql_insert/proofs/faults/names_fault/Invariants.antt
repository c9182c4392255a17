use Rattle.std.proofs.Common.{◌≡◌, [], take, drop}
use Rattle.ql_insert.specs.Insertions.{names_fault}
use Rattle.ql_insert.proofs.faults.names_fault.Given as goal

abbrev pub invariant-names : goal.invariant-names
invariant-names l = names_fault l.schema [] l.names ≡ names_fault l.schema (take l.place l.names) (drop l.place l.names)
