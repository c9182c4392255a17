use Rattle.std.proofs.Common.{◌≡◌, ◌++◌, take}
use Rattle.std.specs.List.{flat_map}
use Rattle.ql_write.specs.steps.Writing.{with_spaces}
use Rattle.ql_write.proofs.written.put_in_row.Given as goal

abbrev pub invariant-loop-part : goal.invariant-loop-part
invariant-loop-part g l = l.out.items ≡ l.initial.out.items ++ with_spaces (flat_map g.T.Written.pieces (take l.part-index l.parts))
