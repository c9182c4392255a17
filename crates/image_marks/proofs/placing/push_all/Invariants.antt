use Rattle.std.proofs.Common.{◌≡◌, ◌++◌, replicate}
use Rattle.image_marks.proofs.placing.push_all.Given as goal

abbrev pub invariant-fields : goal.invariant-fields
invariant-fields l = l.starts.items ≡ l.fn.starts.items ++ replicate l.counter l.start
