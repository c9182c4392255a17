use Rattle.std.proofs.Common.{◌≡◌, ◌++◌, take, map}
use Rattle.ql_write.specs.steps.Writing.{piece_of, with_spaces}
use Rattle.ql_write.proofs.writing.put_all.Given as goal

abbrev pub invariant-loop-token : goal.invariant-loop-token
invariant-loop-token l = l.out.items ≡ l.initial.out.items ++ with_spaces (map piece_of (take l.token-index l.tokens))
