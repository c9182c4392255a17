use Rattle.std.proofs.Common.{◌≡◌, ◌++◌, take}
use Rattle.ql_write.specs.Pieces.{escaped_text}
use Rattle.ql_write.proofs.writing.put_text.Given as goal

abbrev pub invariant-loop-byte : goal.invariant-loop-byte
invariant-loop-byte l = l.out.items ≡ l.initial.out.items ++ escaped_text (take l.byte-index l.text)
