use Rattle.std.proofs.Common.{drop}
use Rattle.query_write.specs.Spelling.{spelled, spelled_from}
use Rattle.query_write.specs.steps.Writes.{IsPart}
use Rattle.query_write.proofs.spelling.put_word.Given as goal

abbrev pub invariant-loop-k : goal.invariant-loop-k
invariant-loop-k l = IsPart l.initial.out.items l.out.items (spelled l.word) (spelled_from l.bounded (drop l.k l.word))
