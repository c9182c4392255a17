use Rattle.std.proofs.Common.{drop, map}
use Rattle.query_write.specs.Written.{key_text, parted}
use Rattle.query_write.specs.steps.Writes.{IsPart, parted_from}
use Rattle.query_write.proofs.tokens.put_keys.Given as goal

abbrev pub invariant-loop-key : goal.invariant-loop-key
invariant-loop-key l = IsPart l.initial.out.items l.out.items (parted 32 (map key_text l.keys)) (parted_from l.first 32 (map key_text (drop l.key-index l.keys)))
