use Rattle.std.proofs.Common.{◌≡◌, true}
use Rattle.std.specs.Prelude.{drop}
use Rattle.query_pieces.specs.Operators.{are_names}
use Rattle.query_pieces.specs.steps.Names.{begins_of}
use Rattle.query_pieces.proofs.bytes.names_only.Given as goal

abbrev pub invariant-loop-k : goal.invariant-loop-k
invariant-loop-k l = are_names (begins_of l.kind) true l.bytes ≡ are_names (begins_of l.kind) l.fresh (drop l.k l.bytes)
