use Rattle.std.proofs.Common.{◌≡◌}
use Rattle.query_tree.specs.declared.query.Query.{Query}
use Rattle.op_eval.specs.steps.Streaming.{is_matching}
use Rattle.op_eval.specs.steps.Wanted.{numbers_from}
use Rattle.op_eval.proofs.wanted.first_living.Given as goal

abbrev pub invariant-loop-row : goal.invariant-loop-row
invariant-loop-row g l = (query : Query) → numbers_from (is_matching query l.dead) l.fn.from (g.C.Chunk.content l.chunk) ≡ numbers_from (is_matching query l.dead) l.row (g.C.Chunk.content l.chunk)
