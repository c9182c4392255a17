use Rattle.std.proofs.Common.{◌≡◌, ℕ}
use Rattle.doc_types.specs.declared.documents.DocRow.{DocRow}
use Rattle.op_eval.specs.steps.Wanted.{lives, numbers_before}
use Rattle.op_eval.proofs.calls.living.Given as goal

abbrev pub invariant-loop-row : goal.invariant-loop-row
invariant-loop-row g l = l.found.items ≡ numbers_before (λ (e : ℕ × DocRow). lives l.dead e.0) l.row (g.C.Chunk.content l.chunk)
