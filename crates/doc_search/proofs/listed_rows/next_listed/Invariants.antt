use Rattle.std.proofs.Common.{◌≤◌, drop, length, ◌-◌}
use Rattle.std.specs.List.Sorted.{IsSorted}
use Rattle.std.specs.Ordering.{int_cmp}
use Rattle.doc_search.specs.declared.question.Question.{Question}
use Rattle.doc_search.specs.steps.ListedRows.{HaveIds, IsPast}
use Rattle.doc_search.proofs.listed_rows.next_listed.Given as goal

abbrev pub invariant-ids : goal.invariant-ids
invariant-ids g l = (l.at ≤ l.from) × (l.from ≤ length (g.C.Chunk.content l.chunk)) × ((question : Question) → IsSorted int_cmp l.ids → HaveIds question (g.C.Chunk.content l.chunk) l.at (drop l.fn.passed l.ids) → IsPast question (g.C.Chunk.content l.chunk) l.at l.from (drop l.passed l.ids))

abbrev pub decreases-ids : goal.decreases-ids
decreases-ids g l = length l.ids - l.passed
