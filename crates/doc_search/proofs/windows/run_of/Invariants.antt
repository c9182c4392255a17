use Rattle.std.proofs.Common.{◌≡◌, ◌+◌, ◌-◌, ◌<◌, ◌≤◌, ℕ, List, Some, length, slice_get}
use Rattle.doc_types.specs.declared.documents.DocRow.{DocRow}
use Rattle.row_flags.specs.Windows.{AreTold}
use Rattle.doc_search.specs.steps.Gathering.{IsAskedOfDocs, WeighsUpTo}
use Rattle.doc_search.specs.steps.Windows.{IsRun}
use Rattle.doc_search.proofs.windows.run_of.Given as goal

abbrev pub invariant-run : goal.invariant-run
invariant-run l = record {
  on : l.index < l.next;
  within : l.next ≤ length l.told;
  few : l.rows ≤ l.next;
  run : (docs : List DocRow) (dead : List ℕ) (from : ℕ) → IsAskedOfDocs l.asked docs → AreTold l.asked.query dead docs from l.told → ((doc : DocRow) → slice_get docs (from + l.index) ≡ Some doc → WeighsUpTo l.asked doc l.most) → IsRun l.asked docs dead (from + l.index) (from + l.next) l.most l.rows;
}

abbrev pub decreases-run : goal.decreases-run
decreases-run l = length l.told - l.next
