use Rattle.std.proofs.Common.{◌-◌, ◌≤◌, ℕ, List}
use Rattle.std.specs.Ordering.{nat_cmp}
use Rattle.doc_types.specs.declared.documents.DocRow.{DocRow}
use Rattle.image_parts.specs.Images.{ArePartsOf, HaveImage}
use Rattle.image_parts.proofs.Halving.{Halved}
use Rattle.image_parts.proofs.parts.Parts.find.Given as goal

abbrev pub invariant-halves : goal.invariant-halves
invariant-halves l =
    (l.low ≤ l.high) × (l.high ≤ l.self.rows) × ((rows : List DocRow) (words : List (List ℕ)) → HaveImage rows words l.image → ArePartsOf rows words l.self → Halved nat_cmp (λ (row : DocRow). row.doc.id) l.id rows l.low l.high)

abbrev pub decreases-halves : goal.decreases-halves
decreases-halves l = l.high - l.low
