use Rattle.std.proofs.Common.{◌≡◌, ◌≤◌, ◌==◌, ℕ, Some, not, slice_get}
use Rattle.std.specs.List.{list_any}
use Rattle.doc_types.specs.Chunks.{rows_from}
use Rattle.doc_types.specs.declared.documents.DocRow.{DocRow}
use Rattle.reshape.proofs.Numbers.{part}
use Rattle.reshape.proofs.numbering.lost_rows.Given as goal

abbrev pub invariant-loop-row : goal.invariant-loop-row
invariant-loop-row g l = record {
  within : l.row ≤ l.count;
  are : l.rows.items ≡ part (λ e. e.0) (λ e. not (list_any (λ id. id == e.1.doc.id) l.ids)) l.layer.rows l.row;
  ahead : (later : ℕ) (x : DocRow) → l.row ≤ later → slice_get l.layer.rows later ≡ Some x → rows_from x.doc.id l.rest ≡ rows_from x.doc.id l.ids;
}
