use Rattle.std.proofs.Common.{◌≡◌, Some, slice_get, take}
use Rattle.doc_types.specs.declared.documents.DocRow.{DocRow}
use Rattle.row_select.proofs.chunk_row.values_of.Given as goal

abbrev pub invariant-loop-attr : goal.invariant-loop-attr
invariant-loop-attr g l = (doc : DocRow) → slice_get (g.C.Chunk.content l.chunk) l.number ≡ Some doc → l.values.items ≡ take l.attr doc.doc.values
