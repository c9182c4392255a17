use Rattle.std.proofs.Common.{◌≡◌, Some, slice_get, take}
use Rattle.doc_types.specs.declared.documents.DocRow.{DocRow}
use Rattle.doc_search.proofs.room.copy_values.Given as goal

abbrev pub invariant-loop-attr : goal.invariant-loop-attr
invariant-loop-attr g l = (doc : DocRow) → slice_get (g.C.Chunk.content l.chunk) l.number ≡ Some doc → l.values.items ≡ take l.attr doc.doc.values
