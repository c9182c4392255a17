use Rattle.doc_types.proofs.FieldParts.{AreBits}
use Rattle.doc_types.proofs.row_parts.fields_with.Given as goal

abbrev pub invariant-loop-number : goal.invariant-loop-number
invariant-loop-number l = AreBits l.word l.row.doc.fields l.number l.bits
