use Rattle.std.proofs.Common.{rules, arith, ap, length}
use Rattle.doc_types.proofs.FieldParts.{bits_more}
use Rattle.doc_types.proofs.row_parts.fields_with.Goals as goal

pub loop-number-preserved : goal.loop-number-preserved
loop-number-preserved c =
    bits_more c.args.word.now c.args.row.now.doc.fields c.loop-number.number c.field-item.result c.loop-number.bits c.with_bit-bits.result (omega (arith, ap length c.as_slice-field-items.ensures)) (search rules) c.loop-number.invariant (search rules)
