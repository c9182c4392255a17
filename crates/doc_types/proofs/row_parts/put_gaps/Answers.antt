use Rattle.std.proofs.Common.{rules, ◌∙◌, arith, ap, length}
use Rattle.doc_types.specs.Chunks.{gaps_of}
use Rattle.doc_types.proofs.FieldParts.{parts_more, cut_back}
use Rattle.doc_types.proofs.row_parts.put_gaps.Goals as goal

pub returns-then-is_err-clause-err : goal.returns-then-is_err-clause-err
returns-then-is_err-clause-err c = c.truncate.ensures.items ∙ cut_back _ _ _ _ _ (search rules) c.loop-number.invariant c.put_field_gaps.ensures.front

pub loop-number-preserved : goal.loop-number-preserved
loop-number-preserved c =
    parts_more gaps_of c.args.row.now.doc.fields c.loop-number.number c.field-item.result c.args.into.now.items c.loop-number.into.items c.put_field_gaps.new.into.items (omega (arith, ap length c.as_slice-field-items.ensures)) (search rules) c.loop-number.invariant (search rules)
