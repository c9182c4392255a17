use Rattle.std.proofs.Common.{rules}
use Rattle.doc_vectors.proofs.Rows.{no_fields, one_more}
use Rattle.doc_vectors.proofs.documents.fields.Goals as goal

pub loop-number-init : goal.loop-number-init
loop-number-init c = no_fields c.new-fields.result.items c.new-fields.ensures.items

pub loop-number-preserved : goal.loop-number-preserved
loop-number-preserved c = one_more c.loop-number.number c.loop-number.fields.items c.push.new.self.items c.in_ok-field.field-0 c.loop-number.invariant (c.in_ok-field.ensures) (search rules)
