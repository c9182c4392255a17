use Rattle.std.proofs.Common.{rules, arith}
use Rattle.std.proofs.lemmas.Grind.{common_steps}
use Rattle.std.specs.List.{list_any}
use Rattle.doc_types.specs.Chunks.{is_word}
use Rattle.doc_types.specs.declared.tokens.FieldTokens.{FieldTokens}
use Rattle.doc_types.proofs.Collected.{more_words}
use Rattle.doc_types.proofs.collecting.add_row.Goals as goal

pub loop-field-preserved : goal.loop-field-preserved
loop-field-preserved c = record {
  grows = grind (arith, common_steps, c.in_ok-add_field.ensures.grows, c.loop-field.invariant.grows);
  rows = λ w. more_words (λ (field : FieldTokens). list_any (is_word w) field.words) c.as_slice-field-items.result.now c.loop-field.field-index c.field-item.result c.args.number _ _ _ (omega arith) (search rules) (c.loop-field.invariant.rows w) (c.in_ok-add_field.ensures.rows w);
}
