use Rattle.std.proofs.Common.{rules, arith}
use Rattle.doc_types.specs.Chunks.{is_word}
use Rattle.doc_types.proofs.Collected.{more_words}
use Rattle.doc_types.proofs.collecting.add_field.Goals as goal

pub loop-token-preserved : goal.loop-token-preserved
loop-token-preserved c = record {
  grows = omega (arith, c.in_ok-add_word.ensures.grows, c.loop-token.invariant.grows);
  rows = λ w. more_words (is_word w) c.as_slice-token-items.result.now c.loop-token.token-index c.token-item.result c.args.row _ _ _ (omega arith) (search rules) (c.loop-token.invariant.rows w) (c.in_ok-add_word.ensures.rows w);
}
