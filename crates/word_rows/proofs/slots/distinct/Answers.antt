use Rattle.std.proofs.Common.{Bor, ap, ◌∙◌, arith}
use Rattle.query_tree.specs.declared.key.Key.{Key}
use Rattle.word_rows.specs.steps.Cursors.{with_word}
use Rattle.word_rows.proofs.FirstUses.{first_uses_more}
use Rattle.word_rows.proofs.slots.distinct.Goals as goal

pub loop-key-preserved : goal.loop-key-preserved
loop-key-preserved c =
    first_uses_more (λ (key : Bor Key). key.now) (λ (key : Key). key.word) c.args.keys.now c.loop-key.key-index c.key-item.result _ _ (omega arith) c.key-item.is c.loop-key.invariant
    (c.in_ok-add.ensures ∙ ap (with_word _) c.as_bytes.ensures)
