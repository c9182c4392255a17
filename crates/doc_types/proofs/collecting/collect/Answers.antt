use Rattle.std.proofs.Common.{rules, arith, ap, sym, ◌∙◌, length}
use Rattle.std.proofs.lemmas.Grind.{common_steps}
use Rattle.doc_types.specs.Chunks.{has_word}
use Rattle.doc_types.specs.steps.Collecting.{with_row}
use Rattle.doc_types.proofs.Indexed.{one_row}
use Rattle.doc_types.proofs.collecting.collect.Goals as goal

pub loop-number-preserved : goal.loop-number-preserved
loop-number-preserved c = record {
  size = grind (arith, common_steps, c.in_ok-add_row.ensures.grows, c.loop-number.invariant.size);
  rows = λ w.
      c.in_ok-add_row.ensures.rows w
      ∙ ap (with_row c.loop-number.number (has_word w c.row-item.result)) (c.loop-number.invariant.rows w)
      ∙ sym (one_row (has_word w) c.args.rows.now c.loop-number.number c.row-item.result (omega (arith, ap length c.as_slice-row-items.ensures)) (search rules));
}
