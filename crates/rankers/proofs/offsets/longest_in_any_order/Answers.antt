use Rattle.std.proofs.Common.{ℕ, max, get_or, ap, sym, ◌∙◌}
use Rattle.std.specs.List.{count_by}
use Rattle.doc_types.specs.declared.hits.Hit.{Hit}
use Rattle.rankers.specs.Weight.{in_field, same_offset}
use Rattle.rankers.proofs.AnyOrder.{counted, greatest_more, greatest_same}
use Rattle.rankers.proofs.OffsetRing.{ord_max_is}
use Rattle.rankers.proofs.offsets.longest_in_any_order.Goals as goal
use Rattle.rankers.proofs.offsets.longest_in_any_order.Goals.{then-hit-field, else-hit-field}

pub loop-hit-preserved : goal.loop-hit-preserved
loop-hit-preserved c =
    let d : Hit = record { query = 0; word = 0; field = 0; position = 0 } in
    let i = c.loop-hit.hit-index in
    let f : Hit → ℕ = λ hit. count_by (same_offset hit) (in_field c.args.field c.args.hits.now) in
    let hit : Hit = get_or c.args.hits.now i d in
    elim c.if-hit-field.branch [
      | then-hit-field w ↦
          w.most-is
          ∙ (w.max-most.ensures ∙ ord_max_is _ _)
          ∙ ap (λ n. max c.loop-hit.most n) (w.count_at_offset.ensures ∙ counted c.args.field c.args.hits.now hit)
          ∙ ap (λ n. max n (f hit)) c.loop-hit.invariant
          ∙ sym (greatest_more f c.args.field c.args.hits.now i d c.loop-hit-test.true w.if-hit-field.true)
      | else-hit-field w ↦
          w.most-is
          ∙ c.loop-hit.invariant
          ∙ sym (greatest_same f c.args.field c.args.hits.now i d c.loop-hit-test.true w.if-hit-field.false)
    ]
