use Rattle.std.proofs.Common.{◌+◌, nat_eq, cond, map, take, ap, arith}
use Rattle.std.specs.Set.{distinct_count}
use Rattle.doc_types.specs.declared.hits.Hit.{Hit}
use Rattle.rank_expr.proofs.PartValues.{words_more}
use Rattle.rank_expr.proofs.ranking.words_of.Goals as goal
use Rattle.rank_expr.proofs.ranking.words_of.Goals.{then-not-has_word, else-not-has_word}

pub loop-place-preserved : goal.loop-place-preserved
loop-place-preserved c =
    let d : Hit = record { query = 0; word = 0; field = 0; position = 0 } in
    let so = c.loop-place.invariant.0 in
    let few = c.loop-place.invariant.1 in
    let more = words_more c.args.hits.now c.loop-place.place d c.has_word.result c.loop-place-test.true c.has_word.ensures in
    elim c.if-not-has_word.branch [
      | then-not-has_word w ↦
          let one = ap (λ b. distinct_count nat_eq (map (λ (hit : Hit). hit.word) (take c.loop-place.place c.args.hits.now)) + cond b 0 1) w.if-not-has_word.true in
          let now = w.count-is in (omega (arith, so, more, one, now), omega (arith, few, now))
      | else-not-has_word w ↦
          let none = ap (λ b. distinct_count nat_eq (map (λ (hit : Hit). hit.word) (take c.loop-place.place c.args.hits.now)) + cond b 0 1) w.if-not-has_word.false in
          let now = w.count-is in (omega (arith, so, more, none, now), omega (arith, few, now))
    ]
