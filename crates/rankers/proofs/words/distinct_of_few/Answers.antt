use Rattle.std.proofs.Common.{◌+◌, nat_eq, cond, take, ap, arith}
use Rattle.std.specs.Set.{distinct_count}
use Rattle.doc_types.specs.declared.hits.Hit.{Hit}
use Rattle.rankers.proofs.WordTable.{count_other, count_own, words_in}
use Rattle.rankers.proofs.words.distinct_of_few.Goals as goal
use Rattle.rankers.proofs.words.distinct_of_few.Goals.{then-hit-field+then-not-has_word, else-hit-field, else-hit-field-via-then-hit-field+else-not-has_word, else-hit-field-via-else-hit-field}

pub loop-place-preserved : goal.loop-place-preserved
loop-place-preserved c =
    let d : Hit = record { query = 0; word = 0; field = 0; position = 0 } in
    let hits = c.args.hits.now in
    let field = c.args.field in
    let i = c.loop-place.place in
    let so = c.loop-place.invariant.0 in
    let few = c.loop-place.invariant.1 in
    elim c.if-hit-field.branch [
      | then-hit-field+then-not-has_word w ↦
          let more = count_own field hits i d c.loop-place-test.true w.if-hit-field.true w.has_word.result w.has_word.ensures in
          let one = ap (λ b. distinct_count nat_eq (words_in field (take i hits)) + cond b 0 1) w.if-not-has_word.true in
          let now = w.count-is in (omega (arith, so, more, one, now), omega (arith, few, now))
      | else-hit-field w ↦
          let now = w.count-is in
          elim w.else-hit-field.branch [
            | else-hit-field-via-then-hit-field+else-not-has_word w' ↦
                let more = count_own field hits i d c.loop-place-test.true w'.if-hit-field.true w'.has_word.result w'.has_word.ensures in
                let none = ap (λ b. distinct_count nat_eq (words_in field (take i hits)) + cond b 0 1) w'.if-not-has_word.false in (omega (arith, so, more, none, now), omega (arith, few, now))
            | else-hit-field-via-else-hit-field w' ↦
                let same = count_other field hits i d c.loop-place-test.true w'.if-hit-field.false in (omega (arith, so, same, now), omega (arith, few, now))
          ]
    ]
