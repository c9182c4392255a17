use Rattle.std.proofs.Common.{◌+◌, ◌<◌, List, length, take, arith}
use Rattle.doc_types.specs.declared.hits.Hit.{Hit}
use Rattle.rankers.proofs.WordTable.{next_other, next_again, next_more, met_same}
use Rattle.rankers.proofs.words.distinct_by.Goals as goal
use Rattle.rankers.proofs.words.distinct_by.Goals.{then-hit-field+then-not-met-word, else-hit-field, else-hit-field-via-then-hit-field+else-not-met-word, else-hit-field-via-else-hit-field}

pub loop-hit-preserved : goal.loop-hit-preserved
loop-hit-preserved c =
    let d : Hit = record { query = 0; word = 0; field = 0; position = 0 } in
    let met = c.loop-hit.met in
    let next : List Hit = take (c.loop-hit.hit-index + 1) c.args.hits.now in
    let room : c.from-word.result < length met = omega (arith, c.requires.room c.loop-hit.hit-index d c.loop-hit-test.true) in
    elim c.if-hit-field.branch [
      | then-hit-field+then-not-met-word w ↦ (
        met_same c.args.field _ c.if-hit-field.met _ c.if-hit-field.count next w.met-is w.count-is
            (next_more c.args.field met c.loop-hit.count c.args.hits.now c.loop-hit.hit-index d c.loop-hit-test.true c.loop-hit.invariant.0 c.from-word.result c.from-word.ensures
            w.if-hit-field.true room w.if-not-met-word.true),
        omega arith,
      )
      | else-hit-field w ↦
          elim w.else-hit-field.branch [
            | else-hit-field-via-then-hit-field+else-not-met-word w' ↦ (
              met_same c.args.field _ c.if-hit-field.met _ c.if-hit-field.count next w.met-is w.count-is
                  (next_again c.args.field met c.loop-hit.count c.args.hits.now c.loop-hit.hit-index d c.loop-hit-test.true c.loop-hit.invariant.0 c.from-word.result c.from-word.ensures
                  w'.if-hit-field.true room w'.if-not-met-word.false),
              omega arith,
            )
            | else-hit-field-via-else-hit-field w' ↦ (
              met_same c.args.field _ c.if-hit-field.met _ c.if-hit-field.count next w.met-is w.count-is
                  (next_other c.args.field met c.loop-hit.count c.args.hits.now c.loop-hit.hit-index d c.loop-hit-test.true c.loop-hit.invariant.0 w'.if-hit-field.false),
              omega arith,
            )
          ]
    ]
