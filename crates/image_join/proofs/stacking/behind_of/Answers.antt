use Rattle.std.proofs.Common.{◌≡◌, ◌<◌, ◌+◌, length, ap, ◌∙◌, arith}
use Rattle.doc_types.specs.Chunks.{CursorPlace, IsCursorPlace, rows_with}
use Rattle.image_join.specs.steps.Stacking.{behind}
use Rattle.image_join.proofs.Ahead.{next_below, next_some}
use Rattle.image_join.proofs.Stacked.{behind_ahead, behind_last}
use Rattle.image_join.proofs.stacking.behind_of.Goals as goal

pub loop-row-init : goal.loop-row-init
loop-row-init g c =
    let chunk = c.args.chunk.now in
    let rows = g.C.Chunk.content chunk in
    let cursor = c.near_end-cursor.result in
    let place : CursorPlace = g.C.Chunk.place chunk cursor in
    let is : IsCursorPlace rows place = g.met.C.Chunk.places chunk cursor c.near_end-cursor.ensures.belongs in
    let last : behind 0 place.ahead ≡ behind 0 (rows_with place.word rows) = behind_last is.behind place.ahead (next_some place c.near_end-cursor.ensures.some) ∙ ap (behind 0) is.both in
    record {
      belongs = c.near_end-cursor.ensures.belongs;
      within = omega arith;
      both = λ w there. let word = c.near_end-cursor.ensures.word w there in (word, last ∙ ap (λ v. behind 0 (rows_with v rows)) word);
    }

pub loop-row-preserved : goal.loop-row-preserved
loop-row-preserved g c =
    let chunk = c.args.chunk.now in
    let row = c.in-Some.row in
    let place : CursorPlace = g.C.Chunk.place chunk c.loop-row.cursor in
    let low : row < length (g.C.Chunk.content chunk) = next_below (g.C.Chunk.content chunk) place row (g.met.C.Chunk.places chunk c.loop-row.cursor c.loop-row.invariant.belongs) c.in-Some.ensures.next in
    record {
      belongs = c.advance.ensures.stays;
      within = omega (arith, low);
      both = λ w there.
          let was = c.loop-row.invariant.both w there in (
            ap (λ (p : CursorPlace). p.word) c.advance.ensures.next ∙ was.0,
            ap (λ (p : CursorPlace). behind (row + 1) p.ahead) c.advance.ensures.next ∙ behind_ahead place.ahead row c.loop-row.behind c.in-Some.ensures.next ∙ was.1,
          );
    }
