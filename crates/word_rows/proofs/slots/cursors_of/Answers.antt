use Rattle.std.proofs.Common.{Bor, arith}
use Rattle.query_tree.specs.declared.key.Key.{Key}
use Rattle.word_rows.specs.Slots.{Stands}
use Rattle.word_rows.proofs.Passing.{started}
use Rattle.word_rows.proofs.Zipped.{zip_more}
use Rattle.word_rows.proofs.slots.cursors_of.Goals as goal

pub loop-key-preserved : goal.loop-key-preserved
loop-key-preserved g c =
    let belongs = g.C.Chunk.belongs c.args.chunk.now in
    let place = g.C.Chunk.place c.args.chunk.now in
    let rows = g.C.Chunk.content c.args.chunk.now in
    zip_more (Stands belongs place rows 0) (λ (key : Bor Key). key.now.word) c.args.keys.now c.loop-key.key-index c.key-item.result c.loop-key.cursors.items c.push.new.self.items c.start.result
    (omega arith) c.key-item.is c.in_ok-push.ensures.items c.loop-key.invariant
    (started belongs place rows c.key-item.result.now.word c.as_bytes.result.now c.start.result c.as_bytes.ensures c.start.ensures.none c.start.ensures.first)
