use Rattle.std.proofs.Common.{◌≡◌, ◌∙◌, ap}
use Rattle.doc_types.specs.Snapshots.{LayerValue}
use Rattle.index_tool.specs.steps.Shown.{lines_of}
use Rattle.index_tool.proofs.EachChunk.{own_words}
use Rattle.index_tool.proofs.chunks.print_layer.Goals as goal

pub returns-clause-prints : goal.returns-clause-prints
returns-clause-prints g c =
    let layer : LayerValue = c.args.layer.now in
    let docs : g.C.Chunk.content c.deref-chunk.result.now ≡ layer.rows = ap g.C.Chunk.content c.deref-chunk.ensures ∙ ap (λ (its : LayerValue). its.rows) c.layer.view_is in
    own_words g.H.ToolHost (lines_of c.args.part) c.print_chunk.result c.args.entry.now layer.rows (g.C.Chunk.content c.deref-chunk.result.now) (g.C.Chunk.words_of c.deref-chunk.result.now) c.args.host.now c.print_chunk.new.host docs
    (g.met.C.Chunk.all_words c.deref-chunk.result.now) c.print_chunk.ensures.prints
