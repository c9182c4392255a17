use Rattle.std.proofs.Common.{◌≡◌, ◌∙◌, ℕ, List, ◌∷◌, ap, sym, subst}
use Rattle.std.specs.List.{AllZip}
use Rattle.doc_types.specs.Chunks.{AreWordsOf}
use Rattle.doc_types.specs.Snapshots.{LayerValue}
use Rattle.index_tool.specs.steps.Shown.{rows_on_disk}
use Rattle.index_tool.proofs.EachChunk.{known_more}
use Rattle.index_tool.proofs.chunks.+words_are_known.Goals as goal

pub returns-in-Some : goal.returns-in-Some
returns-in-Some g t c =
    let layer : LayerValue = c.in-Some.layer.now in
    let others : List LayerValue = c.in-Some.others.now in
    let are : c.args.layers.now ≡ layer ∷ others = c.in-Some.ensures.cases.0 in
    let docs : g.C.Chunk.content c.deref-chunk.result.now ≡ layer.rows = ap g.C.Chunk.content c.deref-chunk.ensures ∙ ap (λ (its : LayerValue). its.rows) c.layer.view_is in
    subst (λ (layers : List LayerValue). (words : List (List (List ℕ))) × AllZip AreWordsOf (rows_on_disk layers) words) (sym are)
    (known_more layer others (g.C.Chunk.content c.deref-chunk.result.now) (g.C.Chunk.words_of c.deref-chunk.result.now) docs (g.met.C.Chunk.all_words c.deref-chunk.result.now) c.words_are_known.ensures)
