use Rattle.std.proofs.Common.{◌≡◌, ◌<◌, List, Some, length, slice_get, arith, sym, ◌∙◌, ap, subst}
use Rattle.std.specs.Option.{option_map}
use Rattle.doc_types.specs.Snapshots.{LayerValue}
use Rattle.doc_types.specs.declared.documents.DocRow.{DocRow}
use Rattle.image_chunk.specs.contracts.image_chunk.ImageChunkChunk.TheImpl as words
use Rattle.chunk_files.proofs.Merging.{Ascend, below_more, first_here}
use Rattle.chunk_files.proofs.again.row_from.Goals as goal

pub returns-then-id : goal.returns-then-id
returns-then-id c =
    let docs : words.ghosts.content c.deref.result.now ≡ c.args.layer.now.rows = ap words.ghosts.content c.deref.ensures ∙ ap (λ (its : LayerValue). its.rows) c.layer.view_is in
    let its_docs : words.ghosts.content c.deref-in-rows.result.now ≡ c.args.layer.now.rows = ap words.ghosts.content c.deref-in-rows.ensures ∙ ap (λ (its : LayerValue). its.rows) c.layer.view_is in
    let within : c.rows.row < length c.args.layer.now.rows = omega (arith, c.rows-test.true, c.rows-rows.ensures, ap (λ (rows : List DocRow). length rows) docs) in
    let own : option_map (λ (found : DocRow). found.doc.id) (slice_get c.args.layer.now.rows c.rows.row) ≡ Some c.id.result = ap (λ (rows : List DocRow). option_map (λ (found : DocRow). found.doc.id) (slice_get rows c.rows.row)) (sym its_docs) ∙ c.id.ensures in
    first_here c.args.layer.now.rows c.args.id c.rows.row c.id.result (subst Ascend (ap (λ (its : LayerValue). its.rows) c.layer.view_is) c.layer.invariant.content.of.ids) c.rows.invariant within own (omega (arith, c.if-id.true))

pub rows-preserved : goal.rows-preserved
rows-preserved c =
    let docs : words.ghosts.content c.deref.result.now ≡ c.args.layer.now.rows = ap words.ghosts.content c.deref.ensures ∙ ap (λ (its : LayerValue). its.rows) c.layer.view_is in
    let its_docs : words.ghosts.content c.deref-in-rows.result.now ≡ c.args.layer.now.rows = ap words.ghosts.content c.deref-in-rows.ensures ∙ ap (λ (its : LayerValue). its.rows) c.layer.view_is in
    let within : c.rows.row < length c.args.layer.now.rows = omega (arith, c.rows-test.true, c.rows-rows.ensures, ap (λ (rows : List DocRow). length rows) docs) in
    let own : option_map (λ (found : DocRow). found.doc.id) (slice_get c.args.layer.now.rows c.rows.row) ≡ Some c.id.result = ap (λ (rows : List DocRow). option_map (λ (found : DocRow). found.doc.id) (slice_get rows c.rows.row)) (sym its_docs) ∙ c.id.ensures in
    below_more c.args.layer.now.rows c.args.id c.rows.row c.id.result c.rows.invariant within own (omega (arith, c.if-id.false))
