use Rattle.std.proofs.Common.{◌≡◌, ◌≤◌, ◌<◌, [], ◌∷◌, List, Some, length, slice_get, arith, sym, ◌∙◌, ap, subst}
use Rattle.std.specs.Option.{option_map}
use Rattle.doc_types.specs.Snapshots.{LayerValue}
use Rattle.doc_types.specs.declared.documents.DocRow.{DocRow}
use Rattle.image_chunk.specs.contracts.image_chunk.ImageChunkChunk.TheImpl as words
use Rattle.chunk_files.proofs.Merging.{Ascend, before_next, found_id}
use Rattle.chunk_files.proofs.Scanned.{again_here, again_later, again_none}
use Rattle.chunk_files.proofs.again.again_beside.Goals as goal

pub returns-then-is_again : goal.returns-then-is_again
returns-then-is_again c =
    let docs : words.ghosts.content c.deref.result.now ≡ c.args.layer.now.rows = ap words.ghosts.content c.deref.ensures ∙ ap (λ (its : LayerValue). its.rows) c.layer.view_is in
    let its_docs : words.ghosts.content c.deref-in-rows.result.now ≡ c.args.layer.now.rows = ap words.ghosts.content c.deref-in-rows.ensures ∙ ap (λ (its : LayerValue). its.rows) c.layer.view_is in
    let within : c.rows.row < length c.args.layer.now.rows = omega (arith, c.rows-test.true, c.rows-row-end.ensures, ap (λ (rows : List DocRow). length rows) docs) in
    let own : option_map (λ (found : DocRow). found.doc.id) (slice_get c.args.layer.now.rows c.rows.row) ≡ Some c.id-id.result = ap (λ (rows : List DocRow). option_map (λ (found : DocRow). found.doc.id) (slice_get rows c.rows.row)) (sym its_docs) ∙ c.id-id.ensures in
    sym (again_here (c.args.other.now ∷ []) c.args.layer.now c.rows.row c.is_again.result c.rows.invariant.0 within (λ found at. c.is_again.ensures found at (found_id c.args.layer.now.rows c.rows.row c.id-id.result found at own)) c.if-is_again.true)

pub rows-preserved : goal.rows-preserved
rows-preserved c =
    let docs : words.ghosts.content c.deref.result.now ≡ c.args.layer.now.rows = ap words.ghosts.content c.deref.ensures ∙ ap (λ (its : LayerValue). its.rows) c.layer.view_is in
    let its_docs : words.ghosts.content c.deref-in-rows.result.now ≡ c.args.layer.now.rows = ap words.ghosts.content c.deref-in-rows.ensures ∙ ap (λ (its : LayerValue). its.rows) c.layer.view_is in
    let within : c.rows.row < length c.args.layer.now.rows = omega (arith, c.rows-test.true, c.rows-row-end.ensures, ap (λ (rows : List DocRow). length rows) docs) in
    let own : option_map (λ (found : DocRow). found.doc.id) (slice_get c.args.layer.now.rows c.rows.row) ≡ Some c.id-id.result = ap (λ (rows : List DocRow). option_map (λ (found : DocRow). found.doc.id) (slice_get rows c.rows.row)) (sym its_docs) ∙ c.id-id.ensures in (
      again_later (c.args.other.now ∷ []) c.args.layer.now c.rows.row c.is_again.result c.rows.invariant.0 within (λ found at. c.is_again.ensures found at (found_id c.args.layer.now.rows c.rows.row c.id-id.result found at own)) c.if-is_again.false,
      before_next c.row_from-at.result c.args.other.now.rows c.rows.row c.id-id.result c.args.layer.now.rows (subst Ascend (ap (λ (its : LayerValue). its.rows) c.layer.view_is) c.layer.invariant.content.of.ids) c.row_from-at.ensures within own,
    )

pub returns : goal.returns
returns c =
    let docs : words.ghosts.content c.deref.result.now ≡ c.args.layer.now.rows = ap words.ghosts.content c.deref.ensures ∙ ap (λ (its : LayerValue). its.rows) c.layer.view_is in
    let past : length c.args.layer.now.rows ≤ c.rows.row = omega (arith, c.rows-test.false, c.rows-row-end.ensures, ap (λ (rows : List DocRow). length rows) docs) in
    sym (again_none (c.args.other.now ∷ []) c.args.layer.now c.rows.row c.rows.invariant.0 past)
