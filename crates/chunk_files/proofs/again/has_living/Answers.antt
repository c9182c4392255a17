use Rattle.std.proofs.Common.{◌≡◌, ◌≤◌, ◌<◌, ◌==◌, not, ℕ, List, Some, length, slice_get, arith, sym, ◌∙◌, ap, subst}
use Rattle.std.specs.List.{list_any}
use Rattle.std.specs.Option.{option_map}
use Rattle.doc_types.specs.Snapshots.{LayerValue}
use Rattle.doc_types.specs.declared.documents.DocRow.{DocRow}
use Rattle.image_chunk.specs.contracts.image_chunk.ImageChunkChunk.TheImpl as words
use Rattle.chunk_files.proofs.Merging.{Ascend, living_here, living_other, living_past}
use Rattle.chunk_files.proofs.again.has_living.Goals as goal

pub returns-then-at-rows : goal.returns-then-at-rows
returns-then-at-rows c =
    let docs : words.ghosts.content c.deref.result.now ≡ c.args.layer.now.rows = ap words.ghosts.content c.deref.ensures ∙ ap (λ (its : LayerValue). its.rows) c.layer.view_is in
    let past : length c.args.layer.now.rows ≤ c.args.at = omega (arith, c.if-at-rows.true, c.rows.ensures, ap (λ (rows : List DocRow). length rows) docs) in
    sym (living_past c.args.layer.now c.args.id c.args.at c.requires past)

pub returns-then-id : goal.returns-then-id
returns-then-id c =
    let docs : words.ghosts.content c.deref.result.now ≡ c.args.layer.now.rows = ap words.ghosts.content c.deref.ensures ∙ ap (λ (its : LayerValue). its.rows) c.layer.view_is in
    let its_docs : words.ghosts.content c.deref-2.result.now ≡ c.args.layer.now.rows = ap words.ghosts.content c.deref-2.ensures ∙ ap (λ (its : LayerValue). its.rows) c.layer.view_is in
    let within : c.args.at < length c.args.layer.now.rows = omega (arith, c.if-at-rows.false, c.rows.ensures, ap (λ (rows : List DocRow). length rows) docs) in
    let own : option_map (λ (found : DocRow). found.doc.id) (slice_get c.args.layer.now.rows c.args.at) ≡ Some c.id.result = ap (λ (rows : List DocRow). option_map (λ (found : DocRow). found.doc.id) (slice_get rows c.args.at)) (sym its_docs) ∙ c.id.ensures in
    sym (living_other c.args.layer.now c.args.id c.args.at c.id.result (subst Ascend (ap (λ (its : LayerValue). its.rows) c.layer.view_is) c.layer.invariant.content.of.ids) c.requires within own c.if-id.true)

pub returns : goal.returns
returns c =
    let docs : words.ghosts.content c.deref.result.now ≡ c.args.layer.now.rows = ap words.ghosts.content c.deref.ensures ∙ ap (λ (its : LayerValue). its.rows) c.layer.view_is in
    let its_docs : words.ghosts.content c.deref-2.result.now ≡ c.args.layer.now.rows = ap words.ghosts.content c.deref-2.ensures ∙ ap (λ (its : LayerValue). its.rows) c.layer.view_is in
    let within : c.args.at < length c.args.layer.now.rows = omega (arith, c.if-at-rows.false, c.rows.ensures, ap (λ (rows : List DocRow). length rows) docs) in
    let own : option_map (λ (found : DocRow). found.doc.id) (slice_get c.args.layer.now.rows c.args.at) ≡ Some c.id.result = ap (λ (rows : List DocRow). option_map (λ (found : DocRow). found.doc.id) (slice_get rows c.args.at)) (sym its_docs) ∙ c.id.ensures in
    let dead : c.as_slice.result.now ≡ c.args.layer.now.dead = c.as_slice.ensures ∙ c.deref-3.ensures ∙ ap (λ (its : LayerValue). its.dead) c.layer.view_is in
    ap not (c.is_dead.ensures ∙ ap (list_any (λ (d : ℕ). d == c.args.at)) dead) ∙ sym (living_here c.args.layer.now c.args.id c.args.at c.id.result c.requires within own c.if-id.false)
