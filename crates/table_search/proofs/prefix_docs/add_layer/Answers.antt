use Rattle.std.proofs.Common.{◌≡◌, ◌∙◌, ◌+◌, ℕ, Bool, List, IfOk, ap, map, subst}
use Rattle.doc_types.specs.declared.documents.DocRow.{DocRow}
use Rattle.doc_types.specs.Snapshots.{LayerValue}
use Rattle.table_search.specs.steps.Counting.{has_some, living_marks}
use Rattle.table_search.proofs.Marks.{marks_living}
use Rattle.table_search.proofs.prefix_docs.add_layer.Goals as goal

pub returns : goal.returns
returns g c =
    let layer = c.args.layer.now in
    let words = c.args.words.now in
    let docs : g.C.Chunk.content c.deref-chunk.result.now ≡ layer.rows =
    ap g.C.Chunk.content c.deref-chunk.ensures ∙ ap (λ (its : LayerValue). its.rows) c.layer.view_is in
    let dead : c.as_slice.result.now ≡ layer.dead = c.as_slice.ensures ∙ c.deref-2.ensures ∙ ap (λ (its : LayerValue). its.dead) c.layer.view_is in
    let marks : c.deref.result.now ≡ map (has_some words) layer.rows = c.deref.ensures.value ∙ c.in_ok-marks.ensures ∙ ap (λ (rows : List DocRow). map (has_some words) rows) docs in
    subst (λ (n : ℕ). IfOk c.add_marks.result (λ more. more ≡ c.args.docs + n))
    (ap (λ (d : List ℕ). living_marks d c.deref.result.now) dead ∙ ap (λ (m : List Bool). living_marks layer.dead m) marks ∙ marks_living words layer)
    c.add_marks.ensures
