use Rattle.std.proofs.Common.{◌≡◌, ◌==◌, ℕ, ◌∙◌, ap, sym}
use Rattle.std.specs.List.{list_any}
use Rattle.doc_types.specs.Snapshots.{LayerValue}
use Rattle.chunk_files.proofs.Merging.{again_not, again_unless}
use Rattle.chunk_files.proofs.again.is_again.Goals as goal

pub returns-then-not-has_living : goal.returns-then-not-has_living
returns-then-not-has_living c = λ found at same. again_not c.args.other.now c.args.layer.now c.args.row c.args.id found c.requires.other same (sym c.has_living.ensures ∙ c.if-not-has_living.true)

pub returns : goal.returns
returns c = λ found at same.
    let dead : c.as_slice.result.now ≡ c.args.layer.now.dead = c.as_slice.ensures ∙ c.deref.ensures ∙ ap (λ (its : LayerValue). its.dead) c.layer.view_is in
    again_unless c.args.other.now c.args.layer.now c.args.row c.args.id found c.is_dead.result c.requires.other same (sym c.has_living.ensures ∙ c.if-not-has_living.false) (c.is_dead.ensures ∙ ap (list_any (λ (d : ℕ). d == c.args.row)) dead)
