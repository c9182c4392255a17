use Rattle.std.proofs.Common.{◌∙◌, ◌==◌, ℕ, List, ap, not}
use Rattle.std.specs.List.{list_any}
use Rattle.reshape.specs.steps.Moving.{has_moving, numbers}
use Rattle.reshape.proofs.Numbers.{agree}
use Rattle.reshape.proofs.numbering.still_living.Goals as goal

pub returns : goal.returns
returns g c =
    let layer = c.args.layer.now in
    let dead = c.in_ok-dead.ensures ∙ ap (λ (ids : List ℕ). numbers (λ e. not (list_any (λ id. id == e.1.doc.id) ids)) layer.rows) c.as_slice.ensures.value
    ∙ agree (λ e. not (list_any (λ id. id == e.1.doc.id) c.in_ok-ids.ids.items)) (λ e. not (has_moving c.args.job c.args.front c.args.layers.now e.1.doc.id)) (λ e. ap not (c.in_ok-ids.ensures.same e.1.doc.id)) layer.rows in
    c.in_ok-next.ensures ∙ ap (λ (rows : List ℕ). record layer { dead = rows }) dead
