use Rattle.std.proofs.Common.{◌≡◌, ◌∙◌, ◌==◌, ◌||◌, ap, subst, sym}
use Rattle.std.specs.Arc.{arc_value}
use Rattle.std.specs.List.{list_any}
use Rattle.doc_types.specs.Snapshots.{IsLayer, LayerValue}
use Rattle.layer_commit.specs.steps.Finding.{layer_with}
use Rattle.layer_commit.proofs.DeadRows.{layer_is}
use Rattle.layer_commit.proofs.committing.layer_with.Goals as goal

pub invariant_of-result : goal.invariant_of-result
invariant_of-result g c =
    let is : IsLayer (layer_with (λ id. c.args.cleared || list_any (λ n. n == id) c.args.ids.now) c.args.layer.now) =
    layer_is (λ id. c.args.cleared || list_any (λ n. n == id) c.args.ids.now) c.args.layer.now (subst IsLayer c.layer.view_is c.layer.invariant) in
    let rows : c.args.layer.now.rows ≡ g.C.Chunk.content (arc_value c.in_ok-try_clone.field-0) = ap (λ (layer : LayerValue). layer.rows) (sym c.layer.view_is) ∙ ap (λ (chunk : g.row.C.Denot). g.C.Chunk.content chunk) (sym c.in_ok-try_clone.ensures) in
    let disk : c.args.layer.now.disk ≡ c.layer.inside.disk = ap (λ (layer : LayerValue). layer.disk) (sym c.layer.view_is) in
    subst IsLayer (λ i. record { rows = rows i; disk = disk i; dead = sym c.in_ok-dead.ensures i }) is
