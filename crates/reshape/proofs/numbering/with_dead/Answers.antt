use Rattle.std.proofs.Common.{◌≡◌, ◌∙◌, ap, subst, sym}
use Rattle.std.specs.Arc.{arc_value}
use Rattle.doc_types.specs.Snapshots.{IsLayer, LayerValue}
use Rattle.reshape.specs.steps.Moving.{numbers}
use Rattle.reshape.proofs.Numbers.{layer_is}
use Rattle.reshape.proofs.numbering.with_dead.Goals as goal

pub invariant_of-result : goal.invariant_of-result
invariant_of-result g c =
    let is : IsLayer (record c.args.layer.now { dead = numbers c.requires.0 c.args.layer.now.rows }) = layer_is c.requires.0 c.args.layer.now (subst IsLayer c.layer.view_is c.layer.invariant) in
    let rows : c.args.layer.now.rows ≡ g.C.Chunk.content (arc_value c.in_ok-try_clone.field-0) = ap (λ (layer : LayerValue). layer.rows) (sym c.layer.view_is) ∙ ap (λ (chunk : g.row.C.Denot). g.C.Chunk.content chunk) (sym c.in_ok-try_clone.ensures) in
    let disk : c.args.layer.now.disk ≡ c.layer.inside.disk = ap (λ (layer : LayerValue). layer.disk) (sym c.layer.view_is) in
    let dead : numbers c.requires.0 c.args.layer.now.rows ≡ arc_value c.in_ok-new.field-0 = sym c.requires.1 ∙ sym c.new.ensures ∙ sym c.in_ok-new.ensures.ok in
    subst IsLayer (λ i. record { rows = rows i; disk = disk i; dead = dead i }) is
