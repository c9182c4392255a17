use Rattle.std.proofs.Common.{◌≡◌, ◌∙◌, ◌==◌, [], ap, length, rules, subst, sym}
use Rattle.std.proofs.lemmas.Bool.{eqb-true}
use Rattle.std.proofs.lemmas.List.{nil_from_length}
use Rattle.doc_types.specs.Snapshots.{IsLayer, LayerValue}
use Rattle.layer_commit.specs.steps.Finding.{joined}
use Rattle.layer_commit.proofs.DeadRows.{dead_of}
use Rattle.layer_commit.proofs.dead_rows.dead_rows.Goals as goal

pub returns-then-is_empty : goal.returns-then-is_empty
returns-then-is_empty g c =
    let is : IsLayer c.args.layer.now = subst IsLayer c.layer.view_is c.layer.invariant in
    let empty : c.in_ok-rows.rows.items ≡ [] =
    nil_from_length c.in_ok-rows.rows.items (eqb-true (length c.in_ok-rows.rows.items) 0 (sym (c.is_empty.ensures ∙ ap (λ n. n == 0) c.in_ok-rows.rows.ok.0) ∙ c.if-is_empty.true)) in
    let dead = ap (λ (layer : LayerValue). layer.dead) c.layer.view_is in
    c.in_ok-try_clone.ensures ∙ dead_of c.args.layer.now is c.args.ids.now c.requires c.args.cleared c.if-cleared.false _ (dead ∙ ap (λ rows. joined c.args.layer.now.dead rows) (sym empty ∙ c.in_ok-rows.ensures))

pub returns : goal.returns
returns g c =
    let is : IsLayer c.args.layer.now = subst IsLayer c.layer.view_is c.layer.invariant in
    c.in_ok-new-2.ensures.ok ∙ dead_of c.args.layer.now is c.args.ids.now c.requires c.args.cleared c.if-cleared.false _ (search rules)
