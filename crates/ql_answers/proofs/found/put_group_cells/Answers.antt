use Rattle.std.proofs.Common.{◌≡◌, ℤ, to_z, of_z, rules, ◌<◌, ◌++◌, [], ◌∷◌, append-nil, length, sym, ap, ◌∙◌, arith}
use mir.Syntax.{w128}
use Rattle.mysql_wire.specs.Rows.{row_payload}
use Rattle.mysql_wire.specs.declared.rows.Cell.TheVariants.{Whole}
use Rattle.group_facet.specs.ShownGroups.{group_value}
use Rattle.ql_select.specs.declared.selection.Shown.{Shown}
use Rattle.ql_answers.proofs.Cells.{more}
use Rattle.ql_answers.proofs.found.put_group_cells.Goals as goal

pub columns-init : goal.columns-init
unfolding row_payload
columns-init c = sym (append-nil c.args.payload.now.items)

pub columns-preserved : goal.columns-preserved
columns-preserved c =
    let held : ℤ = to_z w128 (of_z w128 c.value.result) in
    let back : held ≡ c.value.result = search rules in
    let below : c.columns.one-index < length c.args.shown.now = omega arith in
    more (λ (one : Shown). Whole (group_value one.from c.args.group.now)) c.args.shown.now c.columns.one-index c.one-item.result c.args.payload.now.items c.columns.payload.items c.put_row.new.out.items
    below c.columns.invariant
    (c.in_ok-put_row.ensures.ok ∙ ap (λ (value : ℤ). c.columns.payload.items ++ row_payload (Whole value ∷ [])) (back ∙ c.value.ensures)
    ∙ ap (λ (one : Shown). c.columns.payload.items ++ row_payload (Whole (group_value one.from c.args.group.now) ∷ [])) c.one-item.is)
