use Rattle.std.proofs.Common.{subst, ap, ◌∙◌, slice_index_or, length, ◌≤◌, ◌<◌, List}
use Rattle.query_tree.specs.declared.query.Item.{Item}
use Rattle.query_read.proofs.NodeValues.{plain_one}
use Rattle.query_read.proofs.reader.is_plain.Goals as goal

pub returns-in-len1 : goal.returns-in-len1
returns-in-len1 c =
    let some : 1 ≤ length c.args.items.now = subst (λ (v : List Item). 1 ≤ length v) c.as_slice.ensures c.in-len1.len_at_least in
    let few : length c.args.items.now < 2 = subst (λ (v : List Item). length v < 2) c.as_slice.ensures c.in-len1.len_below in
    plain_one c.args.items.now c.item-item.result some few (c.item-item.is ∙ ap (λ (v : List Item). slice_index_or v 0 c.item-item.result) c.as_slice.ensures)
