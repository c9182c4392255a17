use Rattle.std.proofs.Common.{subst, IsPermutation}
use Rattle.group_facet.proofs.shown.top_groups.Goals as goal

pub returns-clause-rows : goal.returns-clause-rows
returns-clause-rows c =
    (c.put_in_order.new.groups.items, subst (λ list. IsPermutation list c.put_in_order.new.groups.items) c.in_ok-kept.ensures c.put_in_order.ensures.same, c.put_in_order.ensures.ascend, c.in_ok-rows.ensures)
