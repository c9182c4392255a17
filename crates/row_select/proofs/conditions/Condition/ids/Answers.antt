use Rattle.std.proofs.Common.{◌≡◌, ◌∙◌, subst, sym, true}
use Rattle.row_select.specs.Filters.{lists_ids}
use Rattle.row_select.specs.declared.filter.Filter.{Filter}
use Rattle.row_select.specs.steps.Listing.{ListsIds}
use Rattle.row_select.proofs.Listed.{lists}
use Rattle.row_select.proofs.conditions.Condition.ids.Goals as goal

pub returns-then-lists_ids-clause-ids : goal.returns-then-lists_ids-clause-ids
returns-then-lists_ids-clause-ids c =
    let its = c.self.inside in
    let told : lists_ids its.filter.now ≡ true = sym c.lists_ids.ensures ∙ c.if-lists_ids.true in
    subst (ListsIds c.args.self.now) (sym c.deref.ensures.value)
    (subst (λ (condition : Filter). ListsIds condition its.listed.items) c.self.view_is (lists its.filter.now its.listed.items told c.self.invariant))
