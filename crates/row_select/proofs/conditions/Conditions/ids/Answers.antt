use Rattle.std.proofs.Common.{◌∙◌, List, subst}
use Rattle.row_select.specs.Filters.{AreIdsOf}
use Rattle.row_select.specs.declared.filter.Filter.{Filter}
use Rattle.row_select.proofs.Listed.{ids_of}
use Rattle.row_select.proofs.conditions.Conditions.ids.Goals as goal

pub returns-in-Some-clause-ids : goal.returns-in-Some-clause-ids
returns-in-Some-clause-ids c =
    subst (λ (list : List Filter). AreIdsOf list c.in-Some.ids.now) (c.deref-condition-items.ensures.value ∙ c.self.view_is)
    (ids_of c.deref-condition-items.result.now c.loop-condition.condition-index c.condition-item.result c.in-Some.ids.now c.loop-condition-test.true c.condition-item.is c.in-Some.ensures.ids)
