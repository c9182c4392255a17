use Rattle.std.proofs.Common.{◌∙◌, ap, subst, sym}
use Rattle.std.specs.Prelude.{List}
use Rattle.std.specs.List.{list_any}
use Rattle.occ_lists.specs.declared.occ.Occ.{Occ}
use Rattle.occ_lists.specs.Places.{holds}
use Rattle.occ_lists.specs.steps.Spread.{IsSpread}
use Rattle.occ_lists.proofs.Spreading.{spread_is, spread_holds}
use Rattle.occ_lists.proofs.cover.Cover.over.Goals as goal

pub invariant_of-result : goal.invariant_of-result
invariant_of-result c = subst (λ (xs : List Occ). IsSpread xs) (sym c.spread.ensures) (spread_is c.sort_distinct.new.list.items c.sort_distinct.ensures.ascend)

pub returns : goal.returns
returns c = λ place.
    ap (λ xs. list_any (λ o. holds o place) xs) c.spread.ensures
    ∙ spread_holds c.sort_distinct.new.list.items c.sort_distinct.ensures.ascend place
    ∙ c.sort_distinct.ensures.same (λ o. holds o place)
