use Rattle.std.proofs.Common.{◌≡◌, ◌∙◌, ℕ, ℤ, List, ap, length, map, subst, take, drop, Some, IsPermutation, Vec, Global}
use Rattle.std.specs.List.Sorted.{IsSorted}
use Rattle.std.proofs.lemmas.Result.{IfOk-weaker}
use Rattle.group_facet.specs.Facets.{by_facet, value_counts}
use Rattle.group_facet.specs.Groups.{part}
use Rattle.group_facet.specs.declared.facets.Facet.{Facet}
use Rattle.group_facet.proofs.Counted.{entries_of}
use Rattle.group_facet.proofs.facet_counts.FacetCounts.finish.Goals as goal

pub returns : goal.returns
returns c = λ facet offered so.
    let counted : c.in_ok-values.values.items ≡ value_counts facet.column offered =
    c.in_ok-values.ensures ∙ entries_of (λ value. length (part (Some facet.column) value offered)) c.args.self.counts.entries so.counts
    ∙ ap (map (λ value. (value, length (part (Some facet.column) value offered)))) so.keys in
    IfOk-weaker _ _ _ (λ (shown : Vec (ℤ × ℕ) Global) is. subst (λ (f : Facet). (sorted : List (ℤ × ℕ)) × IsPermutation (value_counts facet.column offered) sorted × IsSorted (by_facet f) sorted × (shown.items ≡ take f.count (drop f.offset sorted))) so.asked
    (c.put_in_order.new.values.items, subst (λ list. IsPermutation list c.put_in_order.new.values.items) counted c.put_in_order.ensures.same, c.put_in_order.ensures.ascend, is)) c.page_of.ensures
