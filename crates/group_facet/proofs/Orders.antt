-- The orders of groups and of a facet's values are total orders.
use Rattle.std.proofs.Common.{ℕ, ℤ, Bool, true, false, List, [], ◌∷◌, if◌then◌else◌}
use Rattle.std.specs.Cmp.{IsStrictWeakOrder, IsTotalOrder}
use Rattle.std.specs.Ordering.{int_cmp, is_lt, nat_cmp}
use Rattle.std.proofs.lemmas.Cmp.{nat_cmp_total, int_cmp_total, on_total, then_total, back_total}
use Rattle.std.proofs.lemmas.List.Sorted.{ranks_by}
use Rattle.group_facet.specs.Facets.{by_chosen, by_facet}
use Rattle.group_facet.specs.ShownGroups.{by_group_key, by_group_keys, group_value}
use Rattle.group_facet.specs.declared.facets.Facet.{Facet}
use Rattle.group_facet.specs.declared.grouping.GroupRow.{GroupRow}
use Rattle.group_facet.specs.declared.shown.GroupColumn.{GroupColumn}

by_group_key_total : (column : GroupColumn) (descending : Bool) → IsTotalOrder (by_group_key (column, descending))
by_group_key_total column true = back_total (on_total (group_value column) int_cmp_total)
by_group_key_total column false = on_total (group_value column) int_cmp_total

pub by_group_keys_total : (keys : List (GroupColumn × Bool)) → IsTotalOrder (by_group_keys keys)
by_group_keys_total [] = on_total (λ (group : GroupRow). group.best.id) nat_cmp_total
by_group_keys_total (key ∷ keys) = then_total (by_group_key_total key.0 key.1) (by_group_keys_total keys)

-- a group comes before another one
abbrev pub comes_before : List (GroupColumn × Bool) → GroupRow → GroupRow → Bool
comes_before keys group other = is_lt (by_group_keys keys group other)

pub groups_rank : (keys : List (GroupColumn × Bool)) → IsStrictWeakOrder (comes_before keys)
groups_rank keys = ranks_by (by_group_keys_total keys) (λ (group : GroupRow). group)

chosen_total : (by_count : Bool) → IsTotalOrder (λ (value other : ℤ × ℕ). if by_count then nat_cmp value.1 other.1 else int_cmp value.0 other.0)
chosen_total true = on_total (λ (value : ℤ × ℕ). value.1) nat_cmp_total
chosen_total false = on_total (λ (value : ℤ × ℕ). value.0) int_cmp_total

directed_total : (facet : Facet) (descending : Bool) → IsTotalOrder (λ (value other : ℤ × ℕ). if descending then by_chosen facet other value else by_chosen facet value other)
directed_total facet true = back_total (chosen_total facet.by_count)
directed_total facet false = chosen_total facet.by_count

pub by_facet_total : (facet : Facet) → IsTotalOrder (by_facet facet)
by_facet_total facet = then_total (directed_total facet facet.descending) (on_total (λ (value : ℤ × ℕ). value.0) int_cmp_total)

-- a value comes before another one
abbrev pub leads : Facet → ℤ × ℕ → ℤ × ℕ → Bool
leads facet value other = is_lt (by_facet facet value other)

pub values_rank : (facet : Facet) → IsStrictWeakOrder (leads facet)
values_rank facet = ranks_by (by_facet_total facet) (λ (value : ℤ × ℕ). value)
