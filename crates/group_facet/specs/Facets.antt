-- Facets (the manual of Sphinx, "SELECT syntax": FACET).
use Rattle.std.specs.Prelude.{◌≡◌, ℕ, ℤ, Some, List, length, map, take, drop, if◌then◌else◌, IsPermutation}
use Rattle.std.specs.List.Sorted.{IsSorted}
use Rattle.std.specs.Ordering.{int_cmp, nat_cmp, ordering_then}
use Rattle.std.specs.declared.cmp.Ordering.{Ordering}
use Rattle.row_select.specs.declared.row.ColumnRef.{ColumnRef}
use Rattle.row_select.specs.declared.row.Row.{Row}
use Rattle.group_facet.specs.Distinct.{first_seen}
use Rattle.group_facet.specs.Groups.{part}
use Rattle.group_facet.specs.Folds.{column_values}
use Rattle.group_facet.specs.declared.facets.Facet.{Facet}

-- the values of a column, each with the number of rows that have it
abbrev pub value_counts : ColumnRef → List Row → List (ℤ × ℕ)
value_counts column rows = map (λ value. (value, length (part (Some column) value rows))) (first_seen (column_values column rows))

-- how two values stand by their counts, or by themselves, ascending
abbrev pub by_chosen : Facet → ℤ × ℕ → ℤ × ℕ → Ordering
by_chosen facet value other = if facet.by_count then nat_cmp value.1 other.1 else int_cmp value.0 other.0

-- how two values with their counts stand: the other way round where the facet descends, and by the value, ascending, where they tie
abbrev pub by_facet : Facet → ℤ × ℕ → ℤ × ℕ → Ordering
by_facet facet value other =
    ordering_then (if facet.descending then by_chosen facet other value else by_chosen facet value other) (int_cmp value.0 other.0)

-- what a facet shows of rows: all values with their counts, in order, without those that are passed over, and at most so many
abbrev pub IsFacet : List Row → Facet → List (ℤ × ℕ) → Type 0
IsFacet rows facet shown =
    (sorted : List (ℤ × ℕ)) × IsPermutation (value_counts facet.column rows) sorted × IsSorted (by_facet facet) sorted × (shown ≡ take facet.count (drop facet.offset sorted))
