-- Which groups are shown (the manual of Sphinx, "SELECT syntax": HAVING, ORDER BY, LIMIT and the option `max_matches`).
use Rattle.std.specs.Prelude.{◌≡◌, ℤ, pos, List, [], ◌∷◌, Bool, true, Option, None, Some, filter, slice_get, unwrap_or, if◌then◌else◌, IsPermutation}
use Rattle.std.specs.List.Sorted.{IsSorted}
use Rattle.std.specs.Ordering.{int_cmp, nat_cmp, ordering_then}
use Rattle.std.specs.declared.cmp.Ordering.{Ordering}
use Rattle.row_select.specs.Columns.{column_value}
use Rattle.row_select.specs.Filters.{compares}
use Rattle.row_select.specs.Pages.{cut}
use Rattle.group_facet.specs.declared.grouping.GroupRow.{GroupRow}
use Rattle.group_facet.specs.declared.shown.GroupColumn.{GroupColumn}
use Rattle.group_facet.specs.declared.shown.GroupColumn.TheVariants.{Key, Best, Folded}
use Rattle.group_facet.specs.declared.shown.GroupPage.{GroupPage}
use Rattle.group_facet.specs.declared.shown.Having.{Having}

-- what a group has; 0 where it has no such aggregate
abbrev pub group_value : GroupColumn → GroupRow → ℤ
group_value Key group = group.key
group_value (Best column) group = column_value column group.best
group_value (Folded place) group = unwrap_or (slice_get group.folded place) (pos 0)

-- HAVING keeps a group
abbrev pub having_holds : Option Having → GroupRow → Bool
having_holds None group = true
having_holds (Some having) group = compares having.op (group_value having.column group) having.value

-- the groups that HAVING keeps
abbrev pub kept : Option Having → List GroupRow → List GroupRow
kept having groups = filter (having_holds having) groups

-- how two groups stand by a key, the other way round where the key descends
abbrev pub by_group_key : GroupColumn × Bool → GroupRow → GroupRow → Ordering
by_group_key key group other =
    if key.1 then int_cmp (group_value key.0 other) (group_value key.0 group)
    else int_cmp (group_value key.0 group) (group_value key.0 other)

-- how two groups stand: by the first key that tells them apart, and by the id of their row, ascending, where none does
abbrev pub by_group_keys : List (GroupColumn × Bool) → GroupRow → GroupRow → Ordering
by_group_keys [] group other = nat_cmp group.best.id other.best.id
by_group_keys (key ∷ keys) group other = ordering_then (by_group_key key group other) (by_group_keys keys group other)

-- what is shown of groups: the page of those that HAVING keeps, once they are in order
abbrev pub AreTop : GroupPage → List GroupRow → List GroupRow → Type 0
AreTop asked groups shown =
    (sorted : List GroupRow) × IsPermutation (kept asked.having groups) sorted × IsSorted (by_group_keys asked.keys) sorted × (shown ≡ cut asked.page sorted)
