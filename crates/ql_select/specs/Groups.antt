-- What a SELECT means whose names are known: what it shows of rows or of groups, and in which order. "SELECT syntax" of the
-- manual: GROUP BY, WITHIN GROUP ORDER BY, HAVING, ORDER BY.
use Rattle.std.specs.Prelude.{ℕ, List, [], ◌∷◌, ◌++◌, Bool, true, false, ◌||◌, is_some, map, take, Option, Some, None, slice_get, if◌then◌else◌}
use Rattle.std.specs.List.{count_by, filter_map, list_any}
use Rattle.std.specs.Option.{option_map}
use Rattle.group_facet.specs.declared.fold.Fold.{Fold}
use Rattle.group_facet.specs.declared.fold.Fold.TheVariants as folds
use Rattle.group_facet.specs.declared.grouping.Group.{Group}
use Rattle.group_facet.specs.declared.shown.GroupColumn.{GroupColumn}
use Rattle.group_facet.specs.declared.shown.GroupColumn.TheVariants.{Key, Best, Folded}
use Rattle.group_facet.specs.declared.shown.GroupPage.{GroupPage}
use Rattle.group_facet.specs.declared.shown.Having.{Having}
use Rattle.row_select.specs.declared.order.Order.{Order}
use Rattle.row_select.specs.declared.page.Page.{Page}
use Rattle.row_select.specs.declared.row.ColumnRef.{ColumnRef}
use Rattle.row_select.specs.declared.row.ColumnRef.TheVariants as columns
use Rattle.table_search.specs.declared.asked.Table.{Table}
use Rattle.table_search.specs.declared.asked.Table.TheVariants.{Rows, Groups}
use Rattle.ql_select.specs.declared.names.HavingSource.{HavingSource}
use Rattle.ql_select.specs.declared.names.KeySource.{KeySource}
use Rattle.ql_select.specs.declared.names.KeySource.TheVariants as keys
use Rattle.ql_select.specs.declared.names.Names.{Names}
use Rattle.ql_select.specs.declared.names.Source.{Source}
use Rattle.ql_select.specs.declared.names.Source.TheVariants as sources

-- ---- aggregates

-- the aggregate that an item is
abbrev pub fold_of : Source → Option Fold
fold_of (sources.Folded fold) = Some fold
fold_of source = None

-- the item is an aggregate
abbrev pub is_fold : Source → Bool
is_fold source = is_some (fold_of source)

-- the aggregates of a list, in its order, and how many there are
abbrev pub folds_of : List Source → List Fold
folds_of list = filter_map fold_of list

abbrev pub folds_in : List Source → ℕ
folds_in list = count_by is_fold list

-- The SELECT shows groups: it groups by a column, or its list has an aggregate, which makes one group of all rows.
abbrev pub is_grouped : Names → Bool
is_grouped names = is_some names.group || list_any is_fold names.sources

-- ---- what is shown

-- What an item is of a group, after so many aggregates. Without groups each row is one by itself, and no item is of groups.
abbrev pub source_column : ℕ → Source → GroupColumn
source_column before sources.All = Best columns.Id
source_column before (sources.Row column) = Best column
source_column before sources.Key = Key
source_column before (sources.Folded fold) = Folded before

abbrev pub column_or_id : ℕ → Option Source → GroupColumn
column_or_id before None = Best columns.Id
column_or_id before (Some source) = source_column before source

-- what the item at a place of the list is
abbrev pub item_column : List Source → ℕ → GroupColumn
item_column list place = column_or_id (folds_in (take place list)) (slice_get list place)

-- what a key of ORDER BY, or HAVING, looks at; a count that isn't shown comes after all other aggregates
abbrev pub key_column : List Source → KeySource → GroupColumn
key_column list (keys.Item place) = item_column list place
key_column list (keys.Column column) = Best column
key_column list keys.Count = Folded (folds_in list)

-- ---- orders

-- the keys of the order, of rows or of groups: the weight, descending, if nothing is said
abbrev pub keys_of : List Source → List (KeySource × Bool) → List (GroupColumn × Bool)
keys_of list [] = (Best columns.Weight, true) ∷ []
keys_of list (key ∷ rest) = map (λ one. (key_column list one.0, one.1)) (key ∷ rest)

abbrev pub shown_keys : Names → List (GroupColumn × Bool)
shown_keys names = keys_of names.sources names.order

-- the column of rows that is shown
abbrev pub best_column : GroupColumn → ColumnRef
best_column (Best column) = column
best_column column = columns.Id

-- the order of rows; groups have one of their own
abbrev pub row_order : Names → Order
row_order names = record { keys = map (λ key. (best_column key.0, key.1)) (shown_keys names) }

-- ---- groups

-- the order of a group's rows: the weight, descending, if nothing is said
abbrev pub within_keys : List (ColumnRef × Bool) → List (ColumnRef × Bool)
within_keys [] = (columns.Weight, true) ∷ []
within_keys (key ∷ rest) = key ∷ rest

-- the key, or HAVING, counts the rows of groups
abbrev pub is_count : KeySource → Bool
is_count keys.Count = true
is_count key = false

abbrev pub having_counts : Option HavingSource → Bool
having_counts None = false
having_counts (Some having) = is_count having.left

-- ORDER BY or HAVING counts the rows of groups
abbrev pub counts_hidden : Names → Bool
counts_hidden names = list_any (λ key. is_count key.0) names.order || having_counts names.having

-- the count that isn't shown, where it is asked for
abbrev pub hidden_count : Names → List Fold
hidden_count names = if counts_hidden names then folds.Count ∷ [] else []

-- how rows are grouped
abbrev pub group_of : Names → Group
group_of names = record {
  by = names.group;
  within = record { keys = within_keys names.within };
  folds = folds_of names.sources ++ hidden_count names;
}

-- HAVING
abbrev pub having_of : List Source → HavingSource → Having
having_of list having = record { column = key_column list having.left; op = having.op; value = having.value }

-- which groups are shown
abbrev pub group_page : Names → Page → GroupPage
group_page names page = record { having = option_map (having_of names.sources) names.having; keys = shown_keys names; page = page }

-- what is shown: rows, or groups
abbrev pub table_of : Names → Page → Table
table_of names page = if is_grouped names then Groups (record { group = group_of names; page = group_page names page }) else Rows
