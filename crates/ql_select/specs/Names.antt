-- What the names of a SELECT mean: columns of numbers, which are the id and the attributes, or items of its own list. "SELECT
-- syntax" of the manual.
use Rattle.std.specs.Prelude.{ℕ, List, Bool, true, false, ◌||◌, not, map, Option, Some, None, unwrap_or, slice_get, if◌then◌else◌}
use Rattle.std.specs.List.{position_from}
use Rattle.std.specs.Option.{option_map}
use Rattle.std.specs.Str.{bytes_eq}
use Rattle.doc_types.specs.declared.schema.Schema.{Schema}
use Rattle.group_facet.specs.declared.fold.Fold.TheVariants as folds
use Rattle.ql_tree.specs.declared.select.Having.{Having}
use Rattle.ql_tree.specs.declared.select.Select.{Select}
use Rattle.ql_tree.specs.declared.select.SelectItem.{SelectItem}
use Rattle.ql_tree.specs.declared.select.SelectItem.TheVariants as items
use Rattle.ql_tree.specs.declared.select.SelectExpr.{SelectExpr}
use Rattle.ql_tree.specs.declared.select.SelectExpr.TheVariants as exprs
use Rattle.ql_tree.specs.declared.select.SortKey.{SortKey}
use Rattle.ql_tree.specs.declared.select.SortName.{SortName}
use Rattle.ql_tree.specs.declared.select.SortName.TheVariants as sorts
use Rattle.row_select.specs.declared.row.ColumnRef.{ColumnRef}
use Rattle.row_select.specs.declared.row.ColumnRef.TheVariants as columns
use Rattle.ql_select.specs.declared.names.HavingSource.{HavingSource}
use Rattle.ql_select.specs.declared.names.KeySource.{KeySource}
use Rattle.ql_select.specs.declared.names.KeySource.TheVariants as keys
use Rattle.ql_select.specs.declared.names.Names.{Names}
use Rattle.ql_select.specs.declared.names.Source.{Source}
use Rattle.ql_select.specs.declared.names.Source.TheVariants as sources
use Rattle.ql_select.specs.Facets.{facet_column, facet_of}
use Rattle.ql_select.specs.Parts.{filters_of, operator}
use Rattle.ql_select.specs.Targets.{column_of}

-- ---- items

-- what an expression is the value of
abbrev pub expr_source : Schema → SelectExpr → Source
expr_source schema (exprs.Column name) = sources.Row (column_of schema name)
expr_source schema exprs.CountAll = sources.Folded folds.Count
expr_source schema (exprs.CountDistinct name) = sources.Folded (folds.Distinct (column_of schema name))
expr_source schema (exprs.Least name) = sources.Folded (folds.Least (column_of schema name))
expr_source schema (exprs.Greatest name) = sources.Folded (folds.Greatest (column_of schema name))
expr_source schema (exprs.Sum name) = sources.Folded (folds.Sum (column_of schema name))
expr_source schema exprs.Weight = sources.Row columns.Weight
expr_source schema exprs.GroupBy = sources.Key

-- what an item is the value of
abbrev pub item_source : Schema → SelectItem → Source
item_source schema items.All = sources.All
item_source schema (items.One expr alias) = expr_source schema expr

abbrev pub sources_of : Schema → List SelectItem → List Source
sources_of schema list = map (item_source schema) list

-- ---- aliases

-- the expression is a name or the weight: it has a value for each row
abbrev pub is_of_rows : SelectExpr → Bool
is_of_rows (exprs.Column name) = true
is_of_rows exprs.Weight = true
is_of_rows expr = false

-- the alias of an item; where rows alone count, of an item that has a value for each row
abbrev pub alias_of : Bool → SelectItem → Option (List ℕ)
alias_of rows items.All = None
alias_of rows (items.One expr alias) = if not rows || is_of_rows expr then alias else None

-- an alias is this name
abbrev pub is_name : List ℕ → Option (List ℕ) → Bool
is_name name None = false
is_name name (Some alias) = bytes_eq alias name

-- the place of the first item that has this name as its alias
abbrev pub aliased : Bool → List SelectItem → List ℕ → Option ℕ
aliased rows list name = position_from (λ item. is_name name (alias_of rows item)) 0 list

-- ---- ORDER BY and HAVING

-- what a name means by the item that has it as its alias: that item, else the id or an attribute
abbrev pub item_or : Option ℕ → ColumnRef → KeySource
item_or (Some place) column = keys.Item place
item_or None column = keys.Column column

-- what a key of ORDER BY, or HAVING, looks at
abbrev pub key_source : Schema → List SelectItem → SortName → KeySource
key_source schema list (sorts.Column name) = item_or (aliased false list name) (column_of schema name)
key_source schema list sorts.Weight = keys.Column columns.Weight
key_source schema list sorts.CountAll = keys.Count

-- a key descends only where it says so
abbrev pub descends : SortKey → Bool
descends key = unwrap_or key.descending false

-- a key of ORDER BY, and whether it descends
abbrev pub order_key : Schema → List SelectItem → SortKey → KeySource × Bool
order_key schema list key = (key_source schema list key.by, descends key)

-- what HAVING compares
abbrev pub having_source : Schema → List SelectItem → Having → HavingSource
having_source schema list having = record { left = key_source schema list having.left; op = operator having.op; value = having.value }

-- ---- WITHIN GROUP ORDER BY

-- the column of rows that an item is the value of
abbrev pub row_column : Option Source → ColumnRef
row_column (Some (sources.Row column)) = column
row_column source = columns.Id

abbrev pub row_item_or : List Source → Option ℕ → ColumnRef → ColumnRef
row_item_or list (Some place) column = row_column (slice_get list place)
row_item_or list None column = column

-- what a key looks at: an item that is a name or the weight, by its alias, else the id or an attribute
abbrev pub within_column : Schema → List SelectItem → SortName → ColumnRef
within_column schema list (sorts.Column name) = row_item_or (sources_of schema list) (aliased true list name) (column_of schema name)
within_column schema list sorts.Weight = columns.Weight
within_column schema list sorts.CountAll = columns.Id

-- a key, and whether it descends
abbrev pub within_key : Schema → List SelectItem → SortKey → ColumnRef × Bool
within_key schema list key = (within_column schema list key.by, descends key)

-- ---- the whole

-- A SELECT with its names turned into what they mean.
abbrev pub names_of : Schema → Select → Names
names_of schema select = record {
  sources = sources_of schema select.items;
  filters = filters_of schema select.conds;
  group = option_map (column_of schema) select.group;
  within = map (within_key schema select.items) select.within;
  having = option_map (having_source schema select.items) select.having;
  order = map (order_key schema select.items) select.order;
  facets = map (facet_of schema) select.facets;
  facet_columns = map (facet_column schema) select.facets;
}
