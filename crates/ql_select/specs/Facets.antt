-- The facets of a SELECT. "SELECT syntax" of the manual: FACET.
use Rattle.std.specs.Prelude.{ℕ, ◌-◌, ◌^◌, Bool, true, false, min, Option, Some, None, unwrap_or}
use Rattle.doc_types.specs.declared.schema.Schema.{Schema}
use Rattle.group_facet.specs.declared.facets.Facet.{Facet}
use Rattle.mysql_wire.specs.declared.rows.Column.{Column}
use Rattle.ql_tree.specs.declared.select.FacetPart.{FacetPart}
use Rattle.ql_tree.specs.declared.select.SortKey.{SortKey}
use Rattle.ql_tree.specs.declared.select.SortName.{SortName}
use Rattle.ql_tree.specs.declared.select.SortName.TheVariants as sorts
use Rattle.ql_select.specs.Parts.{limits}
use Rattle.ql_select.specs.Targets.{column_kind, column_of}

-- the key is a count
abbrev pub is_count : SortName → Bool
is_count sorts.CountAll = true
is_count key = false

-- a facet is ordered by its counts, if nothing is said
abbrev pub by_count : Option SortKey → Bool
by_count None = true
by_count (Some key) = is_count key.by

-- the greatest counts come first, if nothing is said; a stated order ascends, if it doesn't say otherwise
abbrev pub facet_descends : Option SortKey → Bool
facet_descends None = true
facet_descends (Some key) = unwrap_or key.descending false

-- a number of values: no index has as many as this cuts off
abbrev pub counted : ℕ → ℕ
counted number = min number (2 ^ 32 - 1)

-- the facet that a part asks for
abbrev pub facet_of : Schema → FacetPart → Facet
facet_of schema part = record {
  column = column_of schema part.column;
  by_count = by_count part.order;
  descending = facet_descends part.order;
  offset = counted (limits part.limit).0;
  count = counted (limits part.limit).1;
}

-- the column of its values
abbrev pub facet_column : Schema → FacetPart → Column
facet_column schema part = record { name = part.column; kind = column_kind schema (column_of schema part.column) }
