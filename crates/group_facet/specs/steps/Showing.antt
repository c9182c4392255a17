-- What is kept of a group, and the group as it is shown.
use Rattle.std.specs.Prelude.{ℤ, List}
use Rattle.row_select.specs.declared.row.Row.{Row}
use Rattle.group_facet.specs.Gathering.{IsPart}
use Rattle.group_facet.specs.Groups.{IsGroup}
use Rattle.group_facet.specs.declared.grouping.Group.{Group}
use Rattle.group_facet.specs.declared.grouping.GroupRow.{GroupRow}
use Rattle.group_facet.specs.declared.part.Part.{Part}

-- the group shows what is kept of it, whichever rows that is of
abbrev pub Shows : ℤ × Part → GroupRow → Type 0
Shows entry shown = (group : Group) (rows : List Row) → IsPart group rows entry.1 → IsGroup group entry.0 rows shown
