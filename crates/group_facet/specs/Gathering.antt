-- Groups while their rows come one after the other.
use Rattle.std.specs.Prelude.{◌≡◌, List, All, map}
use Rattle.std.specs.Map.{keys_of}
use Rattle.row_select.specs.declared.row.Row.{Row}
use Rattle.group_facet.specs.Distinct.{first_seen}
use Rattle.group_facet.specs.Groups.{IsFirst, group_key, part}
use Rattle.group_facet.specs.declared.grouping.Group.{Group}
use Rattle.group_facet.specs.declared.groups.Groups.{Groups}
use Rattle.group_facet.specs.declared.part.Part.{Part}
use Rattle.group_facet.specs.RunningFolds.{AreRunning}

-- what is kept of one group is that of its rows
pub record IsPart (group : Group) (rows : List Row) (here : Part) : Type 0 where
  pub best : IsFirst group.within.keys rows here.best
  pub folds : AreRunning group.folds rows here.folds.items

-- these rows were offered
pub record GathersGroups (group : Group) (offered : List Row) (here : Groups) : Type 0 where
  pub asked : here.group.now ≡ group
  pub keys : keys_of here.parts.entries ≡ first_seen (map (group_key group.by) offered)
  pub parts : All (λ entry. IsPart group (part group.by entry.0 offered) entry.1) here.parts.entries
