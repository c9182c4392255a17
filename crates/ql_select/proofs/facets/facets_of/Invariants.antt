use Rattle.std.proofs.Common.{◌≡◌, take, map}
use Rattle.std.specs.Prelude.{fold}
use Rattle.std.specs.List.{flat_map}
use Rattle.ql_select.specs.Facets.{facet_column, facet_of}
use Rattle.ql_select.specs.Faults.{facet_faults}
use Rattle.ql_select.specs.FirstFaults.{sooner}
use Rattle.ql_select.proofs.facets.facets_of.Given as goal

abbrev pub invariant-parts : goal.invariant-parts
invariant-parts l =
    (l.facets.items ≡ map (facet_of l.schema) (take l.part-index l.parts))
    × (l.columns.items ≡ map (facet_column l.schema) (take l.part-index l.parts))
    × (l.faults.fault ≡ fold sooner l.fn.faults.fault (flat_map (facet_faults l.schema) (take l.part-index l.parts)))
