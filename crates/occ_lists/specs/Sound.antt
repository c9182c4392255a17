-- occurrences that don't end before they begin
use Rattle.std.specs.Prelude.{◌≤◌}
use Rattle.occ_lists.specs.declared.occ.Occ.{Occ}

abbrev pub IsForward : Occ → Type 0
IsForward o = o.first ≤ o.last
