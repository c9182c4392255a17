use Rattle.std.proofs.Common.{◌≡◌, take}
use Rattle.std.specs.List.{filter_map}
use Rattle.layer_commit.specs.steps.Finding.{living_row}
use Rattle.layer_commit.proofs.dead_rows.rows_of.Given as goal

abbrev pub invariant-loop-id : goal.invariant-loop-id
invariant-loop-id g l = l.rows.items ≡ filter_map (living_row l.layer) (take l.id-index l.ids)
