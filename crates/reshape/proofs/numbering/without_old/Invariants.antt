use Rattle.std.proofs.Common.{◌≡◌, ◌≤◌, ◌||◌, map, take}
use Rattle.std.specs.List.{filter, enumerate_from}
use Rattle.doc_types.specs.Snapshots.{is_dead}
use Rattle.reshape_laws.specs.Rebasing.{is_old}
use Rattle.reshape.proofs.numbering.without_old.Given as goal

abbrev pub invariant-loop-row : goal.invariant-loop-row
invariant-loop-row g l = record {
  within : l.row ≤ l.count;
  are : l.rows.items ≡ map (λ e. e.0) (filter (λ e. is_dead l.layer e.0 || is_old l.front e.1) (take l.row (enumerate_from 0 l.layer.rows)));
}
