use Rattle.std.proofs.Common.{◌≡◌, ◌≤◌, ◌++◌}
use Rattle.reshape.specs.steps.Moving.{moves}
use Rattle.reshape.proofs.Numbers.{part}
use Rattle.reshape.proofs.moving.push_rows.Given as goal

abbrev pub invariant-loop-row : goal.invariant-loop-row
invariant-loop-row g l = record {
  within : l.row ≤ l.count;
  are : l.ids.items ≡ l.initial.ids.items ++ part (λ e. e.1.doc.id) (moves l.job l.front l.layer) l.layer.rows l.row;
}
