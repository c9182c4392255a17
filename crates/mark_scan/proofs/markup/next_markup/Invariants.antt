use Rattle.std.proofs.Common.{ℕ, ◌<◌, drop}
use Rattle.mark_scan.specs.Markup.{BeginsMarkup}
use Rattle.mark_scan.specs.steps.Scanning.{Rules}
use Rattle.mark_scan.proofs.markup.next_markup.Given as goal

abbrev pub invariant-loop-place : goal.invariant-loop-place
invariant-loop-place l = record {
  none : (k : ℕ) → k < l.place → BeginsMarkup (drop k l.bytes) → ⊥;
  rules : Rules l.ends (drop l.place l.bytes);
}
