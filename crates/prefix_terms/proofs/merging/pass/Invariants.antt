use Rattle.std.proofs.Common.{◌≡◌, ◌≤◌, ℕ, length}
use Rattle.prefix_terms.specs.steps.Merging.{ArePassed, number_at}
use Rattle.prefix_terms.proofs.merging.pass.Given as goal

abbrev pub invariant-loop-at : goal.invariant-loop-at
invariant-loop-at g l = record {
  long : length l.numbers ≡ length l.initial.numbers;
  later : (k : ℕ) → l.at ≤ k → number_at l.numbers k ≡ number_at l.initial.numbers k;
  passed : ArePassed l.word l.parts l.initial.numbers l.numbers l.at;
}
