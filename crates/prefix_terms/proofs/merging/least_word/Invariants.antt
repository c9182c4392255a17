use Rattle.std.proofs.Common.{ℕ, List}
use Rattle.std.specs.Borrow.{Bor}
use Rattle.std.specs.Option.{option_map}
use Rattle.prefix_terms.specs.steps.Merging.{IsLeastWord}
use Rattle.prefix_terms.proofs.merging.least_word.Given as goal

abbrev pub invariant-loop-at : goal.invariant-loop-at
invariant-loop-at g l = IsLeastWord l.parts l.numbers l.at (option_map (λ (word : Bor (List ℕ)). word.now) l.least)
