use Rattle.std.proofs.Common.{◌≡◌, ℕ, take, nat_le, ◌&&◌}
use Rattle.occ_lists.specs.Places.{occ}
use Rattle.occ_lists.specs.steps.Wanted.{holds_words}
use Rattle.occ_lists.proofs.wanted.least_end.Given as goal

abbrev pub invariant-loop-wanted : goal.invariant-loop-wanted
invariant-loop-wanted l = (last : ℕ) → (nat_le l.from.1 last && holds_words (take l.wanted-index l.words) (occ l.from.0 l.from.1 last)) ≡ nat_le l.end last
