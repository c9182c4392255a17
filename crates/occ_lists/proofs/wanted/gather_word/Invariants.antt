use Rattle.std.proofs.Common.{take}
use Rattle.occ_lists.specs.Terms.{listed_in}
use Rattle.occ_lists.proofs.Gathering.{IsGathered}
use Rattle.occ_lists.proofs.wanted.gather_word.Given as goal

abbrev pub invariant-loop-term : goal.invariant-loop-term
invariant-loop-term l = IsGathered (listed_in l.spans (take l.term-index l.terms)) l.word l.times l.places.items
