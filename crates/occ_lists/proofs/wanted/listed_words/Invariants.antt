use Rattle.std.proofs.Common.{take}
use Rattle.occ_lists.specs.Terms.{listed_in}
use Rattle.occ_lists.proofs.WordLists.{HasWords}
use Rattle.occ_lists.proofs.wanted.listed_words.Given as goal

abbrev pub invariant-loop-term : goal.invariant-loop-term
invariant-loop-term l = HasWords (listed_in l.spans l.terms) (listed_in l.spans (take l.term-index l.terms)) l.words.items
