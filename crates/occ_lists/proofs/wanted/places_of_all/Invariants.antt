use Rattle.std.proofs.Common.{◌≡◌, take}
use Rattle.occ_lists.specs.Windows.{all_places}
use Rattle.occ_lists.specs.Terms.{listed_in}
use Rattle.occ_lists.proofs.wanted.places_of_all.Given as goal

abbrev pub invariant-loop-term : goal.invariant-loop-term
invariant-loop-term l = l.all.items ≡ all_places (listed_in l.spans (take l.term-index l.terms))
