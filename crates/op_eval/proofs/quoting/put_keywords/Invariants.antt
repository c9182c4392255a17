use Rattle.std.proofs.Common.{◌≡◌, ◌++◌, map, take}
use Rattle.std.specs.List.{flat_map}
use Rattle.occ_lists.specs.Places.{at_place}
use Rattle.word_rows.specs.Terms.{AreShort}
use Rattle.op_eval.specs.steps.Worded.{term_hits, term_places}
use Rattle.op_eval.proofs.quoting.put_keywords.Given as goal

abbrev pub invariant-loop-term : goal.invariant-loop-term
invariant-loop-term l = record {
  occs : l.out.occs.items ≡ l.initial.out.occs.items ++ map at_place (flat_map (term_places l.spans) (take l.term-index l.terms));
  hits : AreShort l.terms → l.out.hits.items ≡ l.initial.out.hits.items ++ flat_map (term_hits l.spans) (take l.term-index l.terms);
}
