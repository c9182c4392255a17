use Rattle.std.proofs.Common.{◌≡◌, ◌++◌, take}
use Rattle.std.specs.List.{flat_map}
use Rattle.word_rows.specs.Terms.{AreShort}
use Rattle.op_eval.specs.steps.Worded.{term_hits}
use Rattle.op_eval.proofs.quoting.put_hits.Given as goal

abbrev pub invariant-loop-term : goal.invariant-loop-term
invariant-loop-term l = AreShort l.terms → l.hits.items ≡ l.initial.hits.items ++ flat_map (term_hits l.spans) (take l.term-index l.terms)
