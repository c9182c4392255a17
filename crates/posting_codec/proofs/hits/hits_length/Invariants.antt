use Rattle.posting_codec.proofs.Writing.{Counted}
use Rattle.posting_codec.proofs.hits.hits_length.Given as goal

abbrev pub invariant-loop-hit : goal.invariant-loop-hit
invariant-loop-hit l = Counted l.hits l.hit-index l.last l.length
