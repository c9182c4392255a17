use Rattle.posting_codec.proofs.Writing.{Written}
use Rattle.posting_codec.proofs.hits.put_counted.Given as goal

abbrev pub invariant-loop-hit : goal.invariant-loop-hit
invariant-loop-hit l = Written l.hits l.fn.out.items l.out.items l.hit-index l.last
