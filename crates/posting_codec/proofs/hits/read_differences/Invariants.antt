use Rattle.posting_codec.proofs.Reading.{Gone}
use Rattle.posting_codec.proofs.hits.read_differences.Given as goal

abbrev pub invariant-hits : goal.invariant-hits
invariant-hits l = Gone l.bytes l.start l.at l.last l.into.items l.counter
