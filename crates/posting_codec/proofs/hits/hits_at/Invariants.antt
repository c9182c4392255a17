use Rattle.std.proofs.Common.{ℕ, List}
use Rattle.posting_codec.specs.HitLists.{AreHitsAt}
use Rattle.posting_codec.proofs.Reading.{Left}
use Rattle.posting_codec.proofs.hits.hits_at.Given as goal

abbrev pub invariant-hits : goal.invariant-hits
invariant-hits l = (hits : List (ℕ × ℕ)) (rest : List ℕ) → AreHitsAt l.bytes l.at hits rest → Left l.bytes hits rest l.fn.into.items l.into.items l.place l.key l.count l.counter
