use Rattle.std.proofs.Common.{ℕ, List}
use Rattle.posting_codec.specs.HitLists.{AreHitsAt}
use Rattle.image_chunk.proofs.Fields.{Seen}
use Rattle.image_chunk.proofs.steps.hit_fields.Given as goal

abbrev pub invariant-hits : goal.invariant-hits
invariant-hits l = (hits : List (ℕ × ℕ)) (rest : List ℕ) → AreHitsAt l.bytes l.at hits rest → Seen l.bytes hits rest l.place l.key l.known l.count l.counter
