use Rattle.std.proofs.Common.{◌≡◌, ◌++◌, All, drop, take}
use Rattle.image_write.specs.Heads.{IsRead}
use Rattle.image_write.specs.steps.Places.{doc_places}
use Rattle.image_write.proofs.gathering.add_doc.Given as goal

abbrev pub invariant-loop-field : goal.invariant-loop-field
invariant-loop-field l = record { places : l.places.items ++ doc_places l.row l.field (drop l.field l.tokens-items) ≡ l.fn.places.items ++ doc_places l.row 0 l.tokens-items; bytes : All (λ tokens. All (λ token. IsRead token.word) tokens.words) (take l.field l.tokens-items) }
