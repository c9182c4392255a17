use Rattle.std.proofs.Common.{◌≡◌, ◌++◌, All, drop, take}
use Rattle.image_write.specs.Heads.{IsRead}
use Rattle.image_write.specs.steps.Places.{field_places}
use Rattle.image_write.proofs.gathering.add_field.Given as goal

abbrev pub invariant-loop-number : goal.invariant-loop-number
invariant-loop-number l = record { places : l.places.items ++ field_places l.row l.field l.number (drop l.number l.token-items) ≡ l.fn.places.items ++ field_places l.row l.field 0 l.token-items; bytes : All (λ token. IsRead token.word) (take l.number l.token-items) }
