use Rattle.std.proofs.Common.{◌≡◌, ◌++◌, All, drop, map, take}
use Rattle.image_write.specs.Heads.{IsRead}
use Rattle.image_write.specs.steps.Places.{docs_places}
use Rattle.image_write.proofs.gathering.add_rows.Given as goal

abbrev pub invariant-loop-number : goal.invariant-loop-number
invariant-loop-number g l = record { places : l.places.items ++ docs_places l.number (map g.R.LendsDoc.lent (drop l.number l.rows)) ≡ l.fn.places.items ++ docs_places 0 (map g.R.LendsDoc.lent l.rows); bytes : All (λ row. All (λ tokens. All (λ token. IsRead token.word) tokens.words) (g.R.LendsDoc.lent row).fields) (take l.number l.rows) }
