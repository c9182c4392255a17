use Rattle.std.proofs.Common.{◌≡◌, Bool, true, List, [], ◌∷◌, refl, ap}
use Rattle.std.specs.Prelude.{◌↔◌, IsTrue, not}
use Rattle.std.specs.List.{list_any}
use Rattle.std.proofs.lemmas.Bool.{false_from_ne_true}
use Rattle.word_rows.proofs.loading.has_zones.Goals as goal

not_empty : {X : Type 0} (empty : Bool) (xs : List X) → IsTrue empty ↔ (xs ≡ []) → not empty ≡ list_any (λ (x : X). true) xs
not_empty empty [] told = ap not (told.1 refl)
not_empty empty (x ∷ xs) told = ap not (false_from_ne_true empty (λ e. let none = told.0 e in cc))

pub returns : goal.returns
returns c = not_empty c.is_empty.result c.args.key.now.limit.zones c.is_empty.ensures
