use Rattle.std.proofs.Common.{refl, ◌≡◌, Bool, true, List, [], ◌∷◌, not, ap}
use Rattle.std.specs.Prelude.{◌↔◌, IsTrue}
use Rattle.std.specs.List.{list_any}
use Rattle.std.proofs.lemmas.Bool.{false_from_ne_true}
use Rattle.word_rows.proofs.asking.of_key.Goals as goal

-- a list that isn't empty has an element
some_there : {X : Type 0} (empty : Bool) (xs : List X) → IsTrue empty ↔ (xs ≡ []) → not empty ≡ list_any (λ (x : X). true) xs
some_there empty [] told = ap not (told.1 refl)
some_there empty (x ∷ xs) told = ap not (false_from_ne_true empty (λ e. let none = told.0 e in cc))

pub returns-clause-spans : goal.returns-clause-spans
returns-clause-spans c = some_there c.is_empty.result c.args.key.now.limit.zones c.is_empty.ensures
