-- No fault of several.
use Rattle.std.proofs.Common.{◌≡◌, Bool, true, false, List, [], ◌∷◌, Option, Some, None, sym, refl}
use Rattle.std.specs.Prelude.{All}
use Rattle.std.proofs.lemmas.List.Elements.{All-nil, All-cons}
use Rattle.std.proofs.lemmas.Option.{none-some}
use Rattle.ql_refusals.specs.Refusals.{Refused, first, first_of, unless}

-- where the first of two faults is none, neither is there
pub first_none : (a b : Option Refused) → first a b ≡ None → (a ≡ None) × (b ≡ None)
first_none None b e = (refl, e)
first_none (Some fault) b e = absurd (none-some fault (sym e))

pub first_of_none : {X : Type 0} (fault : X → Option Refused) (xs : List X) → first_of fault xs ≡ None → All (λ x. fault x ≡ None) xs
first_of_none fault [] e = All-nil (λ x. fault x ≡ None)
first_of_none fault (x ∷ xs) e =
    let both = first_none (fault x) (first_of fault xs) e in
    All-cons (λ x. fault x ≡ None) x xs both.0 (first_of_none fault xs both.1)

-- a test whose fault isn't there holds
pub unless_none : (holds : Bool) (refusal : Refused) → unless holds refusal ≡ None → holds ≡ true
unless_none true refusal e = refl
unless_none false refusal e = absurd (none-some refusal (sym e))
