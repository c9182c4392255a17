-- Keywords as listed ones, one after the other.
use Rattle.std.proofs.Common.{◌≡◌, ℕ, ◌+◌, ◌<◌, List, [], ◌∷◌, ◌++◌, length, take, get_or, sym, ap, subst, ◌∙◌, All}
use Rattle.std.specs.List.{filter}
use Rattle.std.proofs.lemmas.List.{map_more}
use Rattle.doc_types.specs.declared.tokens.ZoneSpan.{ZoneSpan}
use Rattle.occ_lists.specs.declared.term.Term.{Term}
use Rattle.occ_lists.specs.Places.{ArePlaces, has_place, within_all}
use Rattle.occ_lists.specs.Windows.{Listed, stands, times}
use Rattle.occ_lists.specs.Terms.{IsPlaced, listed_in}

-- a keyword as a listed one
abbrev pub listing : List (ℕ × ZoneSpan) → Term → Listed
listing spans term = record { word = term.word; places = filter (within_all spans) term.places.items }

pub placed_there : (terms : List Term) (i : ℕ) (term : Term) → All IsPlaced terms → i < length terms → term ≡ get_or terms i term → IsPlaced term
placed_there terms i term placed within is = subst (λ (t : Term). IsPlaced t) (sym is) (placed i term within)

-- the places that a call takes
pub ascend_there : (terms : List Term) (i : ℕ) (term : Term) (places : List (ℕ × ℕ)) → All IsPlaced terms → i < length terms → term ≡ get_or terms i term → places ≡ term.places.items → ArePlaces places
ascend_there terms i term places placed within is same = subst (λ (ps : List (ℕ × ℕ)). ArePlaces ps) (sym same) (placed_there terms i term placed within is).ascend

-- one keyword more
pub listed_more : (spans : List (ℕ × ZoneSpan)) (terms : List Term) (i : ℕ) (term : Term) → i < length terms → term ≡ get_or terms i term → listed_in spans (take (i + 1) terms) ≡ listed_in spans (take i terms) ++ listing spans term ∷ []
listed_more spans terms i term within is = map_more (listing spans) terms i term within ∙ ap (λ t. listed_in spans (take i terms) ++ listing spans t ∷ []) (sym is)

-- What was gathered of a word from these keywords: how often it is listed, and where it stands.
pub record IsGathered (listed : List Listed) (word count : ℕ) (places : List (ℕ × ℕ)) : Type 0 where
  pub often : count ≡ times word listed
  pub stand : (place : ℕ × ℕ) → has_place places place ≡ stands listed word place
