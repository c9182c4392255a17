-- Keywords with their places.
use Rattle.std.specs.Prelude.{◌≡◌, ℕ, ◌≤◌, List, ◌++◌, map, All, true}
use Rattle.std.specs.List.{filter, list_any}
use Rattle.doc_types.specs.declared.tokens.TheConstants.{MAX_POSITION}
use Rattle.occ_lists.specs.declared.occ.Occ.{Occ}
use Rattle.doc_types.specs.declared.tokens.ZoneSpan.{ZoneSpan}
use Rattle.occ_lists.specs.declared.term.Term.{Term}
use Rattle.occ_lists.specs.Places.{ArePlaces, within_all, holds}
use Rattle.occ_lists.specs.Windows.{Listed}

-- The places ascend, and no position is above the limit.
pub record IsPlaced (term : Term) : Type 0 where
  pub ascend : ArePlaces term.places.items
  pub small : All (λ place. (1 ≤ place.1) × (place.1 ≤ MAX_POSITION)) term.places.items

-- the keywords as listed ones, with their places inside the spans
abbrev pub listed_in : List (ℕ × ZoneSpan) → List Term → List Listed
listed_in spans terms = map (λ term. record { word = term.word; places = filter (within_all spans) term.places.items }) terms

-- Appended are some occurrences that hold the places which these ones hold; and none is
-- appended exactly where there is none of these.
pub record CoverAlike (old new occs : List Occ) : Type 0 where
  pub added : List Occ
  pub is : new ≡ old ++ added
  pub holds : (place : ℕ × ℕ) → list_any (λ o. holds o place) added ≡ list_any (λ o. holds o place) occs
  pub some : list_any (λ o. true) added ≡ list_any (λ o. true) occs
