-- How the place of a cursor moves over the rows below one.
use Rattle.std.proofs.Common.{◌≡◌, ℕ, ◌<◌, ◌≤◌, List, [], ◌∷◌, Some, slice_get, drop, refl, ap, arith}
use Rattle.std.proofs.lemmas.Bool.{le-ltb, lt-ltb}
use Rattle.doc_types.specs.Chunks.{CursorPlace, next_place, next_row, place_from, rows_from}

stays : (row next : ℕ) (xs : List ℕ) → slice_get xs 0 ≡ Some next → row ≤ next → rows_from row xs ≡ xs
stays row next [] at high = refl
stays row next (x ∷ xs) at high =
    let same : x ≡ next = cc in
    rw (le-ltb x row (omega (arith, same, high))) refl

goes : (row next : ℕ) (xs : List ℕ) → slice_get xs 0 ≡ Some next → next < row → rows_from row (drop 1 xs) ≡ rows_from row xs
goes row next [] at low = refl
goes row next (x ∷ xs) at low =
    let same : x ≡ next = cc in
    rw (lt-ltb x row (omega (arith, same, low))) refl

-- the next row isn't below this one
pub at_front : (row next : ℕ) (place : CursorPlace) → next_row place ≡ Some next → row ≤ next → place_from row place ≡ place
at_front row next place at high = ap (λ ahead. record { word = place.word; ahead = ahead }) (stays row next place.ahead at high)

-- it is, and the cursor goes over it
pub past_front : (row next : ℕ) (place : CursorPlace) → next_row place ≡ Some next → next < row → place_from row (next_place place) ≡ place_from row place
past_front row next place at low = ap (λ ahead. record { word = place.word; ahead = ahead }) (goes row next place.ahead at low)

-- none is left
pub at_end : (row : ℕ) (place : CursorPlace) → place.ahead ≡ [] → place_from row place ≡ place
at_end row place none = ap (λ ahead. record { word = place.word; ahead = ahead }) (rw none refl)
