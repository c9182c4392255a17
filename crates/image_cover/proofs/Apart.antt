-- Counters of different positions differ.
use Rattle.std.proofs.Common.{◌≡◌, ℕ, ◌+◌, ◌-◌, ◌*◌, ◌<◌, ◌≤◌, true, false, cond, ltb, leb, List, length, get_or, drop, refl, sym, ap, subst, ◌∙◌, arith, inl, inr, ◌⊎◌}
use Rattle.std.proofs.lemmas.Bool.{cases_lt, lt-ltb, le-leb, le-ltb, lt-leb}
use Rattle.std.proofs.lemmas.List.Elements.{All-from_get_or}
use Rattle.std.proofs.lemmas.List.{get_or-take, get_or-drop, length-take, length-drop}
use Rattle.std.proofs.lemmas.Nat.{same_from_place, row_fits}
use Rattle.image_cover.specs.Places.{AreStarts, place_at, own_at}
use Rattle.image_cover.specs.Layouts.{AreLaid, IsPosition, position_place}

-- the place of a row's numbers is within all
row_within : (width rows row : ℕ) → row < rows → row * width + width ≤ rows * width
row_within width rows row low = row_fits row width rows width low (omega arith)

own_index : (starts : List ℕ) (width row j : ℕ) → j ≤ width → get_or (own_at starts width row) j 0 ≡ get_or starts (row * width + j) 0
own_index starts width row j low = get_or-take (width + 1) (drop (row * width) starts) j 0 (omega (arith, low)) ∙ get_or-drop (row * width) starts j 0

own_length : (starts : List ℕ) (width rows row places : ℕ) → AreLaid starts width rows places → row < rows → length (own_at starts width row) ≡ width + 1
own_length starts width rows row places laid low = omega (arith, length-take (width + 1) (drop (row * width) starts), length-drop (row * width) starts, laid.long, row_within width rows row low)

zero_more : (n : ℕ) → n + 0 ≡ n
zero_more n = omega arith

two_more : (n : ℕ) → n + 2 ≡ n + 1 + 1
two_more n = omega arith

-- what the places asked for
pub laid_starts : (starts : List ℕ) (width rows places : ℕ) → AreLaid starts width rows places → AreStarts starts width rows places
laid_starts starts width rows places laid = record {
  long = omega (arith, laid.long);
  each = λ row low. record {
    some = omega (arith, own_length starts width rows row places laid low);
    within = All-from_get_or (λ start. start ≤ places) (own_at starts width row) 0 (λ i h.
        let long = own_length starts width rows row places laid low in
        let j : i ≤ width = omega (arith, long, h) in
        omega (arith, own_index starts width row i j, laid.within (row * width + i) (omega (arith, laid.long, row_within width rows row low, j))));
    outer = omega (arith, own_index starts width row 0 (omega arith), laid.outer row low, ap (λ j. get_or starts j 0) (zero_more (row * width)), laid.within (row * width + 1) (omega (arith, laid.long, laid.wide, row_within width rows row low)));
  };
}

-- in which piece of the places a hit's place lies
pub record LiesWithin (starts : List ℕ) (piece place : ℕ) : Type 0 where
  pub from : get_or starts piece 0 ≤ place
  pub to : place < get_or starts (piece + 1) 0

one_piece : (starts : List ℕ) (width rows places i j k : ℕ) → AreLaid starts width rows places → i < rows * width → j < rows * width → LiesWithin starts i k → LiesWithin starts j k → i ≡ j
one_piece starts width rows places i j k laid low_i low_j in_i in_j =
    elim (cases_lt i j) [
      | inl low ↦ absurd (omega (arith, laid.rise (i + 1) j (omega (arith, low)) (omega (arith, laid.long, low_j)), in_i.to, in_j.from))
      | inr high ↦ elim (cases_lt j i) [
        | inl low ↦ absurd (omega (arith, laid.rise (j + 1) i (omega (arith, low)) (omega (arith, laid.long, low_i)), in_j.to, in_i.from))
        | inr same ↦ omega (arith, high, same)
      ]
    ]

-- the place of a hit: that of its position, or the row's outer one
abbrev pub PlaceIs : List ℕ → ℕ → ℕ → ℕ × ℕ → ℕ → Type 0
PlaceIs starts width row hit place =
    (IsPosition starts width row hit × (place ≡ position_place starts width row hit)) ⊎ ((IsPosition starts width row hit → ⊥) × (place ≡ get_or starts (row * width) 0))

-- what it is
pub place_is : (starts : List ℕ) (width rows row places : ℕ) (hit : ℕ × ℕ) → AreLaid starts width rows places → row < rows → 1 ≤ hit.1 → PlaceIs starts width row hit (place_at (own_at starts width row) hit)
place_is starts width rows row places hit laid low one =
    elim (cases_lt (hit.0 + 1) width) [
      | inl inside ↦
          let first : get_or (own_at starts width row) 0 0 ≡ get_or starts (row * width) 0 = own_index starts width row 0 (omega arith) ∙ ap (λ j. get_or starts j 0) (omega arith) in
          let begin : get_or (own_at starts width row) (hit.0 + 1) 0 ≡ get_or starts (row * width + hit.0 + 1) 0 = own_index starts width row (hit.0 + 1) (omega (arith, inside)) ∙ ap (λ j. get_or starts j 0) (omega arith) in
          let end : get_or (own_at starts width row) (hit.0 + 2) 0 ≡ get_or starts (row * width + hit.0 + 2) 0 = own_index starts width row (hit.0 + 2) (omega (arith, inside)) ∙ ap (λ j. get_or starts j 0) (omega arith) in
          let long = own_length starts width rows row places laid low in
          let test : ltb (hit.0 + 2) (length (own_at starts width row)) ≡ true = lt-ltb (hit.0 + 2) (length (own_at starts width row)) (omega (arith, long, inside)) in
          rw (test, first, begin, end) (within_test starts width row hit inside one)
      | inr outside ↦
          let first : get_or (own_at starts width row) 0 0 ≡ get_or starts (row * width) 0 = own_index starts width row 0 (omega arith) ∙ ap (λ j. get_or starts j 0) (omega arith) in
          let long = own_length starts width rows row places laid low in
          let test : ltb (hit.0 + 2) (length (own_at starts width row)) ≡ false = le-ltb (hit.0 + 2) (length (own_at starts width row)) (omega (arith, long, outside)) in
          rw (test, first) (inr (λ is. absurd (omega (arith, outside, is.field)), refl))
    ] where
      within_test : (starts : List ℕ) (width row : ℕ) (hit : ℕ × ℕ) → hit.0 + 1 < width → 1 ≤ hit.1
          → PlaceIs starts width row hit (cond (leb (get_or starts (row * width + hit.0 + 1) 0 + hit.1) (get_or starts (row * width + hit.0 + 2) 0)) (get_or starts (row * width + hit.0 + 1) 0 + hit.1 - 1) (get_or starts (row * width) 0))
      within_test starts width row hit inside one = elim (cases_lt (get_or starts (row * width + hit.0 + 2) 0) (get_or starts (row * width + hit.0 + 1) 0 + hit.1)) [
        | inl low ↦ rw (lt-leb (get_or starts (row * width + hit.0 + 1) 0 + hit.1) (get_or starts (row * width + hit.0 + 2) 0) low) (inr (λ is. absurd (omega (arith, low, is.within)), refl))
        | inr high ↦ rw (le-leb (get_or starts (row * width + hit.0 + 1) 0 + hit.1) (get_or starts (row * width + hit.0 + 2) 0) high) (inl (record { field = inside; from_one = one; within = high }, refl))
      ]

-- the place of a position is that of no other hit
pub one_place : (starts : List ℕ) (width rows places row its : ℕ) (at hit : ℕ × ℕ) → AreLaid starts width rows places → row < rows → its < rows → 1 ≤ hit.1 → IsPosition starts width row at
    → place_at (own_at starts width its) hit ≡ position_place starts width row at → (its ≡ row) × (hit.0 ≡ at.0) × (hit.1 ≡ at.1)
one_place starts width rows places row its at hit laid low its_low one is e =
    let here : LiesWithin starts (row * width + at.0 + 1) (position_place starts width row at) = record { from = omega (arith, is.from_one); to = omega (arith, is.within, is.from_one, ap (λ j. get_or starts j 0) (two_more (row * width + at.0))) } in
    let bound : row * width + at.0 + 1 < rows * width = omega (arith, row_within width rows row low, is.field) in
    let its_bound = row_within width rows its its_low in
    elim (place_is starts width rows its places hit laid its_low one) [
      | inl inside ↦
          let there : LiesWithin starts (its * width + hit.0 + 1) (position_place starts width its hit) = record { from = omega (arith, one); to = omega (arith, inside.0.within, one, ap (λ j. get_or starts j 0) (two_more (its * width + hit.0))) } in
          let same : its * width + hit.0 + 1 ≡ row * width + at.0 + 1 = one_piece starts width rows places (its * width + hit.0 + 1) (row * width + at.0 + 1) (position_place starts width row at) laid (omega (arith, its_bound, inside.0.field)) bound (subst (LiesWithin starts (its * width + hit.0 + 1)) (sym inside.1 ∙ e) there) here in
          let both = same_from_place its (hit.0 + 1) row (at.0 + 1) width (omega (arith, inside.0.field)) (omega (arith, is.field)) (omega (arith, same)) in
          let begin : get_or starts (its * width + hit.0 + 1) 0 ≡ get_or starts (row * width + at.0 + 1) 0 = ap (λ j. get_or starts j 0) same in
          (both.0, omega (arith, both.1), omega (arith, begin, inside.1, e, one, is.from_one))
      | inr outside ↦
          let there : LiesWithin starts (its * width) (position_place starts width row at) = record { from = omega (arith, outside.1, e); to = omega (arith, outside.1, e, laid.outer its its_low) } in
          let same : its * width ≡ row * width + at.0 + 1 = one_piece starts width rows places (its * width) (row * width + at.0 + 1) (position_place starts width row at) laid (omega (arith, its_bound, laid.wide)) bound there here in
          let both = same_from_place its 0 row (at.0 + 1) width (omega (arith, laid.wide)) (omega (arith, is.field)) (omega (arith, same)) in
          absurd (omega (arith, both.1))
    ]
