-- The rows ahead of a cursor.
use Rattle.std.proofs.Common.{◌≡◌, ℕ, ◌+◌, ◌<◌, ◌≤◌, List, [], ◌∷◌, true, false, cond, Some, IsSome, slice_get, length, map, get_or, sym, ap, ◌∙◌, arith, All, length-append}
use Rattle.std.specs.List.{filter, enumerate_from}
use Rattle.std.proofs.lemmas.List.{get_or-append-add}
use Rattle.std.proofs.lemmas.List.Elements.{All-cons, All-head, All-tail}
use Rattle.std.proofs.lemmas.Option.{get_or_from_slice_get, slice_get_within}
use Rattle.doc_types.specs.declared.documents.DocRow.{DocRow}
use Rattle.doc_types.specs.Chunks.{CursorPlace, IsCursorPlace, has_word, next_row, rows_with}
use Rattle.image_join.specs.steps.Stacking.{behind}

abbrev numbers : List ℕ → ℕ → List DocRow → List ℕ
numbers word n rows = map (λ (e : ℕ × DocRow). e.0) (filter (λ e. has_word word e.1) (enumerate_from n rows))

below : (word : List ℕ) (n : ℕ) (rows : List DocRow) → All (λ row. row < n + length rows) (numbers word n rows)
below word n [] = λ k d h. absurd (omega (arith, h))
below word n (r ∷ rs) =
    let rest : All (λ row. row < n + length (r ∷ rs)) (numbers word (n + 1) rs) = λ k d h. let low = below word (n + 1) rs k d h in omega (arith, low) in
    elim (has_word word r) as (λ b. All (λ row. row < n + length (r ∷ rs)) (map (λ (e : ℕ × DocRow). e.0) (cond b ((n, r) ∷ filter (λ e. has_word word e.1) (enumerate_from (n + 1) rs)) (filter (λ e. has_word word e.1) (enumerate_from (n + 1) rs))))) [
      | true ↦ All-cons (λ row. row < n + length (r ∷ rs)) n (numbers word (n + 1) rs) (omega arith) rest
      | false ↦ rest
    ]

-- a place with a next row has rows ahead
pub next_some : (place : CursorPlace) → IsSome (next_row place) → 0 < length place.ahead
next_some place some = longer place.ahead some where
  longer : (ahead : List ℕ) → IsSome (slice_get ahead 0) → 0 < length ahead
  longer [] s = let clash : false ≡ true = s in absurd cc
  longer (row ∷ rows) s = omega arith

-- the next row is one of the rows
pub next_below : (rows : List DocRow) (place : CursorPlace) (row : ℕ) → IsCursorPlace rows place → Some row ≡ next_row place → row < length rows
next_below rows place row is next =
    let e : slice_get place.ahead 0 ≡ Some row = sym next in
    let some : 0 < length place.ahead = slice_get_within place.ahead 0 row e in
    let long : length is.behind + 0 < length (rows_with place.word rows) = omega (arith, ap length is.both, length-append is.behind place.ahead, some) in
    let here : get_or (rows_with place.word rows) (length is.behind + 0) row ≡ row =
    ap (λ (l : List ℕ). get_or l (length is.behind + 0) row) (sym is.both) ∙ get_or-append-add is.behind place.ahead 0 row ∙ get_or_from_slice_get place.ahead 0 row row e in
    let low : get_or (rows_with place.word rows) (length is.behind + 0) row < 0 + length rows = below place.word 0 rows (length is.behind + 0) row long in
    omega (arith, here, low)

behind_low : (n most : ℕ) (rows : List ℕ) → n ≤ most → All (λ row. row < most) rows → behind n rows ≤ most
behind_low n most [] low all = low
behind_low n most (r ∷ rs) low all =
    let here : r < most = All-head (λ (row : ℕ). row < most) r rs all in
    behind_low (r + 1) most rs (omega (arith, here)) (All-tail (λ (row : ℕ). row < most) r rs all)

-- none of the rows lies behind the last one
pub behind_within : (word : List ℕ) (rows : List DocRow) → behind 0 (rows_with word rows) ≤ length rows
behind_within word rows = behind_low 0 (length rows) (rows_with word rows) (omega arith) (λ k d h. let low = below word 0 rows k d h in omega (arith, low))
