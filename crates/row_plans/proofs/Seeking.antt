-- What a cursor's seeking tells of the rows that have its word.
use Rattle.std.proofs.Common.{arith, ◌≡◌, ◌≤◌, ◌<◌, ◌+◌, refl, sym, ap, ◌∙◌, subst, ℕ, Bool, true, false, cond, List, [], ◌∷◌, ◌++◌, Some, slice_get}
use Rattle.std.specs.Prelude.{◌||◌, ◌==◌, nat_le, nat_lt, map, unwrap_or}
use Rattle.std.specs.List.{filter, list_any, enumerate_from}
use Rattle.std.proofs.lemmas.Bool.{lt-leb, ne_eqb, eq-eqb}
use Rattle.doc_types.specs.declared.cursor.Cursor.{Cursor}
use Rattle.doc_types.specs.declared.cursor.TheConstants.{NO_ROW}
use Rattle.doc_types.specs.declared.documents.DocRow.{DocRow}
use Rattle.doc_types.specs.Chunks.{CursorPlace, IsCursorPlace, next_row, place_from, rows_from, has_word}
use Rattle.row_plans.specs.Cursors.{KeepsRows, is_ahead}
use Rattle.row_plans.specs.Plans.{IsBound}

-- ---- numbers that ascend, from one on

abbrev pub Rises : ℕ → List ℕ → Type 0
Rises low [] = Unit {0}
Rises low (x ∷ xs) = (low ≤ x) × Rises (x + 1) xs

pub rises_from : (low lower : ℕ) (xs : List ℕ) → lower ≤ low → Rises low xs → Rises lower xs
rises_from low lower [] l r = tt
rises_from low lower (x ∷ xs) l r = (omega (arith, r.0), r.1)

-- the last ones of such numbers
pub rises_last : (low : ℕ) (behind xs : List ℕ) → Rises low (behind ++ xs) → Rises 0 xs
rises_last low [] xs r = rises_from low 0 xs (omega arith) r
rises_last low (b ∷ behind) xs r = rises_last (b + 1) behind xs r.1

-- the numbers of the elements that pass
module _ {X : Type 0} (p : X → Bool) where
  abbrev numbers : ℕ → List X → List ℕ
  numbers n xs = map (λ e. e.0) (filter (λ e. p e.1) (enumerate_from n xs))

  numbers_with : (b : Bool) (n : ℕ) (x : X) (xs : List X) → Rises (n + 1) (numbers (n + 1) xs) → Rises n (map (λ e. e.0) (cond b ((n, x) ∷ filter (λ e. p e.1) (enumerate_from (n + 1) xs)) (filter (λ e. p e.1) (enumerate_from (n + 1) xs))))
  numbers_with true n x xs rest = (omega arith, rest)
  numbers_with false n x xs rest = rises_from (n + 1) n (numbers (n + 1) xs) (omega arith) rest

  pub numbers_rise : (n : ℕ) (xs : List X) → Rises n (numbers n xs)
  numbers_rise n [] = tt
  numbers_rise n (x ∷ xs) = numbers_with (p x) n x xs (numbers_rise (n + 1) xs)

-- ---- the rows ahead

abbrev pub is_in : ℕ → List ℕ → Bool
is_in row xs = list_any (λ x. x == row) xs

pub is_in_below : (low row : ℕ) (xs : List ℕ) → row < low → Rises low xs → is_in row xs ≡ false
is_in_below low row [] l r = refl
is_in_below low row (x ∷ xs) l r = ap (λ b. b || is_in row xs) (ne_eqb x row (λ e. absurd (omega (arith, e, r.0)))) ∙ is_in_below (x + 1) row xs (omega (arith, r.0)) r.1

abbrev told : ℕ → List ℕ → ℕ
told from xs = unwrap_or (slice_get (rows_from from xs) 0) NO_ROW

bound_by : (from x : ℕ) (xs : List ℕ) (b : Bool) → from ≤ NO_ROW → nat_lt x from ≡ b → Rises (x + 1) xs → IsBound (λ row. is_in row xs) from (told from xs)
    → IsBound (λ row. is_in row (x ∷ xs)) from (unwrap_or (slice_get (cond b (rows_from from xs) (x ∷ xs)) 0) NO_ROW)
bound_by from x xs true l low r rest =
    let below : x < from = grind (arith, low) in
    let same : (row : ℕ) → from ≤ row → is_in row (x ∷ xs) ≡ is_in row xs = λ row m. ap (λ b. b || is_in row xs) (ne_eqb x row (λ e. absurd (omega (arith, e, below)))) in
    record {
      on = rest.on;
      none = λ row m n. same row m ∙ rest.none row m n;
      stands = λ e m. same from (omega arith) ∙ rest.stands e m;
    }
bound_by from x xs false l high r rest =
    let above : from ≤ x = grind (arith, high) in
    record {
      on = above;
      none = λ row m n. is_in_below x row (x ∷ xs) n (omega arith, r);
      stands = λ e m. ap (λ b. b || is_in from xs) (eq-eqb x from e);
    }

pub seek_bound : (from low : ℕ) (xs : List ℕ) → from ≤ NO_ROW → Rises low xs → IsBound (λ row. is_in row xs) from (told from xs)
seek_bound from low [] l r = record { on = l; none = λ row m n. refl; stands = λ e m. absurd (omega (arith, e, m)) }
seek_bound from low (x ∷ xs) l r = bound_by from x xs (nat_lt x from) l refl r.1 (seek_bound from (x + 1) xs l r.1)

-- ---- the cursor that sought

kept_by : (row x : ℕ) (xs : List ℕ) (b : Bool) → nat_lt x row ≡ b → filter (nat_le row) (rows_from row xs) ≡ filter (nat_le row) xs → filter (nat_le row) (cond b (rows_from row xs) (x ∷ xs)) ≡ filter (nat_le row) (x ∷ xs)
kept_by row x xs true low rest =
    let below : x < row = grind (arith, low) in
    rest ∙ sym (ap (λ b. cond b (x ∷ filter (nat_le row) xs) (filter (nat_le row) xs)) (lt-leb row x below))
kept_by row x xs false high rest = refl

kept_from : (row : ℕ) (xs : List ℕ) → filter (nat_le row) (rows_from row xs) ≡ filter (nat_le row) xs
kept_from row [] = refl
kept_from row (x ∷ xs) = kept_by row x xs (nat_lt x row) refl (kept_from row xs)

module _ (belongs : Cursor → Type 0) (place : Cursor → CursorPlace) (from : ℕ) (old new : Cursor) (moved : place new ≡ place_from from (place old)) where
  pub sought_keeps : belongs new → KeepsRows belongs place from old new
  sought_keeps its = record {
    its = its;
    word = ap (λ (p : CursorPlace). p.word) moved;
    ahead = ap (λ (p : CursorPlace). filter (nat_le from) p.ahead) moved ∙ kept_from from (place old).ahead;
  }

  pub sought_bound : (rows : List DocRow) (far : ℕ) → from ≤ NO_ROW → IsCursorPlace rows (place old) → far ≡ unwrap_or (next_row (place new)) NO_ROW → IsBound (λ row. is_ahead place row (Some old)) from far
  sought_bound rows far l its is =
      let rises : Rises 0 (place old).ahead = rises_last 0 its.behind (place old).ahead (subst (Rises 0) (sym its.both) (numbers_rise (has_word (place old).word) 0 rows)) in
      subst (IsBound (λ row. is_in row (place old).ahead) from) (sym (is ∙ ap (λ (p : CursorPlace). unwrap_or (next_row p) NO_ROW) moved)) (seek_bound from 0 (place old).ahead l rises)
