-- Rows that are passed, one after the other.
use Rattle.std.proofs.Common.{◌≡◌, ℕ, ◌+◌, ◌*◌, ◌<◌, ◌≤◌, List, length, get_or, sym, ap, subst, arith, inl, inr}
use Rattle.std.proofs.lemmas.Bool.{cases_lt}
use Rattle.image_cover.specs.Layouts.{AreLaid}
use Rattle.image_cover.specs.Places.{Seen}
use Rattle.covered_rows.specs.Marked.{ArePassed, IsStopped}
use Rattle.covered_rows.proofs.Ranges.{next_row, row_up}

-- no row that was passed is noted, and each ends at the first clear bit or before it
pub record Passed (starts : List ℕ) (width : ℕ) (s : Seen) (clear next row : ℕ) : Type 0 where
  pub next_is : next ≡ row * width
  pub end : get_or starts next 0 ≤ clear
  pub each : (its : ℕ) → its < row → (s.1 ≡ its → ⊥)

pub passed_none : (starts : List ℕ) (width : ℕ) (s : Seen) (clear : ℕ) → get_or starts 0 0 ≡ 0 → Passed starts width s clear 0 0
passed_none starts width s clear from = record { next_is = omega arith; end = omega (arith, from); each = λ its low. absurd (omega (arith, low)) }

pub passed_more : (starts : List ℕ) (width : ℕ) (s : Seen) (clear next row : ℕ) → Passed starts width s clear next row → (row ≡ s.1 → ⊥) → get_or starts (next + width) 0 ≤ clear → Passed starts width s clear (next + width) (row + 1)
passed_more starts width s clear next row p other end = record {
  next_is = omega (arith, p.next_is, next_row row width);
  end = end;
  each = λ its low. elim (cases_lt its row) [ inl before ↦ p.each its before | inr here ↦ λ e. other (omega (arith, here, low, e)) ];
}

module _ (starts : List ℕ) (width rows : ℕ) (s : Seen) (laid : AreLaid starts width rows (length s.0)) (clear : ℕ) (set_before : (k : ℕ) → k < clear → k < length s.0 → get_or s.0 k 0 ≡ 1) (is_clear : clear < length s.0 → get_or s.0 clear 0 ≡ 0) where
  pub are_passed : (next row : ℕ) → row ≤ rows → Passed starts width s clear next row → ArePassed starts width s row
  are_passed next row most p its low = (
    p.each its low,
    λ k h.
        let up = row_up its row width low in
        let end : get_or starts ((its + 1) * width) 0 ≤ clear = omega (arith, p.end, ap (λ j. get_or starts j 0) p.next_is, laid.rise ((its + 1) * width) (row * width) (omega (arith, up, next_row its width)) (omega (arith, laid.long, below row most))) in
        let within = laid.within ((its + 1) * width) (omega (arith, laid.long, up, next_row its width, below row most)) in
        set_before k (omega (arith, h, end)) (omega (arith, h, within)),
  )
    where
      below : (row : ℕ) → row ≤ rows → row * width ≤ rows * width
      below row le = elim (cases_lt row rows) [ inl low ↦ omega (arith, row_up row rows width low) | inr high ↦ let same : row ≡ rows = omega (arith, le, high) in subst (λ r. row * width ≤ r * width) same (omega arith) ]

  pub noted : (next row : ℕ) → row < rows → Passed starts width s clear next row → row ≡ s.1 → IsStopped starts width s rows row
  noted next row low p e = record { low = low; before = are_passed next row (omega (arith, low)) p; here = inl (sym e) }

  pub not_taken : (next row : ℕ) → row < rows → Passed starts width s clear next row → clear < get_or starts (next + width) 0 → IsStopped starts width s rows row
  not_taken next row low p short =
      let to : get_or starts (next + width) 0 ≡ get_or starts ((row + 1) * width) 0 = ap (λ j. get_or starts j 0) (omega (arith, p.next_is, next_row row width)) in
      let within = laid.within ((row + 1) * width) (omega (arith, laid.long, row_up row rows width low, next_row row width)) in
      record {
        low = low;
        before = are_passed next row (omega (arith, low)) p;
        here = inr (clear, omega (arith, p.end, ap (λ j. get_or starts j 0) p.next_is), omega (arith, short, to), is_clear (omega (arith, short, to, within)));
      }
