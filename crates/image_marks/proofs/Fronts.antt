-- The rows that are laid out with their positions are those in front.
use Rattle.std.proofs.Common.{◌≡◌, ℕ, zero, suc, ◌+◌, ◌*◌, ◌≤◌, Bool, true, false, cond, leb, List, [], ◌∷◌, ◌++◌, length, get_or, drop, replicate, refl, sym, ap, subst, ◌∙◌, arith}
use Rattle.std.specs.List.{AllByRecursion}
use Rattle.std.proofs.lemmas.List.{length-replicate}
use Rattle.chunk_damage.specs.RowMarks.{AreFieldMarks, RowMarks, empty_field}
use Rattle.image_marks.specs.Markings.{emptied, laid_row, laid_rows, row_bits, rows_bits}
use Rattle.image_marks.proofs.Bits.{RowsFit, row_long, rows_long}
use Rattle.image_marks.proofs.Laying.{HaveWidth, RowsStand}
use Rattle.image_marks.proofs.RowLaying.{laid_whole}

-- they have as many fields as before, which fit
pub laid_wide : (enough width : ℕ) (bits : List ℕ) (marks : List RowMarks) → HaveWidth width marks → HaveWidth width (laid_rows enough bits marks)
laid_wide enough width bits [] wide = tt
laid_wide enough width bits (m ∷ marks) wide = (by (leb (length bits) enough), laid_wide enough width (row_bits bits (laid_row enough bits m).fields) marks wide.1)
  where
    by : (b : Bool) → length (cond {A = RowMarks} b m (emptied m)).fields + 1 ≡ width
    by true = wide.0
    by false = ap (λ n. n + 1) (length-replicate (length m.fields) empty_field) ∙ wide.0

empty_fits : AreFieldMarks empty_field
empty_fits = record { short = omega arith; few = omega arith; ascend = tt }

empties_fit : (count : ℕ) → AllByRecursion AreFieldMarks (replicate count empty_field)
empties_fit zero = tt
empties_fit (suc count) = (empty_fits, empties_fit count)

pub laid_fit : (enough : ℕ) (bits : List ℕ) (marks : List RowMarks) → RowsFit marks → RowsFit (laid_rows enough bits marks)
laid_fit enough bits [] fit = tt
laid_fit enough bits (m ∷ marks) fit = (by (leb (length bits) enough), laid_fit enough (row_bits bits (laid_row enough bits m).fields) marks fit.1)
  where
    by : (b : Bool) → AllByRecursion AreFieldMarks (cond {A = RowMarks} b m (emptied m)).fields
    by true = fit.0
    by false = empties_fit (length m.fields)

-- ---- the same rows in front

abbrev first_of : RowMarks → List RowMarks → RowMarks
first_of other [] = other
first_of other (m ∷ marks) = m

-- a row is the same as it was read, and so are those before it, where there are no more than enough places before it
pub laid_front : (enough : ℕ) (bits : List ℕ) (marks before behind : List RowMarks) (m : RowMarks) → laid_rows enough bits marks ≡ before ++ m ∷ behind → length (rows_bits bits before) ≤ enough → (rest : List RowMarks) × (marks ≡ before ++ m ∷ rest)
laid_front enough bits [] [] behind m e few = absurd (omega (arith, ap length e))
laid_front enough bits [] (b ∷ before) behind m e few = absurd (omega (arith, ap length e))
laid_front enough bits (k ∷ marks) [] behind m e few = (marks, ap (λ r. r ∷ marks) (sym (laid_whole enough bits k few) ∙ ap (first_of k) e))
laid_front enough bits (k ∷ marks) (b ∷ before) behind m e few =
    let here : laid_row enough bits k ≡ b = ap (first_of k) e in
    let low : length bits ≤ enough = omega (arith, few, rows_long (row_bits bits b.fields) before, row_long bits b.fields) in
    let same : k ≡ b = sym (laid_whole enough bits k low) ∙ here in
    let later : length (rows_bits (row_bits bits (laid_row enough bits k).fields) before) ≤ enough = subst (λ (r : RowMarks). length (rows_bits (row_bits bits r.fields) before) ≤ enough) (sym here) few in
    let its = laid_front enough (row_bits bits (laid_row enough bits k).fields) marks before behind m (ap (drop 1) e) later in
    (its.0, ap (λ r. r ∷ marks) same ∙ ap (λ l. b ∷ l) its.1)

-- all rows are, where there are no more places
pub laid_all : (enough : ℕ) (bits : List ℕ) (marks : List RowMarks) → length (rows_bits bits (laid_rows enough bits marks)) ≤ enough → laid_rows enough bits marks ≡ marks
laid_all enough bits [] few = refl
laid_all enough bits (k ∷ marks) few =
    let next = row_bits bits (laid_row enough bits k).fields in
    let low : length bits ≤ enough = omega (arith, few, rows_long next (laid_rows enough next marks), row_long bits (laid_row enough bits k).fields) in
    ap (λ r. r ∷ laid_rows enough next marks) (laid_whole enough bits k low) ∙ ap (λ l. k ∷ l) (laid_all enough next marks few)

-- where the places of the rows behind these begin
pub stands_at : (starts : List ℕ) (width n : ℕ) (bits : List ℕ) (before rest : List RowMarks) → RowsStand starts width n bits (before ++ rest) → get_or starts ((n + length before) * width) 0 ≡ length (rows_bits bits before)
stands_at starts width n bits [] [] stand = ap (λ k. get_or starts (k * width) 0) (nought n) ∙ stand
  where
    nought : (n : ℕ) → n + 0 ≡ n
    nought n = omega arith
stands_at starts width n bits [] (m ∷ rest) stand = ap (λ k. get_or starts (k * width) 0) (nought n) ∙ stand.0
  where
    nought : (n : ℕ) → n + 0 ≡ n
    nought n = omega arith
stands_at starts width n bits (b ∷ before) rest stand = ap (λ k. get_or starts (k * width) 0) (next n (length before)) ∙ stands_at starts width (n + 1) (row_bits bits b.fields) before rest stand.2
  where
    next : (n k : ℕ) → n + suc k ≡ n + 1 + k
    next n k = omega arith
