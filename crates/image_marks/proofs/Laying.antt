-- Where the places of rows and of their fields begin.
use Rattle.std.proofs.Common.{◌≡◌, ℕ, zero, suc, ◌+◌, ◌*◌, ◌<◌, ◌≤◌, List, [], ◌∷◌, ◌++◌, length, get_or, refl, sym, ap, subst, ◌∙◌, arith, inl, inr, append_assoc, length-append}
use Rattle.std.specs.List.{AllByRecursion}
use Rattle.std.proofs.Math.Seq.{get_or-append_seam}
use Rattle.std.proofs.lemmas.Bool.{cases_lt}
use Rattle.chunk_damage.specs.RowMarks.{FieldMarks, RowMarks}
use Rattle.image_cover.specs.Layouts.{AreLaid}
use Rattle.image_marks.specs.Markings.{field_bits, fields_bits, fields_starts, row_bits, rows_bits, rows_starts}
use Rattle.image_marks.proofs.FieldReading.{field_bits_long}

-- what stands at these places of the starts: where the places of fields begin, and at the end where they end
abbrev pub FieldsStand : List ℕ → ℕ → List ℕ → List FieldMarks → Type 0
FieldsStand starts j bits [] = get_or starts j 0 ≡ length bits
FieldsStand starts j bits (m ∷ ms) = (get_or starts j 0 ≡ length bits) × FieldsStand starts (j + 1) (field_bits bits m) ms

abbrev pub RowsStand : List ℕ → ℕ → ℕ → List ℕ → List RowMarks → Type 0
RowsStand starts width n bits [] = get_or starts (n * width) 0 ≡ length bits
RowsStand starts width n bits (m ∷ marks) = (get_or starts (n * width) 0 ≡ length bits) × FieldsStand starts (n * width + 1) (bits ++ 1 ∷ []) m.fields × RowsStand starts width (n + 1) (row_bits bits m.fields) marks

-- ---- where they stand

here_is : (starts pre rest : List ℕ) (x j : ℕ) → starts ≡ pre ++ x ∷ rest → length pre ≡ j → get_or starts j 0 ≡ x
here_is starts pre rest x j e l = ap (λ s. get_or s j 0) e ∙ ap (λ k. get_or (pre ++ x ∷ rest) k 0) (sym l) ∙ get_or-append_seam pre x rest 0

next_is : (starts pre rest : List ℕ) (x : ℕ) → starts ≡ pre ++ x ∷ rest → starts ≡ (pre ++ x ∷ []) ++ rest
next_is starts pre rest x e = e ∙ sym (append_assoc pre (x ∷ []) rest)

one_more : (pre : List ℕ) (x j : ℕ) → length pre ≡ j → length (pre ++ x ∷ []) ≡ j + 1
one_more pre x j l = omega (arith, length-append pre (x ∷ []), l)

fields_stand : (starts pre rest : List ℕ) (j : ℕ) (bits : List ℕ) (ms : List FieldMarks) → starts ≡ pre ++ (fields_starts bits ms ++ (length (fields_bits bits ms) ∷ rest)) → length pre ≡ j → FieldsStand starts j bits ms
fields_stand starts pre rest j bits [] e l = here_is starts pre rest (length bits) j e l
fields_stand starts pre rest j bits (m ∷ ms) e l =
    let tail = fields_starts (field_bits bits m) ms ++ (length (fields_bits (field_bits bits m) ms) ∷ rest) in
    (here_is starts pre tail (length bits) j e l, fields_stand starts (pre ++ length bits ∷ []) rest (j + 1) (field_bits bits m) ms (next_is starts pre tail (length bits) e) (one_more pre (length bits) j l))

begins : (bits : List ℕ) (marks : List RowMarks) → (rest : List ℕ) × (rows_starts bits marks ≡ length bits ∷ rest)
begins bits [] = ([], refl)
begins bits (m ∷ marks) = (fields_starts (bits ++ 1 ∷ []) m.fields ++ rows_starts (row_bits bits m.fields) marks, refl)

pub starts_many : (bits : List ℕ) (ms : List FieldMarks) → length (fields_starts bits ms) ≡ length ms
starts_many bits [] = refl
starts_many bits (m ∷ ms) = ap suc (starts_many (field_bits bits m) ms)

-- each row has so many
abbrev pub HaveWidth : ℕ → List RowMarks → Type 0
HaveWidth width marks = AllByRecursion (λ (m : RowMarks). length m.fields + 1 ≡ width) marks

row_step : (n width : ℕ) → (n + 1) * width ≡ n * width + width
row_step n width = omega arith

pub rows_stand : (starts pre : List ℕ) (width n : ℕ) (bits : List ℕ) (marks : List RowMarks) → HaveWidth width marks → starts ≡ pre ++ rows_starts bits marks → length pre ≡ n * width → RowsStand starts width n bits marks
rows_stand starts pre width n bits [] wide e l = here_is starts pre [] (length bits) (n * width) e l
rows_stand starts pre width n bits (m ∷ marks) wide e l =
    let fs = fields_starts (bits ++ 1 ∷ []) m.fields in
    let later = begins (row_bits bits m.fields) marks in
    let tail = fs ++ rows_starts (row_bits bits m.fields) marks in
    let after : starts ≡ (pre ++ length bits ∷ []) ++ tail = next_is starts pre tail (length bits) e in
    let its : starts ≡ (pre ++ length bits ∷ []) ++ (fs ++ (length (row_bits bits m.fields) ∷ later.0)) = after ∙ ap (λ l. (pre ++ length bits ∷ []) ++ (fs ++ l)) later.1 in (
      here_is starts pre tail (length bits) (n * width) e l,
      fields_stand starts (pre ++ length bits ∷ []) later.0 (n * width + 1) (bits ++ 1 ∷ []) m.fields its (one_more pre (length bits) (n * width) l),
      rows_stand starts ((pre ++ length bits ∷ []) ++ fs) width (n + 1) (row_bits bits m.fields) marks wide.1 (after ∙ sym (append_assoc (pre ++ length bits ∷ []) fs (rows_starts (row_bits bits m.fields) marks)))
          (omega (arith, length-append (pre ++ length bits ∷ []) fs, one_more pre (length bits) (n * width) l, starts_many (bits ++ 1 ∷ []) m.fields, wide.0, row_step n width)),
    )

-- ---- they rise

abbrev Rising : ℕ → ℕ → List ℕ → Type 0
Rising low high [] = low ≤ high
Rising low high (x ∷ xs) = (low ≤ x) × Rising x high xs

lower_it : (a b high : ℕ) (xs : List ℕ) → a ≤ b → Rising b high xs → Rising a high xs
lower_it a b high [] le r = omega (arith, le, r)
lower_it a b high (x ∷ xs) le r = (omega (arith, le, r.0), r.1)

rising_fields : (low high : ℕ) (bits rest : List ℕ) (ms : List FieldMarks) → low ≤ length bits → Rising (length (fields_bits bits ms)) high rest → Rising low high (fields_starts bits ms ++ rest)
rising_fields low high bits rest [] le r = lower_it low (length bits) high rest le r
rising_fields low high bits rest (m ∷ ms) le r = (le, rising_fields (length bits) high (field_bits bits m) rest ms (omega (arith, field_bits_long bits m)) r)

rising_rows : (low : ℕ) (bits : List ℕ) (marks : List RowMarks) → low ≤ length bits → Rising low (length (rows_bits bits marks)) (rows_starts bits marks)
rising_rows low bits [] le = (le, omega arith)
rising_rows low bits (m ∷ marks) le =
    (le, rising_fields (length bits) (length (rows_bits (row_bits bits m.fields) marks)) (bits ++ 1 ∷ []) (rows_starts (row_bits bits m.fields) marks) m.fields (omega (arith, length-append bits (1 ∷ []))) (rising_rows (length (row_bits bits m.fields)) (row_bits bits m.fields) marks (omega arith)))

bound : (low high : ℕ) (xs : List ℕ) (j : ℕ) → Rising low high xs → j < length xs → (low ≤ get_or xs j 0) × (get_or xs j 0 ≤ high)
bound low high [] j r h = absurd (omega (arith, h))
bound low high (x ∷ xs) zero r h = (r.0, top x high xs r.1)
  where
    top : (x high : ℕ) (xs : List ℕ) → Rising x high xs → x ≤ high
    top x high [] r = r
    top x high (y ∷ ys) r = omega (arith, r.0, top y high ys r.1)
bound low high (x ∷ xs) (suc j) r h = let its = bound x high xs j r.1 (omega (arith, h)) in (omega (arith, its.0, r.0), its.1)

rises : (low high : ℕ) (xs : List ℕ) (i j : ℕ) → Rising low high xs → i ≤ j → j < length xs → get_or xs i 0 ≤ get_or xs j 0
rises low high [] i j r le h = absurd (omega (arith, h))
rises low high (x ∷ xs) zero zero r le h = omega arith
rises low high (x ∷ xs) zero (suc j) r le h = (bound x high xs j r.1 (omega (arith, h))).0
rises low high (x ∷ xs) (suc i) zero r le h = absurd (omega (arith, le))
rises low high (x ∷ xs) (suc i) (suc j) r le h = rises x high xs i j r.1 (omega (arith, le)) (omega (arith, h))

rows_many : (width : ℕ) (bits : List ℕ) (marks : List RowMarks) → HaveWidth width marks → length (rows_starts bits marks) ≡ length marks * width + 1
rows_many width bits [] wide = omega arith
rows_many width bits (m ∷ marks) wide =
    omega (arith, length-append (fields_starts (bits ++ 1 ∷ []) m.fields) (rows_starts (row_bits bits m.fields) marks), starts_many (bits ++ 1 ∷ []) m.fields, rows_many width (row_bits bits m.fields) marks wide.1, wide.0, suc_step (length marks) width)
  where
    suc_step : (n width : ℕ) → suc n * width ≡ n * width + width
    suc_step n width = omega arith

pub second : (starts : List ℕ) (j : ℕ) (bits : List ℕ) (ms : List FieldMarks) → FieldsStand starts j bits ms → get_or starts j 0 ≡ length bits
second starts j bits [] stand = stand
second starts j bits (m ∷ ms) stand = stand.0

outers : (starts : List ℕ) (width n : ℕ) (bits : List ℕ) (marks : List RowMarks) → RowsStand starts width n bits marks → (row : ℕ) → n ≤ row → row < n + length marks → get_or starts (row * width) 0 < get_or starts (row * width + 1) 0
outers starts width n bits [] stand row low high = absurd (omega (arith, low, high))
outers starts width n bits (m ∷ marks) stand row low high =
    elim (cases_lt n row) [
      | inl later ↦ outers starts width (n + 1) (row_bits bits m.fields) marks stand.2 row (omega (arith, later)) (omega (arith, high))
      | inr here ↦
          let same : n ≡ row = omega (arith, low, here) in
          subst (λ r. get_or starts (r * width) 0 < get_or starts (r * width + 1) 0) same (omega (arith, stand.0, second starts (n * width + 1) (bits ++ 1 ∷ []) m.fields stand.1, length-append bits (1 ∷ [])))
    ]

pub laid : (width : ℕ) (marks : List RowMarks) → 1 ≤ width → HaveWidth width marks → AreLaid (rows_starts [] marks) width (length marks) (length (rows_bits [] marks))
laid width marks some wide =
    let starts = rows_starts [] marks in
    let r = rising_rows 0 [] marks (omega arith) in
    let long = rows_many width [] marks wide in
    let stand = rows_stand starts [] width 0 [] marks wide refl (omega arith) in
    record {
      wide = some;
      long = long;
      rise = λ i j le h. rises 0 (length (rows_bits [] marks)) starts i j r le h;
      within = λ j h. (bound 0 (length (rows_bits [] marks)) starts j r h).1;
      outer = λ row low. outers starts width 0 [] marks stand row (omega arith) (omega (arith, low));
    }
