-- What the places that marks lay out are: those of positions are taken where a boundary stands, and each row's own is.
use Rattle.std.proofs.Common.{◌≡◌, ◌≢◌, ℕ, ◌+◌, ◌-◌, ◌<◌, ◌≤◌, Bool, true, false, cond, eqb, eq-eqb, ltb, leb, ◌||◌, set, List, [], ◌∷◌, ◌++◌, length, get_or, replicate, refl, sym, ap, subst, ◌∙◌, arith, inl, inr, length-append}
use Rattle.std.specs.List.{AllByRecursion}
use Rattle.std.proofs.Math.Seq.{get_or-append_seam}
use Rattle.std.proofs.lemmas.Bool.{cases_lt, eqb-true, lt-ltb, le-ltb, le-leb, lt-leb}
use Rattle.std.proofs.lemmas.List.{get_or_append_left, get_or-append_right, get_or-replicate, get_or-set_other, get_or-set_same, length-replicate}
use Rattle.doc_types.specs.declared.tokens.Gap.{Gap}
use Rattle.byte_fields.specs.Fields.{AllFrom}
use Rattle.chunk_damage.specs.RowMarks.{AreFieldMarks, FieldMarks, IsGapBehind, RowMarks, is_taken}
use Rattle.chunk_damage.specs.Cover.{AreBetween}
use Rattle.image_marks.specs.Markings.{field_bits, fields_bits, gap_bits, is_misplaced, row_bits, rows_bits, some_misplaced, with_bit}
use Rattle.image_marks.proofs.GapSteps.{with_bit_long}
use Rattle.image_marks.proofs.FieldReading.{field_bits_long}

-- ---- boundaries

-- a place that a boundary doesn't take
bit_keeps : (start last : ℕ) (bits : List ℕ) (position k : ℕ) → k ≢ start + position - 1 → get_or (with_bit start last bits position) k 0 ≡ get_or bits k 0
bit_keeps start last bits position k other = elim (leb position last) as (λ b. get_or (cond b (set bits (start + position - 1) 1) bits) k 0 ≡ get_or bits k 0) [
  | true ↦ get_or-set_other bits (start + position - 1) k 1 0 other
  | false ↦ refl
]

-- the place of its position
bit_taken : (start last : ℕ) (bits : List ℕ) (position : ℕ) → 1 ≤ position → position ≤ last → start + last ≤ length bits → get_or (with_bit start last bits position) (start + position - 1) 0 ≡ 1
bit_taken start last bits position some low inside = rw (le-leb position last low) (get_or-set_same bits (start + position - 1) 1 0 (omega (arith, some, low, inside)))

abbrev GapsFit : ℕ → List (ℕ × Gap) → Type 0
GapsFit before gs = AllFrom IsGapBehind (λ (gap : ℕ × Gap). gap.0) before gs

-- places before the field's stay as they are
gaps_keep : (start last before : ℕ) (bits : List ℕ) (gs : List (ℕ × Gap)) (k : ℕ) → GapsFit before gs → k < start → get_or (gap_bits start last bits gs) k 0 ≡ get_or bits k 0
gaps_keep start last before bits [] k fit low = refl
gaps_keep start last before bits (g ∷ gs) k fit low =
    gaps_keep start last g.0 (with_bit start last bits g.0) gs k fit.1 low ∙ bit_keeps start last bits g.0 k (λ e. absurd (omega (arith, e, low, fit.0.behind)))

-- so do those of positions up to a boundary's
gaps_pass : (start last before : ℕ) (bits : List ℕ) (gs : List (ℕ × Gap)) (p : ℕ) → GapsFit before gs → 1 ≤ p → p ≤ before → get_or (gap_bits start last bits gs) (start + p - 1) 0 ≡ get_or bits (start + p - 1) 0
gaps_pass start last before bits [] p fit some low = refl
gaps_pass start last before bits (g ∷ gs) p fit some low =
    gaps_pass start last g.0 (with_bit start last bits g.0) gs p fit.1 some (omega (arith, low, fit.0.behind)) ∙ bit_keeps start last bits g.0 (start + p - 1) (λ e. absurd (omega (arith, e, low, some, fit.0.behind)))

differ : (a b : ℕ) → (a ≡ b → ⊥) → eqb a b ≡ false
differ a b other = elim (eqb a b) as (λ t. eqb a b ≡ t → t ≡ false) [ true ↦ λ is. absurd (other (eqb-true a b is)) | false ↦ λ is. refl ] refl

not_there : (before : ℕ) (gs : List (ℕ × Gap)) (p : ℕ) → GapsFit before gs → p ≤ before → is_taken gs p ≡ false
not_there before [] p fit low = refl
not_there before (g ∷ gs) p fit low = ap (λ b. b || is_taken gs p) (differ g.0 p (λ e. absurd (omega (arith, e, low, fit.0.behind)))) ∙ not_there g.0 gs p fit.1 (omega (arith, low, fit.0.behind))

-- the place of a position is taken where a boundary stands there
gaps_take : (start last before : ℕ) (bits : List ℕ) (gs : List (ℕ × Gap)) (p : ℕ) → GapsFit before gs → before < p → p ≤ last → start + last ≤ length bits → get_or bits (start + p - 1) 0 ≡ 0 → get_or (gap_bits start last bits gs) (start + p - 1) 0 ≡ cond (is_taken gs p) 1 0
gaps_take start last before bits [] p fit low high inside none = none
gaps_take start last before bits (g ∷ gs) p fit low high inside none =
    elim (eqb g.0 p) as (λ b. eqb g.0 p ≡ b → get_or (gap_bits start last (with_bit start last bits g.0) gs) (start + p - 1) 0 ≡ cond (b || is_taken gs p) 1 0) [
      | true ↦ λ is.
          let here : g.0 ≡ p = eqb-true g.0 p is in
          let takes : get_or (with_bit start last bits g.0) (start + p - 1) 0 ≡ 1 = subst (λ q. get_or (with_bit start last bits g.0) (start + q - 1) 0 ≡ 1) here (bit_taken start last bits g.0 (omega (arith, here, low)) (omega (arith, here, high)) inside) in
          gaps_pass start last g.0 (with_bit start last bits g.0) gs p fit.1 (omega (arith, low)) (omega (arith, here)) ∙ takes
      | false ↦ λ not_here.
          let other : g.0 ≡ p → ⊥ = λ e. let t : eqb g.0 p ≡ true = eq-eqb g.0 p e in absurd cc in
          let kept : get_or (with_bit start last bits g.0) (start + p - 1) 0 ≡ 0 = bit_keeps start last bits g.0 (start + p - 1) (λ e. other (omega (arith, e, low, fit.0.behind))) ∙ none in
          elim (cases_lt g.0 p) [
            | inl before_it ↦ gaps_take start last g.0 (with_bit start last bits g.0) gs p fit.1 before_it high (omega (arith, inside, with_bit_long start last bits g.0)) kept
            | inr behind_it ↦
                gaps_pass start last g.0 (with_bit start last bits g.0) gs p fit.1 (omega (arith, low)) behind_it ∙ kept ∙ sym (ap (λ b. cond b 1 0) (not_there g.0 gs p fit.1 (omega (arith, behind_it))))
          ]
    ] refl

-- boundaries of which none is misplaced lie between words, and the other way round
or_none : (a b : Bool) → (a || b) ≡ false → (a ≡ false) × (b ≡ false)
or_none true b e = absurd cc
or_none false b e = (refl, e)

pub between_of : (before last : ℕ) (gs : List (ℕ × Gap)) → some_misplaced before last gs ≡ false → AreBetween (before + 2) last gs
between_of before last [] e = tt
between_of before last (g ∷ gs) e =
    let both = or_none (is_misplaced before last g.0) (some_misplaced g.0 last gs) e in
    let own = or_none (ltb g.0 (before + 2)) (leb last g.0) both.0 in
    (high g.0 (before + 2) own.0, low last g.0 own.1, between_of g.0 last gs both.1)
  where
    high : (a b : ℕ) → ltb a b ≡ false → b ≤ a
    high a b e = elim (cases_lt a b) [ inl lt ↦ let t : ltb a b ≡ true = lt-ltb a b lt in absurd cc | inr le ↦ le ]

    low : (a b : ℕ) → leb a b ≡ false → b < a
    low a b e = elim (cases_lt b a) [ inl lt ↦ lt | inr le ↦ let t : leb a b ≡ true = le-leb a b le in absurd cc ]

pub of_between : (before last : ℕ) (gs : List (ℕ × Gap)) → AreBetween (before + 2) last gs → some_misplaced before last gs ≡ false
of_between before last [] are = refl
of_between before last (g ∷ gs) are = rw (le-ltb g.0 (before + 2) are.0, lt-leb last g.0 are.1) (of_between g.0 last gs are.2)

-- ---- fields

field_keeps : (bits : List ℕ) (m : FieldMarks) (k : ℕ) → AreFieldMarks m → k < length bits → get_or (field_bits bits m) k 0 ≡ get_or bits k 0
field_keeps bits m k fit low = gaps_keep (length bits) m.last 0 (bits ++ replicate m.last 0) m.gaps k fit.ascend low ∙ get_or_append_left bits (replicate m.last 0) 0 k low

field_takes : (bits : List ℕ) (m : FieldMarks) (p : ℕ) → AreFieldMarks m → 1 ≤ p → p ≤ m.last → get_or (field_bits bits m) (length bits + p - 1) 0 ≡ cond (is_taken m.gaps p) 1 0
field_takes bits m p fit some low =
    let long : length (bits ++ replicate m.last 0) ≡ length bits + m.last = length-append bits (replicate m.last 0) ∙ ap (λ n. length bits + n) (length-replicate m.last 0) in
    let none : get_or (bits ++ replicate m.last 0) (length bits + p - 1) 0 ≡ 0 =
    get_or-append_right bits (replicate m.last 0) (length bits) (length bits + p - 1) 0 refl (omega (arith, some)) ∙ get_or-replicate m.last (length bits + p - 1 - length bits) 0 0 (omega (arith, some, low)) in
    gaps_take (length bits) m.last 0 (bits ++ replicate m.last 0) m.gaps p fit.ascend (omega (arith, some)) low (omega (arith, long)) none

pub fields_long : (bits : List ℕ) (ms : List FieldMarks) → length bits ≤ length (fields_bits bits ms)
fields_long bits [] = omega arith
fields_long bits (m ∷ ms) = omega (arith, fields_long (field_bits bits m) ms, field_bits_long bits m)

pub fields_keep : (bits : List ℕ) (ms : List FieldMarks) (k : ℕ) → AllByRecursion AreFieldMarks ms → k < length bits → get_or (fields_bits bits ms) k 0 ≡ get_or bits k 0
fields_keep bits [] k fit low = refl
fields_keep bits (m ∷ ms) k fit low = fields_keep (field_bits bits m) ms k fit.1 (omega (arith, low, field_bits_long bits m)) ∙ field_keeps bits m k fit.0 low

-- the places of the fields' positions: taken where a boundary stands
abbrev pub FieldsTake : List ℕ → List ℕ → List FieldMarks → Type 0
FieldsTake final bits [] = Unit {0}
FieldsTake final bits (m ∷ ms) = ((p : ℕ) → 1 ≤ p → p ≤ m.last → get_or final (length bits + p - 1) 0 ≡ cond (is_taken m.gaps p) 1 0) × FieldsTake final (field_bits bits m) ms

pub fields_take : (final bits : List ℕ) (ms : List FieldMarks) → AllByRecursion AreFieldMarks ms → ((k : ℕ) → k < length (fields_bits bits ms) → get_or final k 0 ≡ get_or (fields_bits bits ms) k 0) → FieldsTake final bits ms
fields_take final bits [] fit same = tt
fields_take final bits (m ∷ ms) fit same = (
  λ p some low.
      let long = field_bits_long bits m in
      same (length bits + p - 1) (omega (arith, fields_long (field_bits bits m) ms, long, some, low))
      ∙ fields_keep (field_bits bits m) ms (length bits + p - 1) fit.1 (omega (arith, long, some, low))
      ∙ field_takes bits m p fit.0 some low,
  fields_take final (field_bits bits m) ms fit.1 same,
)

-- ---- rows

pub row_long : (bits : List ℕ) (ms : List FieldMarks) → length bits + 1 ≤ length (row_bits bits ms)
row_long bits ms = omega (arith, fields_long (bits ++ 1 ∷ []) ms, length-append bits (1 ∷ []))

-- a row's own place is taken
own_taken : (bits : List ℕ) (ms : List FieldMarks) → AllByRecursion AreFieldMarks ms → get_or (row_bits bits ms) (length bits) 0 ≡ 1
own_taken bits ms fit = fields_keep (bits ++ 1 ∷ []) ms (length bits) fit (omega (arith, length-append bits (1 ∷ []))) ∙ get_or-append_seam bits 1 [] 0

row_keeps : (bits : List ℕ) (ms : List FieldMarks) (k : ℕ) → AllByRecursion AreFieldMarks ms → k < length bits → get_or (row_bits bits ms) k 0 ≡ get_or bits k 0
row_keeps bits ms k fit low = fields_keep (bits ++ 1 ∷ []) ms k fit (omega (arith, low, length-append bits (1 ∷ []))) ∙ get_or_append_left bits (1 ∷ []) 0 k low

-- the fields of each row fit
abbrev pub RowsFit : List RowMarks → Type 0
RowsFit marks = AllByRecursion (λ (m : RowMarks). AllByRecursion AreFieldMarks m.fields) marks

rows_keep : (bits : List ℕ) (marks : List RowMarks) (k : ℕ) → RowsFit marks → k < length bits → get_or (rows_bits bits marks) k 0 ≡ get_or bits k 0
rows_keep bits [] k fit low = refl
rows_keep bits (m ∷ marks) k fit low = rows_keep (row_bits bits m.fields) marks k fit.1 (omega (arith, low, row_long bits m.fields)) ∙ row_keeps bits m.fields k fit.0 low

pub rows_long : (bits : List ℕ) (marks : List RowMarks) → length bits ≤ length (rows_bits bits marks)
rows_long bits [] = omega arith
rows_long bits (m ∷ marks) = omega (arith, rows_long (row_bits bits m.fields) marks, row_long bits m.fields)

-- each row's own place is taken, and those of its positions where a boundary stands
abbrev pub RowsTake : List ℕ → List ℕ → List RowMarks → Type 0
RowsTake final bits [] = Unit {0}
RowsTake final bits (m ∷ marks) = (get_or final (length bits) 0 ≡ 1) × FieldsTake final (bits ++ 1 ∷ []) m.fields × RowsTake final (row_bits bits m.fields) marks

pub rows_take : (final bits : List ℕ) (marks : List RowMarks) → RowsFit marks → ((k : ℕ) → k < length (rows_bits bits marks) → get_or final k 0 ≡ get_or (rows_bits bits marks) k 0) → RowsTake final bits marks
rows_take final bits [] fit same = tt
rows_take final bits (m ∷ marks) fit same =
    let own : (k : ℕ) → k < length (row_bits bits m.fields) → get_or final k 0 ≡ get_or (row_bits bits m.fields) k 0 = λ k low. same k (omega (arith, low, rows_long (row_bits bits m.fields) marks)) ∙ rows_keep (row_bits bits m.fields) marks k fit.1 low in (
      own (length bits) (omega (arith, row_long bits m.fields)) ∙ own_taken bits m.fields fit.0,
      fields_take final (bits ++ 1 ∷ []) m.fields fit.0 own,
      rows_take final (row_bits bits m.fields) marks fit.1 same,
    )
