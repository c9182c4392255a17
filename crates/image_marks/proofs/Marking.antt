-- What the marks of rows leave: where their places begin, which are taken, and which row is the first that has a boundary misplaced.
use Rattle.std.proofs.Common.{◌≡◌, ℕ, zero, suc, ◌+◌, ◌-◌, ◌*◌, ◌<◌, ◌≤◌, Bool, true, false, cond, leb, ◌||◌, set, List, [], ◌∷◌, ◌++◌, length, get_or, replicate, refl, sym, ap, subst, ◌∙◌, arith, inl, inr, ◌⊎◌, length-append}
use Rattle.std.specs.List.{AllByRecursion}
use Rattle.std.proofs.lemmas.Bool.{cases_lt, lt-ltb, le-ltb}
use Rattle.std.proofs.lemmas.List.{get_or-set_other}
use Rattle.doc_types.specs.declared.schema.Schema.{Schema}
use Rattle.doc_types.specs.declared.tokens.Gap.{Gap}
use Rattle.doc_types.specs.declared.tokens.TheConstants.{MAX_POSITION}
use Rattle.item_lists.specs.Items.{AllFit}
use Rattle.chunk_damage.specs.RowMarks.{AreFieldMarks, AreTold, FieldMarks, RowMarks, and_marks}
use Rattle.image_cover.specs.Places.{with_row}
use Rattle.covered_rows.specs.Marked.{AllBetween, AllShort, AreMarked, FieldsMarked, RowsMarked}
use Rattle.image_marks.specs.Markings.{field_bits, fields_bits, fields_least, gap_bits, noted, row_bits, rows_bits, rows_least, rows_starts, some_misplaced, with_bit}
use Rattle.image_marks.proofs.GapSteps.{noted_both}
use Rattle.image_marks.proofs.FieldReading.{field_bits_long}
use Rattle.image_marks.proofs.Bits.{FieldsTake, RowsFit, RowsTake, between_of, of_between, rows_take}
use Rattle.image_marks.proofs.Laying.{FieldsStand, HaveWidth, RowsStand, laid, rows_stand, second}

-- ---- each bit is 0 or 1

abbrev AreSmall : List ℕ → Type 0
AreSmall bits = (k : ℕ) → get_or bits k 0 ≤ 1

same_or : (a b : ℕ) → (a ≡ b) ⊎ (a ≡ b → ⊥)
same_or a b = elim (cases_lt a b) [
  | inl low ↦ inr (λ e. absurd (omega (arith, low, e)))
  | inr high ↦ elim (cases_lt b a) [ inl low ↦ inr (λ e. absurd (omega (arith, low, e))) | inr same ↦ inl (omega (arith, high, same)) ]
]

small_set : (bits : List ℕ) (at : ℕ) → AreSmall bits → AreSmall (set bits at 1)
small_set bits at small k = elim (same_or at k) [
  | inl same ↦ subst (λ j. get_or (set bits at 1) j 0 ≤ 1) same (own bits at small)
  | inr other ↦ omega (arith, get_or-set_other bits at k 1 0 (λ e. other (sym e)), small k)
]
  where
    own : (bits : List ℕ) (at : ℕ) → AreSmall bits → get_or (set bits at 1) at 0 ≤ 1
    own [] zero small = omega arith
    own [] (suc at) small = omega arith
    own (b ∷ bits) zero small = omega arith
    own (b ∷ bits) (suc at) small = own bits at (λ k. small (suc k))

small_gaps : (start last : ℕ) (bits : List ℕ) (gs : List (ℕ × Gap)) → AreSmall bits → AreSmall (gap_bits start last bits gs)
small_gaps start last bits [] small = small
small_gaps start last bits (g ∷ gs) small = small_gaps start last (with_bit start last bits g.0) gs (by (leb g.0 last))
  where
    by : (b : Bool) → AreSmall (cond b (set bits (start + g.0 - 1) 1) bits)
    by true = small_set bits (start + g.0 - 1) small
    by false = small

small_append : (bits more : List ℕ) → AreSmall bits → AreSmall more → AreSmall (bits ++ more)
small_append [] more small its k = its k
small_append (b ∷ bits) more small its zero = small zero
small_append (b ∷ bits) more small its (suc k) = small_append bits more (λ j. small (suc j)) its k

none_small : (count : ℕ) → AreSmall (replicate count 0)
none_small zero k = omega arith
none_small (suc count) zero = omega arith
none_small (suc count) (suc k) = none_small count k

one_small : AreSmall (1 ∷ [])
one_small zero = omega arith
one_small (suc k) = omega arith

small_fields : (bits : List ℕ) (ms : List FieldMarks) → AreSmall bits → AreSmall (fields_bits bits ms)
small_fields bits [] small = small
small_fields bits (m ∷ ms) small = small_fields (field_bits bits m) ms (small_gaps (length bits) m.last (bits ++ replicate m.last 0) m.gaps (small_append bits (replicate m.last 0) small (none_small m.last)))

small_rows : (bits : List ℕ) (marks : List RowMarks) → AreSmall bits → AreSmall (rows_bits bits marks)
small_rows bits [] small = small
small_rows bits (m ∷ marks) small = small_rows (row_bits bits m.fields) marks (small_fields (bits ++ 1 ∷ []) m.fields (small_append bits (1 ∷ []) small one_small))

-- ---- the least row that has a boundary misplaced

some_wrong : List FieldMarks → Bool
some_wrong [] = false
some_wrong (m ∷ ms) = some_misplaced 0 m.last m.gaps || some_wrong ms

fields_noted : (row least : ℕ) (ms : List FieldMarks) → fields_least row least ms ≡ noted (some_wrong ms) row least
unfolding some_wrong
fields_noted row least [] = refl
fields_noted row least (m ∷ ms) = fields_noted row (noted (some_misplaced 0 m.last m.gaps) row least) ms ∙ noted_both (some_misplaced 0 m.last m.gaps) (some_wrong ms) row least

or_none : (a b : Bool) → (a || b) ≡ false → (a ≡ false) × (b ≡ false)
or_none true b e = absurd cc
or_none false b e = (refl, e)

all_between : (ms : List FieldMarks) → some_wrong ms ≡ false → AllBetween ms
unfolding some_wrong
all_between [] e = tt
all_between (m ∷ ms) e = let both = or_none (some_misplaced 0 m.last m.gaps) (some_wrong ms) e in (between_of 0 m.last m.gaps both.0, all_between ms both.1)

none_wrong : (ms : List FieldMarks) → AllBetween ms → some_wrong ms ≡ false
unfolding some_wrong
none_wrong [] all = refl
none_wrong (m ∷ ms) all = ap (λ b. b || some_wrong ms) (of_between 0 m.last m.gaps all.0) ∙ none_wrong ms all.1

-- a row that is noted
row_cases : (row least : ℕ) → ((row < least) × (with_row least row ≡ row)) ⊎ ((least ≤ row) × (with_row least row ≡ least))
row_cases row least = elim (cases_lt row least) [
  | inl low ↦ inl (low, ap (λ b. cond b row least) (lt-ltb row least low))
  | inr high ↦ inr (high, ap (λ b. cond b row least) (le-ltb row least high))
]

noted_most : (wrong : Bool) (row least : ℕ) → noted wrong row least ≤ least
noted_most true row least = elim (row_cases row least) [ inl low ↦ omega (arith, low.0, low.1) | inr high ↦ omega (arith, high.1) ]
noted_most false row least = omega arith

noted_row : (row least : ℕ) → noted true row least ≤ row
noted_row row least = elim (row_cases row least) [ inl low ↦ omega (arith, low.1) | inr high ↦ omega (arith, high.0, high.1) ]

noted_is : (wrong : Bool) (row least k : ℕ) → noted wrong row least ≡ k → (least ≡ k) ⊎ ((wrong ≡ true) × (row ≡ k))
noted_is true row least k e = elim (row_cases row least) [ inl low ↦ inr (refl, sym low.1 ∙ e) | inr high ↦ inl (sym high.1 ∙ e) ]
noted_is false row least k e = inl e

least_most : (n least : ℕ) (marks : List RowMarks) → rows_least n least marks ≤ least
least_most n least [] = omega arith
least_most n least (m ∷ marks) = omega (arith, least_most (n + 1) (fields_least n least m.fields) marks, fields_noted n least m.fields, noted_most (some_wrong m.fields) n least)

-- a row before these is the least alone where it was
least_before : (n least k : ℕ) (marks : List RowMarks) → k < n → rows_least n least marks ≡ k → least ≡ k
least_before n least k [] low e = e
least_before n least k (m ∷ marks) low e =
    let its : noted (some_wrong m.fields) n least ≡ k = sym (fields_noted n least m.fields) ∙ least_before (n + 1) (fields_least n least m.fields) k marks (omega (arith, low)) e in
    elim (noted_is (some_wrong m.fields) n least k its) [ inl same ↦ same | inr own ↦ absurd (omega (arith, low, own.1)) ]

-- the first of these rows
good_row : (n least : ℕ) (m : RowMarks) (marks : List RowMarks) → n < rows_least n least (m ∷ marks) → some_wrong m.fields ≡ false
good_row n least m marks low = by (some_wrong m.fields) refl
  where
    by : (b : Bool) → some_wrong m.fields ≡ b → b ≡ false
    by true e =
        let here : fields_least n least m.fields ≡ noted true n least = fields_noted n least m.fields ∙ ap (λ w. noted w n least) e in
        absurd (omega (arith, low, least_most (n + 1) (fields_least n least m.fields) marks, here, noted_row n least))
    by false e = refl

bad_row : (n least : ℕ) (m : RowMarks) (marks : List RowMarks) → (least ≡ n → ⊥) → rows_least n least (m ∷ marks) ≡ n → some_wrong m.fields ≡ true
bad_row n least m marks other e =
    let its : noted (some_wrong m.fields) n least ≡ n = sym (fields_noted n least m.fields) ∙ least_before (n + 1) (fields_least n least m.fields) n marks (omega arith) e in
    elim (noted_is (some_wrong m.fields) n least n its) [ inl same ↦ absurd (other same) | inr own ↦ own.0 ]

-- ---- what stands where

fields_marked : (starts : List ℕ) (j : ℕ) (bits final : List ℕ) (least : ℕ) (ms : List FieldMarks) → FieldsStand starts j bits ms → FieldsTake final bits ms → FieldsMarked starts j (final, least) ms
fields_marked starts j bits final least [] stand take = tt
fields_marked starts j bits final least (m ∷ ms) stand take = (
  record {
    end = second starts (j + 1) (field_bits bits m) ms stand.1 ∙ field_bits_long bits m ∙ ap (λ n. n + m.last) (sym stand.0);
    each = λ p some low. ap (λ n. get_or final (n + p - 1) 0) stand.0 ∙ take.0 p some low;
  },
  fields_marked starts (j + 1) (field_bits bits m) final least ms stand.1 take.1,
)

rows_marked : (starts : List ℕ) (width n : ℕ) (bits final : List ℕ) (before : ℕ) (marks : List RowMarks) → HaveWidth width marks → RowsStand starts width n bits marks → RowsTake final bits marks → ((r : ℕ) → n ≤ r → r < n + length marks → before ≡ r → ⊥)
    → (least : ℕ) → least ≡ rows_least n before marks → RowsMarked starts width (final, least) n marks
rows_marked starts width n bits final before [] wide stand take other least e = tt
rows_marked starts width n bits final before (m ∷ marks) wide stand take other least e = (
  record {
    wide = wide.0;
    own = ap (λ k. get_or final k 0) stand.0 ∙ take.0;
    begin = second starts (n * width + 1) (bits ++ 1 ∷ []) m.fields stand.1 ∙ length-append bits (1 ∷ []) ∙ ap (λ k. k + 1) (sym stand.0);
    fields = fields_marked starts (n * width + 1) (bits ++ 1 ∷ []) final least m.fields stand.1 take.1;
    good = λ low. all_between m.fields (good_row n before m marks (omega (arith, low, e)));
    bad = λ same all.
        let wrong : some_wrong m.fields ≡ true = bad_row n before m marks (other n (omega arith) (omega arith)) (sym e ∙ same) in
        let right : some_wrong m.fields ≡ false = none_wrong m.fields all in
        absurd cc;
  },
  rows_marked starts width (n + 1) (row_bits bits m.fields) final (fields_least n before m.fields) marks wide.1 stand.2 take.2
      (λ r low high same. elim (noted_is (some_wrong m.fields) n before r (sym (fields_noted n before m.fields) ∙ same)) [
        | inl earlier ↦ other r (omega (arith, low)) (omega (arith, high)) earlier
        | inr own ↦ absurd (omega (arith, low, own.1))
      ]) least e,
)

from_zero : (marks : List RowMarks) → get_or (rows_starts [] marks) 0 0 ≡ 0
from_zero [] = refl
from_zero (m ∷ marks) = refl

nothing_small : AreSmall []
nothing_small zero = omega arith
nothing_small (suc k) = omega arith

-- what all marks leave, where no row was noted before
pub marked : (width least : ℕ) (marks : List RowMarks) → 1 ≤ width → HaveWidth width marks → RowsFit marks → length marks ≤ least → AreMarked (rows_starts [] marks) width (rows_bits [] marks, rows_least 0 least marks) marks
marked width least marks some wide fit many =
    let starts = rows_starts [] marks in
    let final = rows_bits [] marks in
    record {
      laid = laid width marks some wide;
      from = from_zero marks;
      bits = small_rows [] marks nothing_small;
      rows = rows_marked starts width 0 [] final least marks wide (rows_stand starts [] width 0 [] marks wide refl (omega arith)) (rows_take final [] marks fit (λ k low. refl)) (λ r low high same. absurd (omega (arith, high, same, many))) (rows_least 0 least marks) refl;
    }

-- the marks of rows of a schema have fields enough, which fit
pub marks_wide : (schema : Schema) (image : List ℕ) (before : ℕ × ℕ) (marks : List RowMarks) → AllFit and_marks (AreTold schema image) before marks → HaveWidth (length schema.fields + 1) marks
marks_wide schema image before [] fit = tt
marks_wide schema image before (m ∷ marks) fit = (ap (λ n. n + 1) fit.0.fits.many, marks_wide schema image (and_marks before m) marks fit.1)

pub marks_fit : (schema : Schema) (image : List ℕ) (before : ℕ × ℕ) (marks : List RowMarks) → AllFit and_marks (AreTold schema image) before marks → RowsFit marks
marks_fit schema image before [] fit = tt
marks_fit schema image before (m ∷ marks) fit = (fit.0.fits.fields_fit, marks_fit schema image (and_marks before m) marks fit.1)

pub all_short : (marks : List RowMarks) → RowsFit marks → AllShort marks
all_short [] fit = tt
all_short (m ∷ marks) fit = (fields_short m.fields fit.0, all_short marks fit.1)
  where
    fields_short : (ms : List FieldMarks) → AllByRecursion AreFieldMarks ms → AllByRecursion (λ (f : FieldMarks). f.last ≤ MAX_POSITION) ms
    fields_short [] fit = tt
    fields_short (f ∷ fs) fit = (fit.0.short, fields_short fs fit.1)
