-- Marks that cover a row: where its boundaries lie, who has its positions, and its spans.
use Rattle.std.proofs.Common.{◌≡◌, ℕ, zero, suc, ◌+◌, ◌*◌, ◌<◌, ◌≤◌, Bool, true, false, eqb, leb, not, eq-eqb, ◌||◌, ◌&&◌, List, [], ◌∷◌, length, get_or, map, Option, Some, refl, ◌∙◌, arith, inl, inr, ◌⊎◌}
use Rattle.std.specs.List.{AllByRecursion}
use Rattle.std.proofs.lemmas.Bool.{cases_lt, leb-true, le-leb}
use Rattle.std.proofs.lemmas.List.Folds.{list_any-append}
use Rattle.doc_types.specs.declared.tokens.Gap.{Gap}
use Rattle.doc_types.specs.declared.tokens.Gap.TheVariants as kinds
use Rattle.doc_types.specs.declared.tokens.TheConstants.{MAX_POSITION}
use Rattle.byte_fields.specs.Fields.{AllFrom}
use Rattle.doc_bytes.specs.Reading.{FieldSpan, words_in}
use Rattle.doc_bytes.specs.Reading.{is_taken as stands_in}
use Rattle.doc_bytes.proofs.Spans.{SpanFits}
use Rattle.posting_codec.specs.HitLists.{key}
use Rattle.chunk_damage.specs.RowMarks.{AreFieldMarks, FieldMarks, IsGapBehind, IsSpanIn, empty_field, has_word_at, is_taken}
use Rattle.chunk_damage.specs.Cover.{AreBetween, AreCovered, LiesIn, has_key}
use Rattle.chunk_damage.specs.WordLists.{Entry}
use Rattle.image_rows.specs.steps.Between.{AreLaid, from_on}
use Rattle.image_rows.specs.steps.Owned.{AllIn, AreOwned, AreWellPlaced, all_places, row_words}
use Rattle.image_rows.proofs.Fields.{stands_between}
use Rattle.image_rows.proofs.Rowing.{lower}

-- ---- boundaries, and who has a position

pub laid : (low high before : ℕ) (gaps : List (ℕ × Gap)) → AreBetween low high gaps → AllFrom IsGapBehind (λ gap. gap.0) before gaps → AreLaid low high gaps
laid low high before [] between ascend = tt
laid low high before (g ∷ gs) between ascend = (between.0, between.1, ascend.0.kind, laid (g.0 + 2) high g.0 gs between.2 ascend.1)

pub owned : (lists : List (List Entry)) (row n : ℕ) (ms : List FieldMarks) → AllByRecursion AreFieldMarks ms → AreCovered lists row n ms → AreOwned lists row n ms
owned lists row n [] marks cover = tt
owned lists row n (m ∷ ms) marks cover =
    (record { placed = record { short = marks.0.short; between = laid 2 m.last 0 m.gaps cover.0.between marks.0.ascend }; each = cover.0.each }, owned lists row (n + 1) ms marks.1 cover.1)

-- ---- hits lie at positions

either : (a b : Bool) → (a ≡ true) ⊎ (b ≡ true) → (a || b) ≡ true
either true b e = refl
either false true e = refl
either false false (inl e) = e
either false false (inr e) = e

in_field : (n c p : ℕ) (h : ℕ × ℕ) → h.0 ≡ n → p ≤ h.1 → h.1 < p + c → has_key (map (λ q. (n, q)) (from_on c p)) (key h) ≡ true
in_field n zero p h e low high = absurd (omega (arith, low, high))
in_field n (suc c) p h e low high =
    elim (cases_lt p h.1) [
      | inl later ↦ either (eqb (n * 65536 + p) (key h)) (has_key (map (λ q. (n, q)) (from_on c (p + 1))) (key h)) (inr (in_field n c (p + 1) h e (omega (arith, later)) (omega (arith, high))))
      | inr here ↦ either (eqb (n * 65536 + p) (key h)) (has_key (map (λ q. (n, q)) (from_on c (p + 1))) (key h)) (inl (eq-eqb (n * 65536 + p) (key h) (omega (arith, e, low, here))))
    ]

has_place : (n k : ℕ) (ms : List FieldMarks) (h : ℕ × ℕ) → h.0 ≡ n + k → k < length ms → 1 ≤ h.1 → h.1 ≤ (get_or ms k empty_field).last
    → has_key (all_places n ms) (key h) ≡ true
has_place n k [] h e low one up = absurd (omega (arith, low))
has_place n zero (m ∷ ms) h e low one up =
    list_any-append (λ (x : ℕ × ℕ). eqb (key x) (key h)) (map (λ p. (n, p)) (from_on m.last 1)) (all_places (n + 1) ms)
    ∙ either (has_key (map (λ p. (n, p)) (from_on m.last 1)) (key h)) (has_key (all_places (n + 1) ms) (key h)) (inl (in_field n m.last 1 h (omega (arith, e)) one (omega (arith, up))))
has_place n (suc k) (m ∷ ms) h e low one up =
    list_any-append (λ (x : ℕ × ℕ). eqb (key x) (key h)) (map (λ p. (n, p)) (from_on m.last 1)) (all_places (n + 1) ms)
    ∙ either (has_key (map (λ p. (n, p)) (from_on m.last 1)) (key h)) (has_key (all_places (n + 1) ms) (key h)) (inr (has_place (n + 1) k ms h (omega (arith, e)) (omega (arith, low)) one up))

all_in : (ms : List FieldMarks) (hits : List (ℕ × ℕ)) → AllByRecursion (LiesIn ms) hits → AllIn (all_places 0 ms) hits
all_in ms [] lie = tt
all_in ms (h ∷ hs) lie = (has_place 0 h.0 ms h (omega arith) lie.0.field lie.0.from_one lie.0.within, all_in ms hs lie.1)

pub all_within : (ms : List FieldMarks) (hits : List Entry → List (ℕ × ℕ)) (lists : List (List Entry))
    → AllByRecursion (λ list. AllByRecursion (LiesIn ms) (hits list)) lists → AllByRecursion (λ list. AllIn (all_places 0 ms) (hits list)) lists
all_within ms hits [] lie = tt
all_within ms hits (l ∷ ls) lie = (all_in ms (hits l) lie.0, all_within ms hits ls lie.1)

-- ---- spans

both : (a b : Bool) → (a && b) ≡ true → (a ≡ true) × (b ≡ true)
both true b e = (refl, e)
both false b e = absurd cc

not_true : (b : Bool) → not b ≡ true → b ≡ false
not_true true e = absurd cc
not_true false e = refl

-- what is said of a position at which a word stands
pub record StandsAt (m : FieldMarks) (p : ℕ) : Type 0 where
  pub from_one : 1 ≤ p
  pub within : p ≤ m.last
  pub free : is_taken m.gaps p ≡ false

stands_at : (ms : List FieldMarks) (k p : ℕ) → has_word_at ms k p ≡ true → StandsAt (get_or ms k empty_field) p
stands_at ms k p e =
    let first = both (leb 1 p) (leb p (get_or ms k empty_field).last && not (is_taken (get_or ms k empty_field).gaps p)) e in
    let second = both (leb p (get_or ms k empty_field).last) (not (is_taken (get_or ms k empty_field).gaps p)) first.1 in
    record { from_one = leb-true 1 p first.0; within = leb-true p (get_or ms k empty_field).last second.0; free = not_true (is_taken (get_or ms k empty_field).gaps p) second.1 }

short_at : (k : ℕ) (ms : List FieldMarks) → AllByRecursion AreWellPlaced ms → (get_or ms k empty_field).last ≤ MAX_POSITION
short_at k [] placed = omega arith
short_at zero (m ∷ ms) placed = placed.0.short
short_at (suc k) (m ∷ ms) placed = short_at k ms placed.1

stand : (word : ℕ → List ℕ) (n k p : ℕ) (ms : List FieldMarks) → AllByRecursion AreWellPlaced ms → StandsAt (get_or ms k empty_field) p
    → stands_in (words_in (row_words word n ms) k) p ≡ true
stand word n k p [] placed is = absurd (omega (arith, is.from_one, is.within))
stand word n zero p (m ∷ ms) placed is = stands_between (λ q. word (n * 65536 + q)) m.last 1 m.last p kinds.None m.gaps (omega arith) (lower m.last m.gaps placed.0.between) is.from_one is.within is.free
stand word n (suc k) p (m ∷ ms) placed is = stand word (n + 1) k p ms placed.1 is

all_three : (a b c d : Bool) → a ≡ true → b ≡ true → c ≡ true → d ≡ true → ((a && (b && c)) && d) ≡ true
all_three a b c d ea eb ec ed = rw (ea, eb, ec, ed) refl

-- a span of marks that are well placed is one of the words between
span_fits : (word : ℕ → List ℕ) (ms : List FieldMarks) (before : Option FieldSpan) (span : FieldSpan) → length ms ≤ 32 → AllByRecursion AreWellPlaced ms
    → IsSpanIn ms before span → SpanFits (row_words word 0 ms) before span
span_fits word ms before span few placed is =
    let first = stands_at ms span.0 span.1.first is.begins in
    let last = stands_at ms span.0 span.1.last is.ends in
    let short = short_at span.0 ms placed in (
      record { field = omega (arith, is.field, few); zone = is.zone; first = omega (arith, first.within, short); last = omega (arith, last.within, short) },
      all_three (stands_in (words_in (row_words word 0 ms) span.0) span.1.first) (stands_in (words_in (row_words word 0 ms) span.0) span.1.last) (leb span.1.first span.1.last) _
          (stand word 0 span.0 span.1.first ms placed first) (stand word 0 span.0 span.1.last ms placed last) (le-leb span.1.first span.1.last is.order) is.behind,
    )

pub spans_fit : (word : ℕ → List ℕ) (ms : List FieldMarks) (before : Option FieldSpan) (spans : List FieldSpan) → length ms ≤ 32 → AllByRecursion AreWellPlaced ms
    → AllFrom (IsSpanIn ms) Some before spans → AllFrom (SpanFits (row_words word 0 ms)) Some before spans
spans_fit word ms before [] few placed fit = tt
spans_fit word ms before (span ∷ spans) few placed fit = (span_fits word ms before span few placed fit.0, spans_fit word ms (Some span) spans few placed fit.1)
