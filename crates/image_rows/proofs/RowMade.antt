-- A row made of its parts is a row of the schema, and has these parts.
use Rattle.std.proofs.Common.{◌≡◌, ℕ, zero, suc, ◌+◌, ◌-◌, ◌*◌, ◌<◌, ◌≤◌, ◌^◌, Bool, true, false, cond, eqb, List, [], ◌∷◌, ◌++◌, None, length, map, All, refl, sym, ap, subst, ◌∙◌, arith}
use Rattle.std.specs.List.{AllByRecursion, filter, flat_map, slice_get}
use Rattle.std.specs.Option.{option_map_or}
use Rattle.std.proofs.lemmas.List.Elements.{All-cons, All-from_recursion}
use Rattle.doc_types.specs.declared.tokens.Gap.{Gap}
use Rattle.doc_types.specs.declared.tokens.Gap.TheVariants as kinds
use Rattle.doc_types.specs.declared.tokens.FieldTokens.{FieldTokens}
use Rattle.doc_types.specs.declared.tokens.TokenWord.{TokenWord}
use Rattle.doc_types.specs.declared.tokens.ZoneSpan.{ZoneSpan}
use Rattle.doc_types.specs.declared.tokens.TheConstants.{MAX_POSITION}
use Rattle.doc_types.specs.Documents.{BeginPlain, IsField, IsWord}
use Rattle.doc_types.specs.Chunks.{gaps_of, is_boundary, last_position, spans_of}
use Rattle.doc_types.proofs.FieldParts.{parts}
use Rattle.doc_types.specs.declared.documents.DocRow.{DocRow}
use Rattle.doc_bytes.specs.Payload.{span_count}
use Rattle.doc_bytes.specs.Reading.{FieldSpan, later_spans, own_spans, with_spans}
use Rattle.doc_bytes.proofs.SpanFields.{are_fields, between}
use Rattle.doc_bytes.proofs.SpanForms.{Between, as_many, in_a_row, tagged, tagged_count}
use Rattle.doc_bytes.proofs.WordForms.{from_placed}
use Rattle.doc_bytes.proofs.Words.{AreWords}
use Rattle.posting_codec.specs.Numbers.{number}
use Rattle.chunk_image.specs.Marks.{row_marks, span_numbers}
use Rattle.chunk_image.specs.Marks.{field_numbers as tokens_numbers}
use Rattle.chunk_damage.specs.WordLists.{Entry}
use Rattle.chunk_damage.specs.RowMarks.{FieldMarks, RowMarks, field_numbers, is_taken, mark_bytes}
use Rattle.chunk_damage.specs.Cover.{owners}
use Rattle.image_rows.specs.steps.Between.{AreLaid, token, words_between}
use Rattle.image_rows.specs.steps.Owned.{AreOwned, AreWellPlaced, row_words, word_at}
use Rattle.image_rows.specs.steps.Contents.{RowColumns, row_made}
use Rattle.image_rows.specs.steps.ContentsOf.{AllDiffer, IsGoodRow}
use Rattle.image_rows.proofs.Fields.{follow_between, last_between, last_of, marks_between, placed_between}
use Rattle.image_rows.proofs.Filters.{differ}
use Rattle.image_rows.proofs.Rowing.{lower, of_word, one_free, well_placed}

-- ---- the last position

last_is : (t : TokenWord) (ts : List TokenWord) → option_map_or (λ (u : TokenWord). u.position) (slice_get (t ∷ ts) (length ts)) 0 ≡ last_of t.position ts
last_is t [] = refl
last_is t (u ∷ ts) = last_is u ts

one_less : (n : ℕ) → suc n - 1 ≡ n
one_less n = omega arith

pub last_position-last_of : (ts : List TokenWord) (spans : List ZoneSpan) → last_position (record { words = ts; spans = spans }) ≡ last_of 0 ts
last_position-last_of [] spans = refl
last_position-last_of (t ∷ ts) spans = ap (λ n. option_map_or (λ (u : TokenWord). u.position) (slice_get (t ∷ ts) n) 0) (one_less (length ts)) ∙ last_is t ts

-- ---- a field

module _ (word : ℕ → List ℕ) (m : FieldMarks) (placed : AreWellPlaced m) where
  abbrev its_words : List TokenWord
  its_words = words_between word m.last 1 kinds.None m.gaps

  its_gaps : map (λ (t : TokenWord). (t.position - 1, t.gap)) (filter (λ (t : TokenWord). is_boundary t.gap) its_words) ≡ m.gaps
  its_gaps = marks_between word m.last 1 m.last kinds.None m.gaps (omega arith) (λ e. absurd cc) (lower m.last m.gaps placed.between)

  its_last : (last : ℕ) → m.last ≡ last → last_of 0 (words_between word last 1 kinds.None m.gaps) ≡ last
  its_last zero e = refl
  its_last (suc n) e = last_between word (suc n) 1 (suc n) 0 kinds.None m.gaps (omega arith) (omega arith) (subst (λ k. AreLaid 1 k m.gaps) e (lower m.last m.gaps placed.between))

  begins : (n high : ℕ) (gs : List (ℕ × Gap)) → AreLaid 2 high gs → BeginPlain (words_between word n 1 kinds.None gs)
  begins zero high gs fit = tt
  begins (suc n) high [] fit = refl
  begins (suc n) high (g ∷ gs) fit = subst (λ b. BeginPlain (cond b (words_between word n 2 g.1 gs) (token word 1 kinds.None ∷ words_between word n 2 kinds.None (g ∷ gs)))) (sym (differ g.0 1 (omega (arith, fit.0)))) refl

  pub words_short : (n position : ℕ) (before : Gap) (gs : List (ℕ × Gap)) → length (words_between word n position before gs) ≤ n
  words_short zero position before gs = omega arith
  words_short (suc n) position before [] = omega (arith, words_short n (position + 1) kinds.None [])
  words_short (suc n) position before (g ∷ gs) = by (words_short n (position + 1) g.1 gs) (words_short n (position + 1) kinds.None (g ∷ gs)) (eqb g.0 position)
    where
      by : length (words_between word n (position + 1) g.1 gs) ≤ n → length (words_between word n (position + 1) kinds.None (g ∷ gs)) ≤ n → (b : Bool)
          → length (cond b (words_between word n (position + 1) g.1 gs) (token word position before ∷ words_between word n (position + 1) kinds.None (g ∷ gs))) ≤ suc n
      by took kept true = omega (arith, took)
      by took kept false = omega (arith, kept)

  -- where each word is one, they are words of a field
  are_words : ((p : ℕ) → 1 ≤ p → p ≤ m.last → is_taken m.gaps p ≡ false → IsWord (word p)) → AreWords its_words
  are_words each = (
    omega (arith, words_short m.last 1 kinds.None m.gaps, placed.short),
    from_placed 0 its_words (record {
      each = All-from_recursion (λ (t : TokenWord). IsWord t.word) its_words (placed_between (λ (t : TokenWord). IsWord t.word) word m.last 1 m.last kinds.None m.gaps [] (omega arith) (lower m.last m.gaps placed.between) (λ at gap low up free. each at low up free));
      follow = follow_between word m.last 1 m.last 0 kinds.None m.gaps (omega arith) refl (lower m.last m.gaps placed.between);
      within = All-from_recursion (λ (t : TokenWord). t.position ≤ MAX_POSITION) its_words (placed_between (λ (t : TokenWord). t.position ≤ MAX_POSITION) word m.last 1 m.last kinds.None m.gaps [] (omega arith) (lower m.last m.gaps placed.between) (λ at gap low up free. omega (arith, up, placed.short)));
      begin = λ e. begins m.last m.last m.gaps placed.between;
    }),
  )

-- the marks of a field made so are these
tokens_same : (word : ℕ → List ℕ) (m : FieldMarks) (placed : AreWellPlaced m) (spans : List ZoneSpan) → tokens_numbers (record { words = words_between word m.last 1 kinds.None m.gaps; spans = spans }) ≡ field_numbers m
tokens_same word m placed spans =
    let last : last_position (record { words = words_between word m.last 1 kinds.None m.gaps; spans = spans }) ≡ m.last = last_position-last_of (words_between word m.last 1 kinds.None m.gaps) spans
    ∙ its_last word m placed m.last refl in
    let gaps : gaps_of (record { words = words_between word m.last 1 kinds.None m.gaps; spans = spans }) ≡ m.gaps = its_gaps word m placed in
    cc

fields_same : (word : ℕ → List ℕ) (n : ℕ) (ms : List FieldMarks) (spans : List FieldSpan) → AllByRecursion AreWellPlaced ms
    → flat_map tokens_numbers (with_spans n (row_words word n ms) spans) ≡ flat_map field_numbers ms
fields_same word n [] spans placed = refl
fields_same word n (m ∷ ms) spans placed =
    let rest = fields_same word (n + 1) ms (later_spans n spans) placed.1 in
    let here = tokens_same (λ p. word (n * 65536 + p)) m placed.0 (map (λ (span : FieldSpan). span.1) (own_spans n spans)) in
    ap (λ l. l ++ flat_map tokens_numbers (with_spans (n + 1) (row_words word (n + 1) ms) (later_spans n spans))) here ∙ ap (λ l. field_numbers m ++ l) rest

-- ---- a row

from_none : (k : ℕ) → k ≡ 0 + k
from_none k = omega arith

tagged_parts : (n : ℕ) (fields : List FieldTokens) → parts n (λ (f : FieldTokens). f.spans) fields ≡ tagged n fields
tagged_parts n [] = refl
tagged_parts n (f ∷ fs) = ap (λ l. map (λ x. (n, x)) f.spans ++ l) (tagged_parts (n + 1) fs)

words_many : (word : ℕ → List ℕ) (n : ℕ) (ms : List FieldMarks) → length (row_words word n ms) ≡ length ms
words_many word n [] = refl
words_many word n (m ∷ ms) = ap suc (words_many word (n + 1) ms)

all_words : (words : List (List ℕ)) (lists : List (List Entry)) (row n : ℕ) (ms : List FieldMarks) → length words ≡ length lists → AllByRecursion IsWord words
    → AreOwned lists row n ms → All AreWords (row_words (word_at words lists row) n ms)
all_words words lists row n [] long are cover = λ i d h. absurd (omega arith)
all_words words lists row n (m ∷ ms) long are cover =
    let each : (p : ℕ) → 1 ≤ p → p ≤ m.last → is_taken m.gaps p ≡ false → IsWord (word_at words lists row (n * 65536 + p)) =
    λ p low up free. of_word IsWord row (n * 65536 + p) words lists long are (omega (arith, one_free (is_taken m.gaps p) (owners lists row (n * 65536 + p)) (cover.0.each p low up) free)) in
    All-cons AreWords (words_between (λ p. word_at words lists row (n * 65536 + p)) m.last 1 kinds.None m.gaps) (row_words (word_at words lists row) (n + 1) ms)
    (are_words (λ p. word_at words lists row (n * 65536 + p)) m cover.0.placed each)
    (all_words words lists row (n + 1) ms long are cover.1)

module _ (fields : ℕ) (words : List (List ℕ)) (lists : List (List Entry)) (n : ℕ) (columns : RowColumns) (m : RowMarks) (few : fields ≤ 32) (long : length words ≡ length lists) (are : AllByRecursion IsWord words) (apart : AllDiffer words) (good : IsGoodRow fields words lists n m) where
  abbrev row : DocRow
  row = row_made words lists n columns m

  abbrev its : List (List TokenWord)
  its = row_words (word_at words lists n) 0 m.fields

  pub tokens : All IsField row.doc.fields
  tokens = are_fields its 0 its None m.spans refl (all_words words lists n 0 m.fields long are good.covered) good.spans

  pub field_count : length row.doc.fields ≡ fields
  field_count = as_many 0 its m.spans ∙ words_many (word_at words lists n) 0 m.fields ∙ good.many

  its_spans : tagged 0 row.doc.fields ≡ m.spans
  its_spans = in_a_row 0 its m.spans (subst (λ (k : ℕ). Between k 0 m.spans) (from_none (length its)) (between its m.spans good.spans))

  pub spans_same : spans_of row ≡ m.spans
  spans_same = tagged_parts 0 row.doc.fields ∙ its_spans

  pub span_total : span_count row.doc.fields < 2 ^ 32
  span_total = omega (arith, tagged_count 0 row.doc.fields, ap length its_spans, good.few_spans)

  pub marks_same : row_marks row ≡ mark_bytes m
  unfolding row_marks mark_bytes
  marks_same = ap (flat_map number) (
      ap (λ l. l ++ length (spans_of row) ∷ flat_map span_numbers (spans_of row)) (fields_same (word_at words lists n) 0 m.fields m.spans (well_placed lists n 0 m.fields good.covered))
      ∙ ap (λ l. flat_map field_numbers m.fields ++ length l ∷ flat_map span_numbers l) spans_same
      )
