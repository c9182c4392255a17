-- The marks of rows of a schema are marks as they may be, and are spelled as those of the rows are.
use Rattle.std.proofs.Common.{◌≡◌, ℕ, zero, suc, ◌+◌, ◌<◌, ◌≤◌, ◌^◌, Bool, true, false, leb, ◌&&◌, List, [], ◌∷◌, ◌++◌, Option, None, Some, map, length, get_or, refl, sym, ap, subst, ◌∙◌, arith, All}
use Rattle.std.specs.Prelude.{not}
use Rattle.std.specs.List.{AllByRecursion, flat_map}
use Rattle.std.proofs.lemmas.Bool.{and_parts}
use Rattle.std.proofs.lemmas.Bool.Decides.{nat_tests}
use Rattle.std.proofs.lemmas.List.{length-map}
use Rattle.doc_types.specs.declared.documents.DocRow.{DocRow}
use Rattle.doc_types.specs.declared.schema.Schema.{Schema}
use Rattle.doc_types.specs.declared.tokens.FieldTokens.{FieldTokens}
use Rattle.doc_types.specs.declared.tokens.ZoneSpan.{ZoneSpan}
use Rattle.doc_types.specs.Documents.{IsDocOf, IsField}
use Rattle.doc_types.specs.Schemas.{IsSchema}
use Rattle.doc_types.specs.Chunks.{gaps_of, last_position, spans_of}
use Rattle.doc_types.proofs.FieldParts.{parts}
use Rattle.doc_types.proofs.Numbers.{All-tail, few_words}
use Rattle.byte_fields.specs.Fields.{AllFrom}
use Rattle.doc_bytes.specs.Reading.{FieldSpan, is_behind, is_over, words_in}
use Rattle.doc_bytes.proofs.SpanFields.{fields_fit}
use Rattle.doc_bytes.proofs.SpanForms.{only_words, tagged, tagged_count}
use Rattle.doc_bytes.proofs.Spans.{SpanFits}
use Rattle.posting_codec.specs.Numbers.{number}
use Rattle.chunk_image.specs.Marks.{field_numbers as tokens_numbers, row_marks, span_numbers}
use Rattle.chunk_damage.specs.RowMarks.{AreFieldMarks, AreMarksOf, FieldMarks, IsSpanIn, field_numbers, has_word_at, is_taken, mark_bytes}
use Rattle.damage_laws.proofs.FieldOwners.{last_position-last_of, last_short, marks_ascend, marks_few, one, one_owner, stands_at, stands_within}
use Rattle.damage_laws.proofs.RowOwners.{marks_of, row_marks_of}

-- ---- fields

fields_fit_marks : (fields : List FieldTokens) → All IsField fields → AllByRecursion AreFieldMarks (map marks_of fields)
fields_fit_marks [] are = tt
fields_fit_marks (f ∷ fs) are =
    let is = are zero f (omega arith) in (
      record {
        short = last_short f is;
        few = omega (arith, marks_few f.words, few_words f is);
        ascend = marks_ascend 0 0 f.words (omega arith) is.placed.follow is.within;
      },
      fields_fit_marks fs (All-tail IsField f fs are),
    )

-- ---- spans

both : (a b : Bool) → a ≡ true → b ≡ true → (a && b) ≡ true
both a b first second = rw (first, second) refl

up_to : (a b : ℕ) → a ≤ b → leb a b ≡ true
up_to a b h = grind (arith, nat_tests)

is_up_to : (a b : ℕ) → leb a b ≡ true → a ≤ b
is_up_to a b e = grind (arith, nat_tests)

-- where a word stands, no boundary takes the position
free : (f : FieldTokens) (p : ℕ) → IsField f → stands_at p f.words ≡ true → is_taken (gaps_of f) p ≡ false
free f p is e =
    let inside = stands_within 0 p f.words is.placed.follow e in
    let own : one (is_taken (gaps_of f) p) + one (stands_at p f.words) ≡ 1 = one_owner 0 p f.words is.placed.follow inside.0 inside.1 in
    none (is_taken (gaps_of f) p) (omega (arith, own, ap one e))
  where
    none : (b : Bool) → one b ≡ 0 → b ≡ false
    none true e = absurd (omega (arith, e))
    none false e = refl

word_there : (fields : List FieldTokens) (n p : ℕ) → All IsField fields → stands_at p (get_or (only_words fields) n []) ≡ true → (n < length (map marks_of fields)) × (has_word_at (map marks_of fields) n p ≡ true)
word_there [] n p are e = absurd (let no_word : false ≡ true = e in cc)
word_there (f ∷ fs) zero p are e =
    let is = are zero f (omega arith) in
    let inside = stands_within 0 p f.words is.placed.follow e in (
      omega arith,
      both (leb 1 p) (leb p (last_position f) && not (is_taken (gaps_of f) p)) (up_to 1 p inside.0)
          (both (leb p (last_position f)) (not (is_taken (gaps_of f) p)) (up_to p (last_position f) (omega (arith, inside.1, last_position-last_of f))) (ap not (free f p is e))),
    )
word_there (f ∷ fs) (suc n) p are e =
    let rest = word_there fs n p (All-tail IsField f fs are) e in
    (omega (arith, rest.0), rest.1)

span_in : (fields : List FieldTokens) (before : Option FieldSpan) (span : FieldSpan) → All IsField fields → SpanFits (only_words fields) before span → IsSpanIn (map marks_of fields) before span
span_in fields before span are fits =
    let words = words_in (only_words fields) span.0 in
    let over = and_parts (is_over words span.1) (is_behind before span) fits.1 in
    let begins = and_parts (stands_at span.1.first words) (stands_at span.1.last words && leb span.1.first span.1.last) over.0 in
    let ends = and_parts (stands_at span.1.last words) (leb span.1.first span.1.last) begins.1 in
    let first = word_there fields span.0 span.1.first are begins.0 in
    record { field = first.0; zone = fits.0.zone; order = is_up_to span.1.first span.1.last ends.1; begins = first.1; ends = (word_there fields span.0 span.1.last are ends.0).1; behind = over.1 }

spans_in : (fields : List FieldTokens) (before : Option FieldSpan) (spans : List FieldSpan) → All IsField fields → AllFrom (SpanFits (only_words fields)) Some before spans → AllFrom (IsSpanIn (map marks_of fields)) Some before spans
spans_in fields before [] are fits = tt
spans_in fields before (span ∷ spans) are fits = (span_in fields before span are fits.0, spans_in fields (Some span) spans are fits.1)

tagged_parts : (n : ℕ) (fields : List FieldTokens) → parts n (λ (f : FieldTokens). f.spans) fields ≡ tagged n fields
tagged_parts n [] = refl
tagged_parts n (f ∷ fs) = ap (λ l. map (λ x. (n, x)) f.spans ++ l) (tagged_parts (n + 1) fs)

-- ---- a row

pub are_marks : (schema : Schema) (row : DocRow) → IsSchema schema → IsDocOf schema row.doc → All (λ (tokens : FieldTokens). All (λ (span : ZoneSpan). span.zone < 2 ^ 16) tokens.spans) row.doc.fields → AreMarksOf (length schema.fields) (row_marks_of row)
are_marks schema row limits is zones =
    let fields = row.doc.fields in
    let spans : spans_of row ≡ tagged 0 fields = tagged_parts 0 fields in
    let count : length (spans_of row) ≡ length (tagged 0 fields) = ap length spans in
    let fit : AllFrom (SpanFits (only_words fields)) Some None (tagged 0 fields) = fields_fit (only_words fields) 0 fields None refl (omega (arith, is.fields, limits.few_fields)) is.tokens zones tt in
    record {
      many = length-map {B = FieldMarks} fields marks_of ∙ is.fields;
      fields_fit = fields_fit_marks fields is.tokens;
      few = omega (arith, count, tagged_count 0 fields, is.few_spans);
      spans_fit = subst (AllFrom (IsSpanIn (map marks_of fields)) Some None) (sym spans) (spans_in fields None (tagged 0 fields) is.tokens fit);
    }

-- ---- their bytes

same_numbers : (fields : List FieldTokens) → flat_map field_numbers (map marks_of fields) ≡ flat_map tokens_numbers fields
same_numbers [] = refl
same_numbers (f ∷ fs) = ap (λ l. tokens_numbers f ++ l) (same_numbers fs)

pub same_bytes : (row : DocRow) → mark_bytes (row_marks_of row) ≡ row_marks row
unfolding mark_bytes row_marks
same_bytes row = ap (λ (l : List ℕ). flat_map number (l ++ length (spans_of row) ∷ flat_map span_numbers (spans_of row))) (same_numbers row.doc.fields)
