-- Values and documents: what is read of them is what was written, and the other way round.
use Rattle.std.proofs.Common.{◌≡◌, ℕ, ◌+◌, ◌^◌, ◌<◌, All, List, ◌++◌, length, get_or, None, Some, Result, Ok, refl, sym, ap, subst, ◌∙◌, arith, append_assoc}
use Rattle.std.specs.List.{flat_map}
use Rattle.std.specs.Int.{w32, w64, cast_signed, cast_unsigned, to_le_bytes}
use Rattle.std.proofs.Math.Facts.{Fits-of_z, sfits_to_z}
use Rattle.std.proofs.lemmas.Int.{of_z-to_z, to_z-of_z}
use Rattle.std.proofs.lemmas.List.{length-map}
use Rattle.doc_types.specs.Documents.{IsDocOf}
use Rattle.doc_types.specs.Schemas.{IsSchema}
use Rattle.doc_types.specs.declared.documents.Doc.{Doc}
use Rattle.doc_types.specs.declared.schema.Schema.{Schema}
use Rattle.doc_types.specs.declared.schema.Value.{Value}
use Rattle.doc_types.specs.declared.schema.Value.TheVariants as values
use Rattle.doc_types.specs.declared.tokens.FieldTokens.{FieldTokens}
use Rattle.doc_types.specs.declared.tokens.TokenWord.{TokenWord}
use Rattle.byte_fields.specs.Fields.{◌>>=◌, each, many, number_at}
use Rattle.byte_fields.proofs.Taking.{Inverse, IsBytes, Takes, Takes-then, bind_ok, inverse64, ok_is}
use Rattle.byte_fields.proofs.Rows.{each_inverse}
use Rattle.doc_bytes.specs.Payload.{all_spans_bytes, doc_bytes, field_bytes, value_bytes}
use Rattle.doc_bytes.specs.Reading.{doc_at, field_at, span_at, spans_at, value_at, with_spans}
use Rattle.doc_bytes.specs.RoundTrip.{DocNumbers, IsNumber}
use Rattle.doc_bytes.proofs.SpanFields.{are_fields, between, fields_fit, words_fit}
use Rattle.doc_bytes.proofs.SpanForms.{Between, as_many, as_were, in_a_row, only_words, only_words_spelled, spans_spelled, tagged, tagged_count, words_spelled}
use Rattle.doc_bytes.proofs.Spans.{counted_bytes, spans_inverse}
use Rattle.doc_bytes.proofs.WordForms.{placed_from, sorted}
use Rattle.doc_bytes.proofs.Words.{fields_inverse, words_bytes}
use Rattle.doc_bytes.specs.steps.Sorted.{AreSorted}

-- ---- values

value_takes : (bytes : List ℕ) (x : Value × List ℕ) → IsBytes bytes → value_at bytes ≡ Ok x → Takes bytes (value_bytes x.0) x.1 × IsNumber x.0
unfolding value_at
value_takes bytes x fits e =
    let a = bind_ok (number_at w64 bytes) (λ number. Ok (values.Whole (cast_signed w64 number.0), number.1)) x e in
    let number = inverse64.takes bytes a.0 fits a.1 in
    let back : cast_unsigned w64 (cast_signed w64 a.0.0) ≡ a.0.0 = of_z-to_z w64 a.0.0 number.1 in
    let same : Takes bytes (to_le_bytes w64 (cast_unsigned w64 (cast_signed w64 a.0.0))) a.0.1 = subst (λ (n : ℕ). Takes bytes (to_le_bytes w64 n) a.0.1) (sym back) number.0 in
    let made : Value × List ℕ = (values.Whole (cast_signed w64 a.0.0), a.0.1) in
    subst (λ (y : Value × List ℕ). Takes bytes (value_bytes y.0) y.1 × IsNumber y.0) (ok_is made x a.2) (same, sfits_to_z {w = w64} {n = a.0.0} (record { fits = number.1 }))

value_again : (value : Value) (rest : List ℕ) → IsNumber value → value_at (value_bytes value ++ rest) ≡ Ok (value, rest)
unfolding value_at
value_again (values.Whole number) rest fits =
    rw (inverse64.again (cast_unsigned w64 number) rest (Fits-of_z {w = w64} {z = number} fits).fits, to_z-of_z w64 number fits) refl

value_inverse : Inverse value_at value_bytes IsNumber
value_inverse = record { takes = value_takes; again = value_again }

values_inverse : (n : ℕ) → Inverse (each value_at n) (flat_map value_bytes) (λ numbers. (length numbers ≡ n) × All IsNumber numbers)
values_inverse n = each_inverse value_at value_bytes IsNumber value_inverse n

-- the words that are read behind an id and values stand in order
pub ascending : (attrs fields : ℕ) (bytes : List ℕ) (id : ℕ) (behind_id : List ℕ) (numbers : List Value) (behind_values : List ℕ) (words : List (List TokenWord)) (rest : List ℕ) → IsBytes bytes
    → number_at w64 bytes ≡ Ok (id, behind_id) → each value_at attrs behind_id ≡ Ok (numbers, behind_values) → each field_at fields behind_values ≡ Ok (words, rest) → All AreSorted words
ascending attrs fields bytes id behind_id numbers behind_values words rest fits one two three =
    let a = inverse64.takes bytes (id, behind_id) fits one in
    let b = (values_inverse attrs).takes behind_id (numbers, behind_values) a.0.rest_fits two in
    let c = (fields_inverse fields).takes behind_values (words, rest) b.0.rest_fits three in
    λ k d h. sorted 0 (get_or words k d) (placed_from 0 (get_or words k d) (c.1.1 k d h).1).follow

-- ---- documents

module _ (schema : Schema) where
  pub doc_takes : (bytes : List ℕ) (x : Doc × List ℕ) → IsBytes bytes → doc_at (length schema.fields) (length schema.attrs) bytes ≡ Ok x → Takes bytes (doc_bytes x.0) x.1 × IsDocOf schema x.0
  unfolding doc_at
  doc_takes bytes x fits e =
      let fields = length schema.fields in
      let attrs = length schema.attrs in
      let a = bind_ok (number_at w64 bytes) _ x e in
      let b = bind_ok (each value_at attrs a.0.1) _ x a.2 in
      let c = bind_ok (each field_at fields b.0.1) _ x b.2 in
      let d = bind_ok (number_at w32 c.0.1) _ x c.2 in
      let s = bind_ok (spans_at c.0.0 d.0.0 d.0.1) (λ spans. Ok (record { id = a.0.0; fields = with_spans 0 c.0.0 spans.0; values = b.0.0 }, spans.1)) x d.2 in
      let id = inverse64.takes bytes a.0 fits a.1 in
      let numbers = (values_inverse attrs).takes a.0.1 b.0 id.0.rest_fits b.1 in
      let words = (fields_inverse fields).takes b.0.1 c.0 numbers.0.rest_fits c.1 in
      let spans = (spans_inverse c.0.0).takes c.0.1 s.0 words.0.rest_fits (ap (λ (read : Result (ℕ × List ℕ) ℕ). read >>= λ count. many (span_at c.0.0) Some count.0 None count.1) d.1 ∙ s.1) in
      let made : Doc = record { id = a.0.0; fields = with_spans 0 c.0.0 s.0.0; values = b.0.0 } in
      let size : length c.0.0 ≡ 0 + length c.0.0 = omega arith in
      let row : tagged 0 made.fields ≡ s.0.0 = in_a_row 0 c.0.0 s.0.0 (subst (λ (limit : ℕ). Between limit 0 s.0.0) size (between c.0.0 s.0.0 spans.1.1)) in
      let two = Takes-then bytes (to_le_bytes w64 a.0.0) a.0.1 (flat_map value_bytes b.0.0) b.0.1 id.0 numbers.0 in
      let three = Takes-then bytes (to_le_bytes w64 a.0.0 ++ flat_map value_bytes b.0.0) b.0.1 (flat_map words_bytes c.0.0) c.0.1 two words.0 in
      let four = Takes-then bytes (to_le_bytes w64 a.0.0 ++ flat_map value_bytes b.0.0 ++ flat_map words_bytes c.0.0) c.0.1 (counted_bytes s.0.0) s.0.1 three spans.0 in
      let its_words : flat_map words_bytes c.0.0 ≡ flat_map field_bytes made.fields = sym (words_spelled 0 c.0.0 s.0.0) in
      let its_spans : counted_bytes s.0.0 ≡ all_spans_bytes made.fields = sym (spans_spelled made.fields ∙ ap counted_bytes row) in
      let whole : Takes bytes (doc_bytes made) s.0.1 =
      subst (λ (l : List ℕ). Takes bytes (to_le_bytes w64 a.0.0 ++ flat_map value_bytes b.0.0 ++ flat_map field_bytes made.fields ++ l) s.0.1) its_spans
      (subst (λ (l : List ℕ). Takes bytes (to_le_bytes w64 a.0.0 ++ flat_map value_bytes b.0.0 ++ l ++ counted_bytes s.0.0) s.0.1) its_words four) in
      let fits : IsDocOf schema made = record {
        fields = as_many 0 c.0.0 s.0.0 ∙ words.1.0;
        values = numbers.1.0;
        tokens = are_fields c.0.0 0 c.0.0 None s.0.0 refl words.1.1 spans.1.1;
        few_spans = omega (arith, tagged_count 0 made.fields, ap length row, spans.1.0);
      } in
      subst (λ (y : Doc × List ℕ). Takes bytes (doc_bytes y.0) y.1 × IsDocOf schema y.0) (ok_is (made, s.0.1) x s.2) (whole, fits)

  pub doc_again : (doc : Doc) (rest : List ℕ) → IsSchema schema → IsDocOf schema doc → DocNumbers doc → doc_at (length schema.fields) (length schema.attrs) (doc_bytes doc ++ rest) ≡ Ok (doc, rest)
  unfolding doc_at
  doc_again doc rest limits fits numbers =
      let words = only_words doc.fields in
      let spans = tagged 0 doc.fields in
      let id = to_le_bytes w64 doc.id in
      let values = flat_map value_bytes doc.values in
      let count = to_le_bytes w32 (length spans) in
      let same : doc_bytes doc ≡ id ++ values ++ flat_map words_bytes words ++ counted_bytes spans =
      ap (λ (l : List ℕ). id ++ values ++ l ++ all_spans_bytes doc.fields) (only_words_spelled doc.fields) ∙ ap (λ (l : List ℕ). id ++ values ++ flat_map words_bytes words ++ l) (spans_spelled doc.fields) in
      let regrouped : (id ++ values ++ flat_map words_bytes words ++ counted_bytes spans) ++ rest ≡ id ++ (values ++ (flat_map words_bytes words ++ (counted_bytes spans ++ rest))) =
      append_assoc (id ++ values ++ flat_map words_bytes words) (counted_bytes spans) rest ∙ append_assoc (id ++ values) (flat_map words_bytes words) (counted_bytes spans ++ rest)
      ∙ append_assoc id values (flat_map words_bytes words ++ (counted_bytes spans ++ rest)) in
      let row = fields_fit words 0 doc.fields None refl (omega (arith, fits.fields, limits.few_fields)) fits.tokens numbers.zones tt in
      let few : length spans < 2 ^ 32 = omega (arith, tagged_count 0 doc.fields, fits.few_spans) in
      let read = (spans_inverse words).again spans rest (few, row) in
      let c = bind_ok (number_at w32 (counted_bytes spans ++ rest)) (λ n. spans_at words n.0 n.1) (spans, rest) read in
      ap (doc_at (length schema.fields) (length schema.attrs)) (ap (λ (l : List ℕ). l ++ rest) same ∙ regrouped)
      ∙ rw (
        inverse64.again doc.id (values ++ (flat_map words_bytes words ++ (counted_bytes spans ++ rest))) numbers.id,
        (values_inverse (length schema.attrs)).again doc.values (flat_map words_bytes words ++ (counted_bytes spans ++ rest)) (fits.values, numbers.values),
        (fields_inverse (length schema.fields)).again words (counted_bytes spans ++ rest) (length-map doc.fields (λ (field : FieldTokens). field.words) ∙ fits.fields, words_fit doc.fields fits.tokens),
        c.1,
        c.2,
        as_were 0 doc.fields,
      ) refl
