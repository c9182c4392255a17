-- Rows of so many fields and values are what a chunk holds.
use Rattle.std.proofs.Common.{◌≡◌, ℕ, ◌+◌, ◌-◌, ◌<◌, ◌≤◌, ◌*◌, List, [], ◌∷◌, ◌++◌, Some, length, get_or, slice_get, nat_lt, sym, ap, subst, ◌∙◌, arith, All, AllPairs, ◌⊎◌, inl, inr, length-append}
use Rattle.std.specs.Bool.{IsTrue}
use Rattle.std.specs.List.{sum_by}
use Rattle.std.proofs.lemmas.Bool.{cases_lt}
use Rattle.std.proofs.lemmas.Bool.Decides.{nat_tests}
use Rattle.std.proofs.lemmas.List.Elements.{All-nil, All-cons, All-append}
use Rattle.std.proofs.lemmas.List.Kept.{AllPairs-cons}
use Rattle.std.proofs.lemmas.List.Quantifiers.{all_pairs_push}
use Rattle.std.proofs.lemmas.Option.{get_or_from_slice_get}
use Rattle.std.proofs.lemmas.List.Sums.{sum_by-le}
use Rattle.doc_types.specs.declared.documents.Doc.{Doc}
use Rattle.doc_types.specs.declared.documents.DocRow.{DocRow}
use Rattle.doc_types.specs.declared.schema.Schema.{Schema}
use Rattle.doc_types.specs.declared.tokens.FieldTokens.{FieldTokens}
use Rattle.doc_types.specs.Documents.{AreRowsOf, IsDocOf, IsField, word_count}
use Rattle.doc_types.specs.Schemas.{IsSchema}
use Rattle.doc_types.specs.Chunks.{IsContent}
use Rattle.doc_types.proofs.Numbers.{few_words}
use Rattle.image_write.specs.Written.{IsWritten, row_of}
use Rattle.doc_vectors.specs.steps.Columns.{AreFields, AreListed, HasShape, HasValues, IsShort}

is_below : (a b : ℕ) → IsTrue (nat_lt a b) → a < b
is_below a b e = grind (arith, nat_tests)

below_at : (rows : List DocRow) (id k : ℕ) (last d : DocRow) → AllPairs (λ row later. row.doc.id < later.doc.id) rows → get_or rows (length rows - 1) d ≡ last → last.doc.id < id → k < length rows → (k < length rows - 1) ⊎ (length rows - 1 ≤ k) → (get_or rows k d).doc.id < id
below_at rows id k last d up at low h (inl before) =
    let less : (get_or rows k d).doc.id < (get_or rows (length rows - 1) d).doc.id = up k (length rows - 1) d before (omega (arith, h)) in
    omega (arith, less, ap (λ (row : DocRow). row.doc.id) at, low)
below_at rows id k last d up at low h (inr behind) =
    let same : k ≡ length rows - 1 = omega (arith, h, behind) in
    omega (arith, ap (λ i. (get_or rows i d).doc.id) same, ap (λ (row : DocRow). row.doc.id) at, low)

-- ids that ascend are all below what the last one is below
pub all_below : (rows : List DocRow) (id : ℕ) (last : DocRow) → AllPairs (λ row later. row.doc.id < later.doc.id) rows → Some last ≡ slice_get rows (length rows - 1) → IsTrue (nat_lt last.doc.id id) → All (λ row. row.doc.id < id) rows
all_below rows id last up at low k d h = below_at rows id k last d up (get_or_from_slice_get rows (length rows - 1) last d (sym at)) (is_below last.doc.id id low) h (cases_lt k (length rows - 1))

pub no_rows : (fields values : ℕ) → AreListed fields values []
no_rows fields values = record { ids = λ i j d l h. absurd (omega (arith, h)); filled = All-nil (λ (row : DocRow). AreFields fields row.doc.fields); valued = All-nil (HasValues values) }

-- a row with a greater id at the end
pub pushed : (fields values : ℕ) (rows : List DocRow) (row : DocRow) → AreListed fields values rows → AreFields fields row.doc.fields → length row.doc.values ≡ values → All (λ earlier. earlier.doc.id < row.doc.id) rows → AreListed fields values (rows ++ row ∷ [])
pushed fields values rows row are is has below = record {
  ids = all_pairs_push (λ (a : DocRow) (b : DocRow). a.doc.id < b.doc.id) rows row are.ids below;
  filled = All-append (λ (r : DocRow). AreFields fields r.doc.fields) rows (row ∷ []) are.filled (All-cons (λ (r : DocRow). AreFields fields r.doc.fields) row [] is (All-nil (λ (r : DocRow). AreFields fields r.doc.fields)));
  valued = All-append (HasValues values) rows (row ∷ []) are.valued (All-cons (HasValues values) row [] has (All-nil (HasValues values)));
}

-- so many fields, one by one
pub no_fields : (fields : List FieldTokens) → fields ≡ [] → AreFields 0 fields
no_fields fields e = subst (AreFields 0) (sym e) (record { count = omega arith; each = All-nil IsShort })

pub one_more : (n : ℕ) (fields after : List FieldTokens) (tokens : FieldTokens) → AreFields n fields → IsShort tokens → after ≡ fields ++ tokens ∷ [] → AreFields (n + 1) after
one_more n fields after tokens are is e = subst (AreFields (n + 1)) (sym e) (record {
  count = length-append fields (tokens ∷ []) ∙ ap (λ m. m + 1) are.count;
  each = All-append IsShort fields (tokens ∷ []) are.each (All-cons IsShort tokens [] is (All-nil IsShort));
})

all_fields : (fields : List FieldTokens) → All IsShort fields → All IsField fields
all_fields fields each k d h = (each k d h).field

is_doc : (schema : Schema) (n m : ℕ) (doc : Doc) → HasShape schema n m → AreFields n doc.fields → length doc.values ≡ m → IsDocOf schema doc
is_doc schema n m doc shape are has =
    let wide : length schema.fields ≤ 32 = shape.limits.few_fields in
    let sum : sum_by (λ (tokens : FieldTokens). length tokens.spans) doc.fields ≤ length doc.fields * 1000 = sum_by-le (λ (tokens : FieldTokens). length tokens.spans) 1000 doc.fields (λ k d h. (are.each k d h).few) in
    record {
      fields = are.count ∙ sym shape.fields_n;
      values = has ∙ sym shape.attrs_n;
      tokens = all_fields doc.fields are.each;
      few_spans = omega (arith, sum, wide, shape.fields_n, are.count);
    }

-- they are rows of a schema with as many columns
pub are_rows : (schema : Schema) (n m : ℕ) (rows : List DocRow) → HasShape schema n m → AreListed n m rows → AreRowsOf schema rows
are_rows schema n m rows shape are = record {
  ids = are.ids;
  docs = λ k d h. is_doc schema n m (get_or rows k d).doc shape (are.filled k d h) (are.valued k d h);
}

few : (schema : Schema) (row : DocRow) → IsSchema schema → IsDocOf schema row.doc → word_count row ≤ 2097120
few schema row limits is =
    let all : sum_by (λ (tokens : FieldTokens). length tokens.words) row.doc.fields ≤ length row.doc.fields * 65535 = sum_by-le (λ (tokens : FieldTokens). length tokens.words) 65535 row.doc.fields (λ k d h. few_words _ (is.tokens k d h)) in
    let wide : length schema.fields ≤ 32 = limits.few_fields in
    omega (arith, all, wide, is.fields)

-- a thousand of them at most are a chunk's
pub content : (schema : Schema) (n m : ℕ) (rows : List DocRow) → HasShape schema n m → AreListed n m rows → length rows ≤ 1000 → IsContent rows
content schema n m rows shape are short =
    let of : AreRowsOf schema rows = are_rows schema n m rows shape are in
    let words : sum_by word_count rows ≤ length rows * 2097120 = sum_by-le word_count 2097120 rows (λ k d h. few schema (get_or rows k d) shape.limits (of.docs k d h)) in
    record {
      schema = schema;
      limits = shape.limits;
      of = of;
      small = record { few_rows = omega (arith, short); few_words = omega (arith, words, short) };
    }

-- and can be written
pub written : (schema : Schema) (n m : ℕ) (rows : List DocRow) → HasShape schema n m → AreListed n m rows → IsWritten schema rows n m
written schema n m rows shape are = record { limits = shape.limits; of = are_rows schema n m rows shape are; fields_n = shape.fields_n; attrs_n = shape.attrs_n }

-- also by another commit
pub renumbered : (n m born : ℕ) (a b : DocRow) → AreListed n m (a ∷ b ∷ []) → AreListed n m (row_of a.doc born ∷ row_of b.doc born ∷ [])
renumbered n m born a b are = record {
  ids = AllPairs-cons (λ (r s : DocRow). r.doc.id < s.doc.id) (row_of a.doc born) (row_of b.doc born ∷ [])
      (All-cons (λ (s : DocRow). a.doc.id < s.doc.id) (row_of b.doc born) [] (are.ids 0 1 a (omega arith) (omega arith)) (All-nil (λ (s : DocRow). a.doc.id < s.doc.id)))
      (λ i j d l h. absurd (omega (arith, l, h)));
  filled = All-cons (λ (r : DocRow). AreFields n r.doc.fields) (row_of a.doc born) (row_of b.doc born ∷ []) (are.filled 0 a (omega arith))
      (All-cons (λ (r : DocRow). AreFields n r.doc.fields) (row_of b.doc born) [] (are.filled 1 a (omega arith)) (All-nil (λ (r : DocRow). AreFields n r.doc.fields)));
  valued = All-cons (HasValues m) (row_of a.doc born) (row_of b.doc born ∷ []) (are.valued 0 a (omega arith))
      (All-cons (HasValues m) (row_of b.doc born) [] (are.valued 1 a (omega arith)) (All-nil (HasValues m)));
}

-- two rows are all, where there are no others
pub both_of : (rows : List DocRow) (a b : DocRow) → 2 ≤ length rows → length rows < 3 → a ≡ get_or rows 0 a → b ≡ get_or rows 1 b → rows ≡ a ∷ b ∷ []
both_of [] a b low high first second = absurd (omega (arith, low))
both_of (x ∷ []) a b low high first second = absurd (omega (arith, low))
both_of (x ∷ y ∷ []) a b low high first second = ap (λ r. r ∷ y ∷ []) (sym first) ∙ ap (λ r. a ∷ r ∷ []) (sym second)
both_of (x ∷ y ∷ z ∷ rows) a b low high first second = absurd (omega (arith, high))
