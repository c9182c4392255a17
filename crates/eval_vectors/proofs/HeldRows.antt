-- Rows that the tests read are what a chunk holds.
use Rattle.std.proofs.Common.{◌≡◌, ◌≢◌, refl, subst, ℕ, ◌-◌, ◌<◌, ◌≤◌, ◌*◌, List, [], ◌∷◌, ◌++◌, Some, length, length-append, get_or, slice_get, nat_lt, sym, arith, All, AllPairs, ap, ◌⊎◌, inl, inr}
use Rattle.std.specs.List.{sum_by}
use Rattle.std.specs.Bool.{IsTrue}
use Rattle.std.proofs.lemmas.Bool.{cases_lt}
use Rattle.std.proofs.lemmas.Bool.Decides.{nat_tests}
use Rattle.std.proofs.lemmas.Option.{get_or_from_slice_get}
use Rattle.std.proofs.lemmas.List.Elements.{All-nil, All-cons, All-append}
use Rattle.std.proofs.lemmas.List.Quantifiers.{all_pairs_push}
use Rattle.std.proofs.lemmas.List.Sums.{sum_by-le}
use Rattle.doc_types.specs.declared.documents.DocRow.{DocRow}
use Rattle.doc_types.specs.declared.schema.Schema.{Schema}
use Rattle.doc_types.specs.declared.tokens.FieldTokens.{FieldTokens}
use Rattle.doc_types.specs.Documents.{IsDocOf, word_count}
use Rattle.doc_types.specs.Schemas.{IsSchema}
use Rattle.doc_types.specs.Chunks.{IsContent}
use Rattle.doc_types.specs.Snapshots.{AreLayers, IsLayer, LayerValue, all_living}
use Rattle.doc_types.proofs.Living.{whole_layer}
use Rattle.eval_vectors.specs.steps.Reading.{AreFewRows, IsShortField, IsShortRow, whole}

-- one more short field
pub more_short : (fields : List FieldTokens) (field : FieldTokens) → All IsShortField fields → IsShortField field → All IsShortField (fields ++ field ∷ [])
more_short fields field all is = All-append IsShortField fields (field ∷ []) all (All-cons IsShortField field [] is (All-nil IsShortField))

-- a row of as many fields and values as the schema has
pub short_row : (schema : Schema) (row : DocRow) → IsSchema schema → All IsShortField row.doc.fields → length row.doc.fields ≡ length schema.fields → length row.doc.values ≡ length schema.attrs → IsShortRow schema row
short_row schema row limits short fields values =
    let spans : sum_by (λ (tokens : FieldTokens). length tokens.spans) row.doc.fields ≤ length row.doc.fields * 1000 = sum_by-le (λ (tokens : FieldTokens). length tokens.spans) 1000 row.doc.fields (λ k d h. (short k d h).spans) in
    let words : word_count row ≤ length row.doc.fields * 1000 = sum_by-le (λ (tokens : FieldTokens). length tokens.words) 1000 row.doc.fields (λ k d h. (short k d h).words) in
    record {
      doc = record { fields = fields; values = values; tokens = λ k d h. (short k d h).field; few_spans = omega (arith, spans, fields, limits.few_fields) };
      few_words = omega (arith, words, fields, limits.few_fields);
    }

is_below : (a b : ℕ) → IsTrue (nat_lt a b) → a < b
is_below a b e = grind (arith, nat_tests)

below_at : (rows : List DocRow) (id k : ℕ) (last d : DocRow) → AllPairs (λ row later. row.doc.id < later.doc.id) rows → get_or rows (length rows - 1) d ≡ last → last.doc.id < id → k < length rows → (k < length rows - 1) ⊎ (length rows - 1 ≤ k) → (get_or rows k d).doc.id < id
below_at rows id k last d up at low h (inl before) =
    let less : (get_or rows k d).doc.id < (get_or rows (length rows - 1) d).doc.id = up k (length rows - 1) d before (omega (arith, h)) in
    omega (arith, less, ap (λ (row : DocRow). row.doc.id) at, low)
below_at rows id k last d up at low h (inr behind) =
    let same : k ≡ length rows - 1 = omega (arith, h, behind) in
    omega (arith, ap (λ i. (get_or rows i d).doc.id) same, ap (λ (row : DocRow). row.doc.id) at, low)

-- ids that ascend are all below what the last one is below
pub all_below : (rows : List DocRow) (id : ℕ) (last : DocRow) → AllPairs (λ row later. row.doc.id < later.doc.id) rows → Some last ≡ slice_get rows (length rows - 1) → IsTrue (nat_lt last.doc.id id) → All (λ row. row.doc.id < id) rows
all_below rows id last up at low k d h = below_at rows id k last d up (get_or_from_slice_get rows (length rows - 1) last d (sym at)) (is_below last.doc.id id low) h (cases_lt k (length rows - 1))

pub no_rows : (schema : Schema) → AreFewRows schema []
no_rows schema = record {
  of = record { ids = λ i j d l h. absurd (omega (arith, h)); docs = All-nil (λ (r : DocRow). IsDocOf schema r.doc) };
  short = All-nil (λ (r : DocRow). word_count r ≤ 32000);
  few = omega arith;
}

-- a row with a greater id at the end
pub pushed : (schema : Schema) (rows : List DocRow) (row : DocRow) → AreFewRows schema rows → IsShortRow schema row → length rows < 10000 → All (λ earlier. earlier.doc.id < row.doc.id) rows → AreFewRows schema (rows ++ row ∷ [])
pushed schema rows row are is few below = record {
  of = record {
    ids = all_pairs_push (λ (a : DocRow) (b : DocRow). a.doc.id < b.doc.id) rows row are.of.ids below;
    docs = All-append (λ (r : DocRow). IsDocOf schema r.doc) rows (row ∷ []) are.of.docs (All-cons (λ (r : DocRow). IsDocOf schema r.doc) row [] is.doc (All-nil (λ (r : DocRow). IsDocOf schema r.doc)));
  };
  short = All-append (λ (r : DocRow). word_count r ≤ 32000) rows (row ∷ []) are.short (All-cons (λ (r : DocRow). word_count r ≤ 32000) row [] is.few_words (All-nil (λ (r : DocRow). word_count r ≤ 32000)));
  few = omega (arith, length-append rows (row ∷ []), few);
}

-- few rows are a chunk's
pub content : (schema : Schema) (rows : List DocRow) → IsSchema schema → AreFewRows schema rows → IsContent rows
content schema rows limits are =
    let words : sum_by word_count rows ≤ length rows * 32000 = sum_by-le word_count 32000 rows are.short in
    record {
      schema = schema;
      limits = limits;
      of = are.of;
      small = record { few_rows = omega (arith, are.few); few_words = omega (arith, words, are.few) };
    }

-- rows of a chunk, of which none is dead
whole_is : (rows : List DocRow) → IsContent rows → IsLayer (whole rows)
whole_is rows content = record { content = content; ascend = λ i j d l h. absurd (omega (arith, h)); rows = All-nil (λ row. row < length rows) }

-- one layer of them
pub one_whole : (layer : LayerValue) (rows : List DocRow) → layer ≡ whole rows → IsContent rows → AreLayers (layer ∷ [])
one_whole layer rows is content =
    let living : all_living (whole rows ∷ []) ≡ rows = whole_layer (whole rows) refl in
    let apart : AllPairs (λ (row other : DocRow). row.doc.id ≢ other.doc.id) rows = λ i j d l h same. absurd (omega (arith, same, content.of.ids i j d l h)) in
    subst (λ (l : LayerValue). AreLayers (l ∷ [])) (sym is) (record {
      each = All-cons IsLayer (whole rows) [] (whole_is rows content) (All-nil IsLayer);
      distinct = subst (λ (l : List DocRow). AllPairs (λ (row other : DocRow). row.doc.id ≢ other.doc.id) l) (sym living) apart;
      few_layers = omega arith;
      few_rows = omega (arith, ap length living, content.small.few_rows);
    })
