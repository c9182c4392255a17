-- Contents of an image that are those of rows of a schema.
use Rattle.std.specs.Prelude.{◌≡◌, false, ℕ, ◌+◌, ◌<◌, ◌≤◌, ◌^◌, List, [], ◌∷◌, Some, None, length, All, AllPairs}
use Rattle.std.specs.List.{AllByRecursion}
use Rattle.std.specs.Str.{bytes_eq}
use Rattle.std.specs.Cmp.Lexicographic.{slice_cmp}
use Rattle.std.specs.Ordering.{nat_cmp}
use Rattle.std.specs.declared.cmp.Ordering.TheVariants.{Less}
use Rattle.doc_types.specs.declared.schema.Schema.{Schema}
use Rattle.doc_types.specs.Documents.{IsWord}
use Rattle.byte_fields.specs.Fields.{AllFrom}
use Rattle.doc_bytes.specs.RoundTrip.{IsNumber}
use Rattle.doc_bytes.proofs.Spans.{SpanFits}
use Rattle.posting_codec.specs.HitLists.{Ascend}
use Rattle.chunk_damage.specs.WordLists.{AreEntries, Entry}
use Rattle.chunk_damage.specs.RowMarks.{RowMarks}
use Rattle.chunk_damage.specs.Cover.{hits_in}
use Rattle.image_rows.specs.steps.Owned.{AllIn, AreOwned, all_places, row_words, word_at}
use Rattle.image_rows.specs.steps.Counts.{hit_count, total}
use Rattle.image_rows.specs.steps.Contents.{Contents, RowColumns}

-- the ids of rows ascend
abbrev pub IdsAscend : List RowColumns → Type 0
IdsAscend [] = Unit {0}
IdsAscend (first ∷ columns) = AllByRecursion (λ later. first.id < later.id) columns × IdsAscend columns

-- a row's numbers have room, and it has so many values
pub record AreColumns (attrs : ℕ) (own : RowColumns) : Type 0 where
  pub id : own.id < 2 ^ 64
  pub born : own.born < 2 ^ 64
  pub values : All IsNumber own.values
  pub many : length own.values ≡ attrs

-- a word differs from each of these; each of some words does from those behind it
abbrev pub Differs : List ℕ → List (List ℕ) → Type 0
Differs word words = AllByRecursion (λ other. (bytes_eq word other ≡ false) × (bytes_eq other word ≡ false)) words

abbrev pub AllDiffer : List (List ℕ) → Type 0
AllDiffer [] = Unit {0}
AllDiffer (word ∷ words) = Differs word words × AllDiffer words

-- The marks of the row of this number, where these are all words with their lists: its positions have one owner each, its hits lie at
-- these positions and ascend, and its spans are over its words.
pub record IsGoodRow (fields : ℕ) (words : List (List ℕ)) (lists : List (List Entry)) (n : ℕ) (m : RowMarks) : Type 0 where
  pub many : length m.fields ≡ fields
  pub covered : AreOwned lists n 0 m.fields
  pub few_spans : length m.spans < 2 ^ 32
  pub spans : AllFrom (SpanFits (row_words (word_at words lists n) 0 m.fields)) Some None m.spans
  pub within : AllByRecursion (λ list. AllIn (all_places 0 m.fields) (hits_in n list)) lists
  pub ascend : AllByRecursion (λ list. Ascend 0 (hits_in n list)) lists

-- so it is with all rows, the first of which has this number
abbrev pub GoodRows : ℕ → List (List ℕ) → List (List Entry) → ℕ → List RowMarks → Type 0
GoodRows fields words lists n [] = Unit {0}
GoodRows fields words lists n (m ∷ ms) = IsGoodRow fields words lists n m × GoodRows fields words lists (n + 1) ms

-- the contents of an image of rows of the schema
pub record AreContentsOf (schema : Schema) (c : Contents) : Type 0 where
  pub rows_n : length c.columns ≡ length c.marks
  pub words_n : length c.words ≡ length c.lists
  pub few_rows : length c.columns < 2 ^ 32
  pub few_words : length c.words < 2 ^ 32
  pub few_hits : total hit_count c.lists < 2 ^ 32
  pub ids : IdsAscend c.columns
  pub columns : AllByRecursion (AreColumns (length schema.attrs)) c.columns
  pub rows : GoodRows (length schema.fields) c.words c.lists 0 c.marks
  pub lists : AllByRecursion (AreEntries (length c.columns) 0) c.lists
  pub some : AllByRecursion (λ list. 1 ≤ length list) c.lists
  pub ascend : AllPairs (λ word later. slice_cmp nat_cmp word later ≡ Less) c.words
  pub apart : AllDiffer c.words
  pub are : AllByRecursion IsWord c.words
