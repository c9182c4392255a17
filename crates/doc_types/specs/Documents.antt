-- Documents: tokens of a field, documents of a schema, and lists of rows.
use Rattle.std.specs.Prelude.{◌≡◌, ◌+◌, ◌<◌, ◌≤◌, ◌^◌, ℕ, List, [], ◌∷◌, Bool, ◌==◌, ◌||◌, ◌&&◌, nat_lt, IsTrue, All, AllPairs, Any, length, sum_by}
use Rattle.std.specs.Str.{IsUtf8}
use Rattle.doc_types.specs.declared.tokens.TheConstants.{MAX_POSITION, MAX_WORD_BYTES}
use Rattle.doc_types.specs.declared.documents.Doc.{Doc}
use Rattle.doc_types.specs.declared.documents.DocRow.{DocRow}
use Rattle.doc_types.specs.declared.schema.Schema.{Schema}
use Rattle.doc_types.specs.declared.tokens.FieldTokens.{FieldTokens}
use Rattle.doc_types.specs.declared.tokens.Gap.{Gap}
use Rattle.doc_types.specs.declared.tokens.Gap.TheVariants as gaps
use Rattle.doc_types.specs.declared.tokens.TokenWord.{TokenWord}
use Rattle.doc_types.specs.declared.tokens.ZoneSpan.{ZoneSpan}

-- a word: some characters in UTF-8, within the limit
pub record IsWord (word : List ℕ) : Type 0 where
  pub some : 1 ≤ length word
  pub short : length word ≤ MAX_WORD_BYTES
  pub utf8 : IsUtf8 word

-- how far a word stands behind the one before: a boundary takes a position
abbrev pub step : Gap → ℕ
step gaps.None = 1
step gaps.Sentence = 2
step gaps.Paragraph = 2

-- each of the words stands its step behind the one before, the first one behind this position
abbrev pub Follow : ℕ → List TokenWord → Type 0
Follow before [] = Unit {0}
Follow before (word ∷ words) = (word.position ≡ before + step word.gap) × Follow word.position words

-- before the first word there is no boundary
abbrev pub BeginPlain : List TokenWord → Type 0
BeginPlain [] = Unit {0}
BeginPlain (word ∷ words) = word.gap ≡ gaps.None

-- the positions of a field's words: the first is 1
pub record ArePlaced (words : List TokenWord) : Type 0 where
  pub begin : BeginPlain words
  pub follow : Follow 0 words

-- the span begins at a word, and ends at it or at a later one
pub record IsSpanOver (words : List TokenWord) (span : ZoneSpan) : Type 0 where
  pub order : span.first ≤ span.last
  pub begins : Any (λ word. word.position ≡ span.first) words
  pub ends : Any (λ word. word.position ≡ span.last) words

-- spans are ordered by first position, then by last position, then by zone
abbrev pub precedes : ZoneSpan → ZoneSpan → Bool
precedes a b = nat_lt a.first b.first || ((a.first == b.first) && (nat_lt a.last b.last || ((a.last == b.last) && nat_lt a.zone b.zone)))

-- distinct spans in their order
abbrev pub Ascend : List ZoneSpan → Type 0
Ascend spans = AllPairs (λ a b. IsTrue (precedes a b)) spans

-- the tokens of a field
pub record IsField (tokens : FieldTokens) : Type 0 where
  pub words : All (λ word. IsWord word.word) tokens.words
  pub placed : ArePlaced tokens.words
  pub within : All (λ word. word.position ≤ MAX_POSITION) tokens.words
  pub spans : All (IsSpanOver tokens.words) tokens.spans
  pub ascend : Ascend tokens.spans

-- a document of a schema: tokens for each field, a value for each attribute, and not too many spans
pub record IsDocOf (schema : Schema) (doc : Doc) : Type 0 where
  pub fields : length doc.fields ≡ length schema.fields
  pub values : length doc.values ≡ length schema.attrs
  pub tokens : All IsField doc.fields
  pub few_spans : sum_by (λ tokens. length tokens.spans) doc.fields < 2 ^ 32

-- a list of rows of a schema: by ascending id
pub record AreRowsOf (schema : Schema) (rows : List DocRow) : Type 0 where
  pub ids : AllPairs (λ row later. row.doc.id < later.doc.id) rows
  pub docs : All (λ row. IsDocOf schema row.doc) rows

-- how many words a row has, each occurrence counted
abbrev pub word_count : DocRow → ℕ
word_count row = sum_by (λ tokens. length tokens.words) row.doc.fields

-- a list of rows that a chunk can number
pub record AreSmall (rows : List DocRow) : Type 0 where
  pub few_rows : length rows < 2 ^ 32
  pub few_words : sum_by word_count rows < 2 ^ 32
