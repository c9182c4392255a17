-- Transactions as bytes, as a log's record keeps them. Numbers have the low byte first.
use Rattle.std.specs.Prelude.{ℕ, ◌+◌, List, [], ◌∷◌, ◌++◌, length, sum_by}
use Rattle.std.specs.List.{flat_map}
use Rattle.std.specs.Int.{w16, w32, w64, to_le_bytes, cast_unsigned}
use Rattle.doc_types.specs.declared.documents.Doc.{Doc}
use Rattle.doc_types.specs.declared.schema.Value.{Value}
use Rattle.doc_types.specs.declared.schema.Value.TheVariants as values
use Rattle.doc_types.specs.declared.tokens.FieldTokens.{FieldTokens}
use Rattle.doc_types.specs.declared.tokens.Gap.{Gap}
use Rattle.doc_types.specs.declared.tokens.Gap.TheVariants as gaps
use Rattle.doc_types.specs.declared.tokens.TokenWord.{TokenWord}
use Rattle.doc_types.specs.declared.tokens.ZoneSpan.{ZoneSpan}
use Rattle.doc_types.specs.declared.transactions.Txn.{Txn}
use Rattle.doc_types.specs.declared.transactions.TxnOp.{TxnOp}
use Rattle.doc_types.specs.declared.transactions.TxnOp.TheVariants as operations

abbrev pub gap_byte : Gap → ℕ
gap_byte gaps.None = 0
gap_byte gaps.Sentence = 1
gap_byte gaps.Paragraph = 2

-- a word: the boundary before it, its length, and its bytes
abbrev pub word_bytes : TokenWord → List ℕ
word_bytes token = gap_byte token.gap ∷ length token.word ∷ token.word

-- a field: the number of its words, and these; positions follow from the boundaries
abbrev pub field_bytes : FieldTokens → List ℕ
field_bytes tokens = to_le_bytes w32 (length tokens.words) ++ flat_map word_bytes tokens.words

-- a span of the field with this number
abbrev pub span_bytes : ℕ → ZoneSpan → List ℕ
span_bytes field span = to_le_bytes w16 field ++ to_le_bytes w16 span.zone ++ to_le_bytes w32 span.first ++ to_le_bytes w32 span.last

-- the spans of some fields, the first of which has this number
abbrev pub spans_bytes : ℕ → List FieldTokens → List ℕ
spans_bytes field [] = []
spans_bytes field (tokens ∷ others) = flat_map (span_bytes field) tokens.spans ++ spans_bytes (field + 1) others

-- how many spans some fields have
abbrev pub span_count : List FieldTokens → ℕ
span_count fields = sum_by (λ tokens. length tokens.spans) fields

-- a value: 8 bytes, two's complement
abbrev pub value_bytes : Value → List ℕ
value_bytes (values.Whole number) = to_le_bytes w64 (cast_unsigned w64 number)

-- the number of all spans of some fields, and these
abbrev pub all_spans_bytes : List FieldTokens → List ℕ
all_spans_bytes fields = to_le_bytes w32 (span_count fields) ++ spans_bytes 0 fields

-- a document: its id, its values, its fields, and all their spans
abbrev pub doc_bytes : Doc → List ℕ
doc_bytes doc = to_le_bytes w64 doc.id ++ flat_map value_bytes doc.values ++ flat_map field_bytes doc.fields ++ all_spans_bytes doc.fields

-- an operation: a byte for its kind, and its document or its id; an insertion is written as a put
abbrev pub op_bytes : TxnOp → List ℕ
op_bytes (operations.Insert doc) = 1 ∷ doc_bytes doc
op_bytes (operations.Put doc) = 1 ∷ doc_bytes doc
op_bytes (operations.Kill id) = 2 ∷ to_le_bytes w64 id
op_bytes operations.Clear = 3 ∷ []

-- a transaction: the number of its operations, and these
abbrev pub payload : Txn → List ℕ
payload txn = to_le_bytes w32 (length txn.ops) ++ flat_map op_bytes txn.ops
