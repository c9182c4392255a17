-- Payloads, read from left to right. A fault stands at the first field that isn't whole or that none of its values may follow
-- what was read before it; what is left after the last operation is a fault too.
use Rattle.std.specs.Prelude.{ℕ, zero, suc, ◌+◌, List, [], ◌∷◌, Bool, true, ◌==◌, ◌&&◌, ◌||◌, nat_lt, nat_le, Option, Some, None, length, map, get_or, take, drop, Result, Ok, Err, if◌then◌else◌}
use Rattle.std.specs.List.{list_any, prefix_len}
use Rattle.std.specs.Int.{w16, w32, w64, cast_signed}
use Rattle.std.specs.Str.{is_utf8}
use Rattle.doc_types.specs.Documents.{precedes, step}
use Rattle.doc_types.specs.declared.documents.Doc.{Doc}
use Rattle.doc_types.specs.declared.schema.Schema.{Schema}
use Rattle.doc_types.specs.declared.schema.Value.{Value}
use Rattle.doc_types.specs.declared.schema.Value.TheVariants as values
use Rattle.doc_types.specs.declared.tokens.TheConstants.{MAX_POSITION, MAX_WORD_BYTES}
use Rattle.doc_types.specs.declared.tokens.FieldTokens.{FieldTokens}
use Rattle.doc_types.specs.declared.tokens.Gap.{Gap}
use Rattle.doc_types.specs.declared.tokens.Gap.TheVariants as gaps
use Rattle.doc_types.specs.declared.tokens.TokenWord.{TokenWord}
use Rattle.doc_types.specs.declared.tokens.ZoneSpan.{ZoneSpan}
use Rattle.doc_types.specs.declared.transactions.Txn.{Txn}
use Rattle.doc_types.specs.declared.transactions.TxnOp.{TxnOp}
use Rattle.doc_types.specs.declared.transactions.TxnOp.TheVariants as operations
use Rattle.byte_fields.specs.Fields.{◌>>=◌, Read, as_one, byte_at, checked, each, many, number_at, piece_at}

-- ---- words

-- the boundary before a word
abbrev pub gap_at : List ℕ → Read Gap
gap_at [] = Err 0
gap_at (zero ∷ rest) = Ok (gaps.None, rest)
gap_at (suc zero ∷ rest) = Ok (gaps.Sentence, rest)
gap_at (suc (suc zero) ∷ rest) = Ok (gaps.Paragraph, rest)
gap_at (suc (suc (suc byte)) ∷ rest) = Err (suc (length rest))

-- a word with this boundary may stand behind a position: 0 before the first word, which has no boundary
abbrev pub may_stand : ℕ → Gap → Bool
may_stand before gap = nat_le (before + step gap) MAX_POSITION && ((step gap == 1) || nat_lt 0 before)

-- a word has so many bytes
abbrev pub is_word_size : ℕ → Bool
is_word_size size = nat_lt 0 size && nat_le size MAX_WORD_BYTES

-- a word's length and its bytes
unfoldable pub text_at : List ℕ → Read (List ℕ)
text_at bytes = do
  size ← checked is_word_size byte_at bytes
  checked is_utf8 (piece_at size.0) size.1

-- the word behind a position
unfoldable pub word_at : ℕ → List ℕ → Read TokenWord
word_at before bytes = do
  gap ← checked (may_stand before) gap_at bytes
  text ← text_at gap.1
  Ok (record { word = text.0; position = before + step gap.0; gap = gap.0 }, text.1)

-- so many words of a field
abbrev pub words_at : ℕ → List ℕ → Read (List TokenWord)
words_at count bytes = many word_at (λ word. word.position) count 0 bytes

-- the words of a field, their number first
unfoldable pub field_at : List ℕ → Read (List TokenWord)
field_at bytes = do
  count ← number_at w32 bytes
  words_at count.0 count.1

-- ---- spans

-- a span, and the number of its field
abbrev pub FieldSpan : Type 0
FieldSpan = ℕ × ZoneSpan

-- the words of the field of this number; none where there is no such field
abbrev pub words_in : List (List TokenWord) → ℕ → List TokenWord
words_in fields field = get_or fields field []

-- one of the words stands at the position
abbrev pub is_taken : List TokenWord → ℕ → Bool
is_taken words position = list_any (λ word. word.position == position) words

-- a span begins at one of the words, and ends at it or at a later one
abbrev pub is_over : List TokenWord → ZoneSpan → Bool
is_over words span = is_taken words span.first && (is_taken words span.last && nat_le span.first span.last)

-- it stands behind the span before, if there is one: by field, first position, last position and zone
abbrev pub is_behind : Option FieldSpan → FieldSpan → Bool
is_behind None span = true
is_behind (Some before) span = nat_lt before.0 span.0 || ((before.0 == span.0) && precedes before.1 span.1)

-- a span of these fields that may follow another one
abbrev pub may_follow : List (List TokenWord) → Option FieldSpan → FieldSpan → Bool
may_follow fields before span = is_over (words_in fields span.0) span.1 && is_behind before span

-- the numbers of a span: its field, its zone, its first and its last position
unfoldable pub numbers_at : List ℕ → Read FieldSpan
numbers_at bytes = do
  field ← number_at w16 bytes
  zone ← number_at w16 field.1
  first ← number_at w32 zone.1
  last ← number_at w32 first.1
  Ok ((field.0, record { zone = zone.0; first = first.0; last = last.0 }), last.1)

-- the span that follows another one; it is one field of the layout
abbrev pub span_at : List (List TokenWord) → Option FieldSpan → List ℕ → Read FieldSpan
span_at fields before bytes = checked (may_follow fields before) (as_one numbers_at) bytes

-- so many spans of these fields
abbrev pub spans_at : List (List TokenWord) → ℕ → List ℕ → Read (List FieldSpan)
spans_at fields count bytes = many (span_at fields) Some count None bytes

-- how many spans at the front are of a field; these, and those behind them
abbrev pub own_count : ℕ → List FieldSpan → ℕ
own_count field spans = prefix_len (λ span. span.0 == field) spans

abbrev pub own_spans : ℕ → List FieldSpan → List FieldSpan
own_spans field spans = take (own_count field spans) spans

abbrev pub later_spans : ℕ → List FieldSpan → List FieldSpan
later_spans field spans = drop (own_count field spans) spans

-- each field from this number on gets its words and its spans, which stand one field after the other
abbrev pub with_spans : ℕ → List (List TokenWord) → List FieldSpan → List FieldTokens
with_spans field [] spans = []
with_spans field (words ∷ others) spans = record { words = words; spans = map (λ span. span.1) (own_spans field spans) } ∷ with_spans (field + 1) others (later_spans field spans)

-- ---- documents and operations

-- a value: 8 bytes, two's complement
unfoldable pub value_at : List ℕ → Read Value
value_at bytes = do
  number ← number_at w64 bytes
  Ok (values.Whole (cast_signed w64 number.0), number.1)

-- a document of so many fields and attributes
unfoldable pub doc_at : ℕ → ℕ → List ℕ → Read Doc
doc_at fields attrs bytes = do
  id ← number_at w64 bytes
  numbers ← each value_at attrs id.1
  words ← each field_at fields numbers.1
  count ← number_at w32 words.1
  spans ← spans_at words.0 count.0 count.1
  Ok (record { id = id.0; fields = with_spans 0 words.0 spans.0; values = numbers.0 }, spans.1)

-- an operation: the byte of its kind, and its document or its id
unfoldable pub op_at : ℕ → ℕ → List ℕ → Read TxnOp
op_at fields attrs [] = Err 0
op_at fields attrs (zero ∷ rest) = Err (suc (length rest))
op_at fields attrs (suc zero ∷ rest) = do
  doc ← doc_at fields attrs rest
  Ok (operations.Put doc.0, doc.1)
op_at fields attrs (suc (suc zero) ∷ rest) = do
  id ← number_at w64 rest
  Ok (operations.Kill id.0, id.1)
op_at fields attrs (suc (suc (suc zero)) ∷ rest) = Ok (operations.Clear, rest)
op_at fields attrs (suc (suc (suc (suc byte))) ∷ rest) = Err (suc (length rest))

-- a transaction of a schema: all of the bytes
unfoldable pub txn_at : Schema → List ℕ → Result Txn ℕ
txn_at schema bytes = do
  count ← number_at w32 bytes
  ops ← each (op_at (length schema.fields) (length schema.attrs)) count.0 count.1
  if length ops.1 == 0 then Ok (record { ops = ops.0 }) else Err (length ops.1)
