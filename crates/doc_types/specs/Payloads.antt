-- Payloads: how many bytes a transaction takes in a log.
use Rattle.std.specs.Prelude.{ℕ, ◌+◌, ◌*◌, length, sum_by}
use Rattle.doc_types.specs.declared.documents.Doc.{Doc}
use Rattle.doc_types.specs.declared.tokens.FieldTokens.{FieldTokens}
use Rattle.doc_types.specs.declared.tokens.TokenWord.{TokenWord}
use Rattle.doc_types.specs.declared.transactions.Txn.{Txn}
use Rattle.doc_types.specs.declared.transactions.TxnOp.{TxnOp}
use Rattle.doc_types.specs.declared.transactions.TxnOp.TheVariants as operations

-- a word: a byte for its boundary, a byte for its length, and its bytes
abbrev pub word_length : TokenWord → ℕ
word_length token = 2 + length token.word

-- a field: 4 bytes for the number of its words, its words, and 12 bytes for each of its spans
abbrev pub field_length : FieldTokens → ℕ
field_length tokens = 4 + 12 * length tokens.spans + sum_by word_length tokens.words

-- a document: 8 bytes for its id, 4 for the number of its spans, 8 for each value, and its fields
abbrev pub doc_length : Doc → ℕ
doc_length doc = 12 + 8 * length doc.values + sum_by field_length doc.fields

-- an operation: a byte for its kind, and its document or its id; an insertion is written as a put
abbrev pub op_length : TxnOp → ℕ
op_length (operations.Insert doc) = 1 + doc_length doc
op_length (operations.Put doc) = 1 + doc_length doc
op_length (operations.Kill id) = 9
op_length operations.Clear = 1

-- a transaction: 4 bytes for the number of its operations, and these
abbrev pub payload_length : Txn → ℕ
payload_length txn = 4 + sum_by op_length txn.ops
