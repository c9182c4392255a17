-- Numbers: what the numbers of a document fit in.
use Rattle.std.specs.Prelude.{◌<◌, ◌≤◌, ◌^◌, All, length, sum_by}
use Rattle.doc_types.specs.declared.documents.Doc.{Doc}
use Rattle.doc_types.specs.declared.tokens.TheConstants.{MAX_POSITION}
use Rattle.doc_types.specs.declared.transactions.TxnOp.{TxnOp}
use Rattle.doc_types.specs.declared.transactions.TxnOp.TheVariants as operations

-- columns fit in 16 bits, the bytes of a word in 8, and the spans of a document in 32; a field's words have positions from 1 to the
-- greatest one, and are no more than these
pub record FitsNumbers (doc : Doc) : Type 0 where
  pub fields : length doc.fields < 2 ^ 16
  pub values : length doc.values < 2 ^ 16
  pub words : All (λ tokens. length tokens.words ≤ MAX_POSITION) doc.fields
  pub positions : All (λ tokens. All (λ word. (0 < word.position) × (word.position ≤ MAX_POSITION)) tokens.words) doc.fields
  pub bytes : All (λ tokens. All (λ word. (0 < length word.word) × (length word.word < 2 ^ 8)) tokens.words) doc.fields
  pub spans : sum_by (λ tokens. length tokens.spans) doc.fields < 2 ^ 32

-- the numbers of an operation's document fit, if it has one
abbrev pub OpFits : TxnOp → Type 0
OpFits (operations.Insert doc) = FitsNumbers doc
OpFits (operations.Put doc) = FitsNumbers doc
OpFits (operations.Kill id) = Unit {0}
OpFits operations.Clear = Unit {0}
