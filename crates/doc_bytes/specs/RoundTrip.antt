-- What reading a payload answers: the transaction that was written, an insertion as a put.
use Rattle.std.specs.Prelude.{FitsSigned, ◌≡◌, ◌<◌, ◌^◌, All, Result, Ok, Err, map}
use Rattle.std.specs.Int.{w64}
use Rattle.srch_base.specs.declared.faults.Or.{Or}
use Rattle.srch_base.specs.declared.faults.Or.TheVariants.{NoMemory, Fault}
use Rattle.doc_types.specs.declared.documents.Doc.{Doc}
use Rattle.doc_types.specs.declared.schema.Value.{Value}
use Rattle.doc_types.specs.declared.schema.Value.TheVariants as values
use Rattle.doc_types.specs.declared.transactions.Txn.{Txn}
use Rattle.doc_types.specs.declared.transactions.TxnOp.{TxnOp}
use Rattle.doc_types.specs.declared.transactions.TxnOp.TheVariants as operations
use Rattle.doc_bytes.specs.declared.reading.BadTxn.{BadTxn}
use Rattle.std.specs.Prelude.{ℕ}

-- an insertion as a put
abbrev pub as_put : TxnOp → TxnOp
as_put (operations.Insert doc) = operations.Put doc
as_put (operations.Put doc) = operations.Put doc
as_put (operations.Kill id) = operations.Kill id
as_put operations.Clear = operations.Clear

abbrev pub with_puts : Txn → Txn
with_puts txn = record { ops = map as_put txn.ops }

-- the numbers of a value, a document, an operation and a transaction are those that their types have
abbrev pub IsNumber : Value → Type 0
IsNumber (values.Whole number) = FitsSigned w64 number

pub record DocNumbers (doc : Doc) : Type 0 where
  pub id : doc.id < 2 ^ 64
  pub values : All IsNumber doc.values
  pub zones : All (λ tokens. All (λ span. span.zone < 2 ^ 16) tokens.spans) doc.fields

abbrev pub OpNumbers : TxnOp → Type 0
OpNumbers (operations.Insert doc) = DocNumbers doc
OpNumbers (operations.Put doc) = DocNumbers doc
OpNumbers (operations.Kill id) = id < 2 ^ 64
OpNumbers operations.Clear = Unit {0}

abbrev pub HasNumbers : Txn → Type 0
HasNumbers txn = All OpNumbers txn.ops

-- what is answered where this is read; want of memory alone is free
abbrev pub GivesTxn : Result Txn (Or BadTxn) → Result Txn ℕ → Type 0
GivesTxn (Ok txn) read = read ≡ Ok txn
GivesTxn (Err NoMemory) read = Unit {0}
GivesTxn (Err (Fault bad)) read = read ≡ Err bad.place
