-- An example of commits: over documents 1, 2 and 3, whatever their texts and values are.
use Rattle.std.specs.Prelude.{ℕ, List, [], ◌∷◌}
use Rattle.doc_types.specs.declared.documents.Doc.{Doc}
use Rattle.doc_types.specs.declared.documents.DocRow.{DocRow}
use Rattle.doc_types.specs.declared.schema.Value.{Value}
use Rattle.doc_types.specs.declared.tokens.FieldTokens.{FieldTokens}
use Rattle.doc_types.specs.declared.transactions.TxnOp.{TxnOp}
use Rattle.doc_types.specs.declared.transactions.TxnOp.TheVariants as operations
use Rattle.doc_types.specs.Rows.{Rows, rows_of}
use Rattle.doc_types.specs.Commits.{Change, Put, Kill, Entry}

-- What documents have, by their ids.
pub record Contents : Type 0 where
  pub fields : ℕ → List FieldTokens
  pub values : ℕ → List Value

-- the document of an id
abbrev pub document : Contents → ℕ → Doc
document has id = record { id = id; fields = has.fields id; values = has.values id }

-- the same as the commit of this number put it
abbrev pub put_by : ℕ → Doc → DocRow
put_by number doc = record { doc = doc; born = number }

-- the documents 1, 2 and 3, of the commits 1 to 3
abbrev pub three_rows : Contents → List DocRow
three_rows has = put_by 1 (document has 1) ∷ put_by 2 (document has 2) ∷ put_by 3 (document has 3) ∷ []

abbrev pub three : Contents → Rows
three has = rows_of (three_rows has)

-- 8, 1 and 9 are inserted
abbrev pub insertions : Contents → List TxnOp
insertions has = operations.Insert (document has 8) ∷ operations.Insert (document has 1) ∷ operations.Insert (document has 9) ∷ []

-- 2 is killed and inserted anew, 4 and 2 are killed, and 8 is inserted
abbrev pub exchanges : Contents → List TxnOp
exchanges has = operations.Kill 2 ∷ operations.Insert (document has 2) ∷ operations.Kill 4 ∷ operations.Kill 2 ∷ operations.Insert (document has 8) ∷ []

-- what they do to the rows
abbrev pub exchanged : Contents → List Change
exchanged has = Kill 2 ∷ Put (document has 2) ∷ Kill 4 ∷ Kill 2 ∷ Put (document has 8) ∷ []

-- the commit 7: 2 is killed, and 8 is put
abbrev pub seventh : Contents → Entry
seventh has = record { worker = 1; seq = 1; number = 7; changes = Kill 2 ∷ Put (document has 8) ∷ [] }
