-- INSERT: the transaction that its rows become, and why they are refused. "INSERT and REPLACE syntax" of the manual.
use Rattle.std.specs.Prelude.{◌≡◌, ℕ, ℤ, pos, ◌⊎◌, ◌==◌, ◌&&◌, negsuc, int_le, List, [], ◌∷◌, ◌++◌, Bool, length, take, replicate, Option, Some, None, if◌then◌else◌, slice_get, slice_set, Result, Ok, Err}
use Rattle.std.specs.List.{AllZip, list_any, filter_map, zip}
use Rattle.std.specs.Str.{bytes_eq, is_utf8}
use Rattle.srch_base.specs.declared.faults.Or.{Or}
use Rattle.srch_base.specs.declared.faults.Or.TheVariants.{NoMemory, Fault}
use Rattle.charset_map.specs.Spans.{folded}
use Rattle.doc_types.specs.declared.documents.Doc.{Doc}
use Rattle.doc_types.specs.declared.schema.Schema.{Schema}
use Rattle.doc_types.specs.declared.schema.AttrKind.{AttrKind}
use Rattle.doc_types.specs.declared.schema.AttrKind.TheVariants.{Uint, Bool as Flag, Bigint, Timestamp}
use Rattle.doc_types.specs.declared.schema.Value.TheVariants.{Whole}
use Rattle.doc_types.specs.declared.tokens.FieldTokens.{FieldTokens}
use Rattle.doc_types.specs.declared.transactions.Txn.{Txn}
use Rattle.doc_types.specs.declared.transactions.TxnOp.{TxnOp}
use Rattle.doc_types.specs.declared.transactions.TxnOp.TheVariants as operations
use Rattle.doc_types.specs.Documents.{IsField}
use Rattle.doc_types.specs.Transactions.{IsTxnOf}
use Rattle.doc_tokens.specs.Tokens.{TokensOf, IsTooLong}
use Rattle.index_conf.specs.declared.conf.IndexConf.{IndexConf}
use Rattle.ql_tree.specs.declared.statement.Val.{Val}
use Rattle.ql_tree.specs.declared.statement.Val.TheVariants.{Number, Text}
use Rattle.ql_columns.specs.declared.columns.IndexColumn.{IndexColumn}
use Rattle.ql_columns.specs.declared.columns.IndexColumn.TheVariants.{Id, Field, Attr}
use Rattle.ql_columns.specs.Columns.{id_name, kind_of, name_fault, name_of, column_named, all_columns}
use Rattle.ql_refusals.specs.Refusals.{Refused, first, first_of, unless, id_missing, wrong_number, wrong_kind, id_out_of_range, value_out_of_range, too_many_positions}

-- the columns that a row's values are for: those that the statement names, or all in schema order
abbrev pub targets : Schema → Option (List (List ℕ)) → List IndexColumn
targets schema None = all_columns schema
targets schema (Some names) = filter_map (column_named schema) names

-- a name is one of these
abbrev pub is_among : List ℕ → List (List ℕ) → Bool
is_among name names = list_any (λ other. bytes_eq other name) names

-- what is wrong with names of columns after others, from left to right
abbrev pub names_fault : Schema → List (List ℕ) → List (List ℕ) → Option Refused
names_fault schema before [] = None
names_fault schema before (name ∷ names) =
    first (name_fault schema (is_among name before) name) (names_fault schema (before ++ name ∷ []) names)

-- the columns have no id
abbrev pub id_fault : List (List ℕ) → Option Refused
id_fault names = unless (is_among id_name names) id_missing

-- what is wrong with the columns
abbrev pub columns_fault : Schema → Option (List (List ℕ)) → Option Refused
columns_fault schema None = None
columns_fault schema (Some names) = first (names_fault schema [] names) (id_fault names)

-- the number lies between these, both included
abbrev pub is_between : ℤ → ℤ → ℤ → Bool
is_between low high number = int_le low number && int_le number high

-- the numbers that an attribute of a kind holds
abbrev pub holds : AttrKind → ℤ → Bool
holds Uint number = is_between (pos 0) (pos 4294967295) number
holds Flag number = is_between (pos 0) (pos 1) number
holds Bigint number = is_between (negsuc 9223372036854775807) (pos 9223372036854775807) number
holds Timestamp number = is_between (pos 0) (pos 4294967295) number

-- what is wrong with a value for a column; no text of a statement has bytes that aren't UTF-8
abbrev pub value_fault : Schema → IndexColumn → Val → Option Refused
value_fault schema Id (Number number) = unless (is_between (pos 1) (pos 18446744073709551615) number) id_out_of_range
value_fault schema Id (Text text) = Some (wrong_kind id_name)
value_fault schema (Field field) (Number number) = Some (wrong_kind (name_of schema (Field field)))
value_fault schema (Field field) (Text text) = unless (is_utf8 text) (wrong_kind (name_of schema (Field field)))
value_fault schema (Attr attr) (Number number) = unless (holds (kind_of schema attr) number) (value_out_of_range (name_of schema (Attr attr)))
value_fault schema (Attr attr) (Text text) = Some (wrong_kind (name_of schema (Attr attr)))

-- what is wrong with values, each for its column, from left to right
abbrev pub values_fault : Schema → List IndexColumn → List Val → Option Refused
values_fault schema targets values = first_of (λ one. value_fault schema one.0 one.1) (zip targets values)

-- what is wrong with a row: the number of its values, then the values
abbrev pub row_fault : Schema → List IndexColumn → List Val → Option Refused
row_fault schema targets row = if length row == length targets then values_fault schema targets row else Some wrong_number

-- what is wrong with rows, from left to right
abbrev pub rows_fault : Schema → List IndexColumn → List (List Val) → Option Refused
rows_fault schema targets rows = first_of (row_fault schema targets) rows

-- the value that the index's character table gives a character
abbrev pub fold_of : IndexConf → ℕ → Option ℕ
fold_of conf = folded conf.charset

-- The value is put into its column of a document: a field gets the tokens of the text, which isn't too long.
abbrev pub Puts : IndexConf → IndexColumn → Val → Doc → Doc → Type 0
Puts conf Id (Number number) old new = (id : ℕ) × (number ≡ pos id) × (new ≡ record old { id = id })
Puts conf (Field field) (Text text) old new =
    (tokens : FieldTokens) × TokensOf (fold_of conf) conf.rules text tokens × IsField tokens × (new ≡ record old { fields = slice_set old.fields field tokens })
Puts conf (Attr attr) (Number number) old new = new ≡ record old { values = slice_set old.values attr (Whole number) }
Puts conf target value old new = ⊥

-- The values are put into their columns, one after the other.
abbrev pub Fills : IndexConf → List IndexColumn → List Val → Doc → Doc → Type 0
Fills conf [] values old new = new ≡ old
Fills conf (target ∷ targets) [] old new = new ≡ old
Fills conf (target ∷ targets) (value ∷ values) old new = (next : Doc) × Puts conf target value old next × Fills conf targets values next new

-- a field without text
abbrev pub no_tokens : FieldTokens
no_tokens = record { words = []; spans = [] }

-- a document of which nothing is given: its fields are empty, its attributes 0
abbrev pub blank : Schema → Doc
blank schema = record {
  id = 0;
  fields = replicate (length schema.fields) no_tokens;
  values = replicate (length schema.attrs) (Whole (pos 0));
}

-- the document of a row
abbrev pub IsDocument : IndexConf → List IndexColumn → List Val → Doc → Type 0
IsDocument conf targets row doc = Fills conf targets row (blank conf.schema) doc

-- The operation inserts the document of a row.
abbrev pub Inserts : IndexConf → List IndexColumn → List Val → TxnOp → Type 0
Inserts conf targets row (operations.Insert doc) = IsDocument conf targets row doc
Inserts conf targets row op = ⊥

-- The column is a field, and the text has too many positions.
abbrev pub IsTooLongFor : IndexConf → IndexColumn → Val → Refused → Type 0
IsTooLongFor conf (Field field) (Text text) refusal =
    (position : ℕ) × IsTooLong (fold_of conf) conf.rules text position × (refusal ≡ too_many_positions (name_of conf.schema (Field field)))
IsTooLongFor conf target value refusal = ⊥

-- A row has a text that is too long, after texts that aren't.
pub record RefusesRow (conf : IndexConf) (targets : List IndexColumn) (row : List Val) (refusal : Refused) : Type 0 where
  pub place : ℕ
  pub doc : Doc
  pub good : Fills conf (take place targets) (take place row) (blank conf.schema) doc
  pub target : IndexColumn
  pub for : slice_get targets place ≡ Some target
  pub value : Val
  pub is : slice_get row place ≡ Some value
  pub too_long : IsTooLongFor conf target value refusal

-- Some row has a text that is too long, and those before it don't.
pub record RefusesRows (conf : IndexConf) (targets : List IndexColumn) (rows : List (List Val)) (refusal : Refused) : Type 0 where
  pub place : ℕ
  pub ops : List TxnOp
  pub good : AllZip (Inserts conf targets) (take place rows) ops
  pub row : List Val
  pub is : slice_get rows place ≡ Some row
  pub refuses : RefusesRow conf targets row refusal

-- The values of an INSERT are good: the columns, and the numbers, kinds and ranges of each row's values.
pub record AreGood (schema : Schema) (columns : Option (List (List ℕ))) (rows : List (List Val)) : Type 0 where
  pub good_columns : columns_fault schema columns ≡ None
  pub good_rows : rows_fault schema (targets schema columns) rows ≡ None

-- Rows become this transaction: nothing is wrong with their values, and it inserts the document of each row.
pub record Makes (conf : IndexConf) (columns : Option (List (List ℕ))) (rows : List (List Val)) (txn : Txn) : Type 0 where
  pub good : AreGood conf.schema columns rows
  pub inserts : AllZip (Inserts conf (targets conf.schema columns)) rows txn.ops
  pub of : IsTxnOf conf.schema txn

-- The values of an INSERT are wrong, or a field's text has too many positions.
abbrev pub RefusesValues : IndexConf → Option (List (List ℕ)) → List (List Val) → Refused → Type 0
RefusesValues conf columns rows refusal =
    (columns_fault conf.schema columns ≡ Some refusal)
    ⊎ ((columns_fault conf.schema columns ≡ None) × (rows_fault conf.schema (targets conf.schema columns) rows ≡ Some refusal))
    ⊎ (AreGood conf.schema columns rows × RefusesRows conf (targets conf.schema columns) rows refusal)

-- what is answered to an INSERT by the index that it names; without memory nothing is said
abbrev pub MakesOr : IndexConf → Option (List (List ℕ)) → List (List Val) → Result Txn (Or Refused) → Type 0
MakesOr conf columns rows (Ok txn) = Makes conf columns rows txn
MakesOr conf columns rows (Err NoMemory) = Unit {0}
MakesOr conf columns rows (Err (Fault refusal)) = RefusesValues conf columns rows refusal
