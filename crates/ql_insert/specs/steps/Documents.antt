-- How the documents of an INSERT are built.
use Rattle.std.specs.Prelude.{◌≡◌, List, length, All, Result, Ok, Err}
use Rattle.std.specs.List.{AllZip}
use Rattle.srch_base.specs.declared.faults.Or.{Or}
use Rattle.srch_base.specs.declared.faults.Or.TheVariants as causes
use Rattle.doc_types.specs.declared.documents.Doc.{Doc}
use Rattle.doc_types.specs.declared.schema.Schema.{Schema}
use Rattle.doc_types.specs.declared.transactions.Txn.{Txn}
use Rattle.doc_types.specs.Transactions.{IsTxnOf}
use Rattle.doc_types.specs.Documents.{IsField, IsDocOf}
use Rattle.index_conf.specs.declared.conf.IndexConf.{IndexConf}
use Rattle.ql_tree.specs.declared.statement.Val.{Val}
use Rattle.ql_columns.specs.declared.columns.IndexColumn.{IndexColumn}
use Rattle.ql_refusals.specs.Refusals.{Refused}
use Rattle.ql_insert.specs.Insertions.{Puts, IsTooLongFor, IsDocument, Inserts, RefusesRow, RefusesRows}

-- a document of a schema, but for the number of its spans
pub record IsShaped (schema : Schema) (doc : Doc) : Type 0 where
  pub fields : length doc.fields ≡ length schema.fields
  pub values : length doc.values ≡ length schema.attrs
  pub tokens : All IsField doc.fields

-- a value was put into its column, or its text is too long, or memory was refused
abbrev pub PutsOr : {T : Type 0} → IndexConf → IndexColumn → Val → Doc → Result T (Or Refused) → Doc → Type 0
PutsOr conf target value old (Ok x) new = Puts conf target value old new × IsShaped conf.schema new
PutsOr conf target value old (Err causes.NoMemory) new = Unit {0}
PutsOr conf target value old (Err (causes.Fault refusal)) new = IsTooLongFor conf target value refusal

-- the document of a row was built, or a text of it is too long, or memory was refused
abbrev pub Builds : IndexConf → List IndexColumn → List Val → Result Doc (Or Refused) → Type 0
Builds conf targets row (Ok doc) = IsDocument conf targets row doc × IsDocOf conf.schema doc
Builds conf targets row (Err causes.NoMemory) = Unit {0}
Builds conf targets row (Err (causes.Fault refusal)) = RefusesRow conf targets row refusal

-- the insertions of rows were made, or a text of one is too long, or memory was refused
abbrev pub BuildsAll : IndexConf → List IndexColumn → List (List Val) → Result Txn (Or Refused) → Type 0
BuildsAll conf targets rows (Ok txn) = AllZip (Inserts conf targets) rows txn.ops × IsTxnOf conf.schema txn
BuildsAll conf targets rows (Err causes.NoMemory) = Unit {0}
BuildsAll conf targets rows (Err (causes.Fault refusal)) = RefusesRows conf targets rows refusal
