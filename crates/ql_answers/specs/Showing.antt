-- What SHOW, DESCRIBE and SELECT of a variable show. "SHOW TABLES syntax", "DESCRIBE syntax" and "SELECT @@system_variable
-- syntax" of the manual.
use Rattle.std.specs.Prelude.{ℕ, ◌+◌, Bool, decimal, List, [], ◌∷◌, ◌++◌, map, take, codes, Option, Some, None, if◌then◌else◌}
use Rattle.std.specs.Str.{bytes_eq}
use Rattle.doc_types.specs.declared.schema.Schema.{Schema}
use Rattle.doc_types.specs.declared.schema.AttrKind.{AttrKind}
use Rattle.doc_types.specs.declared.schema.AttrKind.TheVariants.{Uint, Bool as Flag, Bigint, Timestamp}
use Rattle.index_conf.specs.declared.conf.IndexConf.{IndexConf}
use Rattle.reply_rows.specs.declared.result_set.ResultSet.{ResultSet}
use Rattle.ql_columns.specs.Columns.{id_name}
use Rattle.ql_answers.specs.Replies.{texts, single, pair}
use Rattle.mysql_wire.specs.declared.rows.Cell.{Cell}
use Rattle.table_search.specs.declared.keywords.WordDocs.{WordDocs}
use Rattle.ql_answers.specs.declared.meta.Meta.{Meta}

-- the value of a system variable: empty, but for the version's comment
abbrev pub variable_value : List ℕ → List ℕ
variable_value name = if bytes_eq name (codes "version_comment") then codes "searchd" else []

-- the rows that a LIMIT leaves
abbrev pub limited : {X : Type 0} → Option ℕ → List X → List X
limited None rows = rows
limited (Some count) rows = take count rows

-- SELECT @@name [LIMIT n]
abbrev pub variable : List ℕ → Option ℕ → ResultSet
variable name limit = texts ((codes "@@" ++ name) ∷ []) (limited limit (single (variable_value name) ∷ []))

-- SELECT DATABASE(): none is chosen
abbrev pub current_database : ResultSet
current_database = texts (codes "database()" ∷ []) (single [] ∷ [])

-- SHOW DATABASES: there are none
abbrev pub databases : ResultSet
databases = texts (codes "Database" ∷ []) []

-- SHOW WARNINGS: there are none
abbrev pub warnings : ResultSet
warnings = texts (codes "Level" ∷ codes "Code" ∷ codes "Message" ∷ []) []

-- SHOW VARIABLES
abbrev pub variables : Bool → ResultSet
variables autocommit = texts (codes "Variable_name" ∷ codes "Value" ∷ []) (pair (codes "autocommit") (if autocommit then codes "1" else codes "0") ∷ [])

-- SHOW INDEX STATUS: how many documents live, and how many chunks are on the disk
abbrev pub index_status : ℕ → ℕ → ResultSet
index_status documents chunks =
    texts (codes "Variable_name" ∷ codes "Value" ∷ [])
    (pair (codes "index_type") (codes "rt") ∷ pair (codes "indexed_documents") (decimal documents) ∷ pair (codes "disk_chunks") (decimal chunks) ∷ [])

-- SHOW TABLES: the indexes in the order of the configuration
abbrev pub tables : List IndexConf → ResultSet
tables confs = texts (codes "Index" ∷ codes "Type" ∷ []) (map (λ conf. pair conf.schema.name (codes "rt")) confs)

-- the kind of an attribute, as it is shown
abbrev pub kind_text : AttrKind → List ℕ
kind_text Uint = codes "uint"
kind_text Flag = codes "bool"
kind_text Bigint = codes "bigint"
kind_text Timestamp = codes "timestamp"

-- DESCRIBE: the id, the fields, the attributes
abbrev pub description_rows : Schema → List (List Cell)
description_rows schema =
    pair id_name (codes "bigint") ∷ map (λ field. pair field (codes "field")) schema.fields
    ++ map (λ attr. pair attr.0 (kind_text attr.1)) schema.attrs

abbrev pub description : Schema → ResultSet
description schema = texts (codes "Field" ∷ codes "Type" ∷ []) (description_rows schema)

-- a name with a number in brackets
abbrev pub numbered : List ℕ → ℕ → List ℕ
numbered name number = name ++ decimal number ++ codes "]"

-- a word of a SELECT, and the number of documents that have it
abbrev pub keyword_row : ℕ → WordDocs → List Cell
keyword_row number word = pair (numbered (codes "keyword[") number) word.word

abbrev pub docs_row : ℕ → WordDocs → List Cell
docs_row number word = pair (numbered (codes "docs[") number) (decimal word.docs)

-- its words, numbered on from here
abbrev pub word_rows : ℕ → List WordDocs → List (List Cell)
word_rows from [] = []
word_rows from (word ∷ words) = keyword_row from word ∷ docs_row from word ∷ word_rows (from + 1) words

abbrev pub meta_rows : Meta → List (List Cell)
meta_rows meta = pair (codes "total") (decimal meta.total) ∷ pair (codes "total_found") (decimal meta.total_found) ∷ word_rows 0 meta.words

-- what is told of the last SELECT, if there was one
abbrev pub told_rows : Option Meta → List (List Cell)
told_rows None = []
told_rows (Some meta) = meta_rows meta

-- SHOW META
abbrev pub meta_set : Option Meta → ResultSet
meta_set told = texts (codes "Variable_name" ∷ codes "Value" ∷ []) (told_rows told)
