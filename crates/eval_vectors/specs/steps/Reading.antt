-- What the tests read: an index, and rows of its schema.
use Rattle.std.specs.Prelude.{◌≡◌, ◌≤◌, List, [], false, All, length}
use Rattle.index_conf.specs.declared.conf.IndexConf.{IndexConf}
use Rattle.doc_types.specs.declared.documents.DocRow.{DocRow}
use Rattle.doc_types.specs.declared.schema.Schema.{Schema}
use Rattle.doc_types.specs.declared.tokens.FieldTokens.{FieldTokens}
use Rattle.doc_types.specs.Documents.{AreRowsOf, IsDocOf, IsField, word_count}
use Rattle.doc_types.specs.Schemas.{IsSchema}
use Rattle.doc_types.specs.Snapshots.{LayerValue}

-- an index keeps the limits, and its texts are marked by the zones of its schema
pub record IsSoundIndex (index : IndexConf) : Type 0 where
  pub schema : IsSchema index.schema
  pub zones : index.rules.zones ≡ index.schema.zones

-- a field with few words and spans
pub record IsShortField (tokens : FieldTokens) : Type 0 where
  pub field : IsField tokens
  pub words : length tokens.words ≤ 1000
  pub spans : length tokens.spans ≤ 1000

-- a row of the schema with few words
pub record IsShortRow (schema : Schema) (row : DocRow) : Type 0 where
  pub doc : IsDocOf schema row.doc
  pub few_words : word_count row ≤ 32000

-- rows of the schema, as many as a chunk takes
pub record AreFewRows (schema : Schema) (rows : List DocRow) : Type 0 where
  pub of : AreRowsOf schema rows
  pub short : All (λ row. word_count row ≤ 32000) rows
  pub few : length rows ≤ 10000

-- a layer in memory of rows of which none is dead
abbrev pub whole : List DocRow → LayerValue
whole rows = record { rows = rows; disk = false; dead = [] }
