-- A store of tests: the columns of an index, and the snapshot after its last commit, whose layers have rows of these columns.
use Rattle.std.specs.Prelude.{List, All}
use Rattle.doc_types.specs.declared.schema.Schema.{Schema}
use Rattle.doc_types.specs.Documents.{AreRowsOf}
use Rattle.doc_types.specs.Schemas.{IsSchema}
use Rattle.doc_types.specs.Snapshots.{LayerValue, SnapshotValue}

pub record StoreValue : Type 0 where
  pub schema : Schema
  pub snapshot : SnapshotValue

pub record IsStore (schema : Schema) (layers : List LayerValue) : Type 0 where
  pub limits : IsSchema schema
  pub rows : All (λ layer. AreRowsOf schema layer.rows) layers
