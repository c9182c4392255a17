-- An index that can be served.
use Rattle.std.specs.Prelude.{◌≡◌}
use Rattle.doc_types.specs.Schemas.{IsSchema}
use Rattle.index_conf.specs.declared.conf.IndexConf.{IndexConf}

-- an index that can be served
pub record IsServable (index : IndexConf) : Type 0 where
  pub schema : IsSchema index.schema
  pub zones : index.rules.zones ≡ index.schema.zones
