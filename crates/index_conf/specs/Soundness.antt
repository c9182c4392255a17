-- What holds of every configuration that is served.
use Rattle.std.specs.Prelude.{◌≡◌, ◌<◌, ◌≤◌, All, length, map}
use Rattle.doc_types.specs.Schemas.{IsSchema, AreDistinct}
use Rattle.index_conf.specs.declared.conf.Conf.{Conf}
use Rattle.index_conf.specs.declared.conf.TheConstants.{MAX_INDEXES}

-- what holds of every configuration: it has some indexes and not too many, their names and paths are distinct, and each has
-- a schema within the limits, whose zones and boundaries are those that its texts are marked by
pub record IsSound (conf : Conf) : Type 0 where
  pub some : 0 < length conf.indexes
  pub few : length conf.indexes ≤ MAX_INDEXES
  pub names : AreDistinct (map (λ index. index.schema.name) conf.indexes)
  pub paths : AreDistinct (map (λ index. index.path) conf.indexes)
  pub schemas : All (λ index. IsSchema index.schema) conf.indexes
  pub zones : All (λ index. index.rules.zones ≡ index.schema.zones) conf.indexes
  pub sp : All (λ index. index.rules.sp ≡ index.schema.sp) conf.indexes
