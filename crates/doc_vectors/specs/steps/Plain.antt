-- The columns of an index that has none.
use Rattle.std.specs.Prelude.{[], false}
use Rattle.doc_types.specs.declared.schema.Schema.{Schema}

abbrev pub plain : Schema
plain = record { name = []; fields = []; attrs = []; zones = []; sp = false; min_prefix = 0 }
