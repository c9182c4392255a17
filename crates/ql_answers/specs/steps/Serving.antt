-- What is answered for the name of an index.
use Rattle.std.specs.Prelude.{◌≡◌, ◌<◌, ℕ, List, Some, None, Result, Ok, Err, length}
use Rattle.index_conf.specs.declared.conf.IndexConf.{IndexConf}
use Rattle.ql_answers.specs.Indexes.{index_fault, place_of}
use Rattle.ql_refusals.specs.Refusals.{Refused}

abbrev pub ServedOr : List IndexConf → List ℕ → Result ℕ Refused → Type 0
ServedOr confs name (Ok place) = (index_fault confs name ≡ None) × (place_of confs name ≡ Some place) × (place < length confs)
ServedOr confs name (Err refusal) = index_fault confs name ≡ Some refusal
