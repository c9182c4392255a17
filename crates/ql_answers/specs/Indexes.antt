-- Indexes, as statements name them.
use Rattle.std.specs.Prelude.{◌≡◌, ℕ, ◌+◌, List, [], ◌∷◌, Option, Some, None, slice_get, if◌then◌else◌}
use Rattle.std.specs.Str.{bytes_eq}
use Rattle.index_conf.specs.declared.conf.IndexConf.{IndexConf}
use Rattle.ql_refusals.specs.Refusals.{Refused, unknown_index}

-- the place of the index with a name, the first of these indexes standing at this place
abbrev pub place_from : ℕ → List IndexConf → List ℕ → Option ℕ
place_from place [] name = None
place_from place (conf ∷ confs) name = if bytes_eq conf.schema.name name then Some place else place_from (place + 1) confs name

abbrev pub place_of : List IndexConf → List ℕ → Option ℕ
place_of confs name = place_from 0 confs name

-- why no statement of this index is run: it isn't there
abbrev pub place_fault : Option ℕ → List ℕ → Option Refused
place_fault None name = Some (unknown_index name)
place_fault (Some place) name = None

abbrev pub index_fault : List IndexConf → List ℕ → Option Refused
index_fault confs name = place_fault (place_of confs name) name

-- Statements of this name are run over this index, which is at this place.
pub record Serves (confs : List IndexConf) (name : List ℕ) (place : ℕ) (conf : IndexConf) : Type 0 where
  pub good : index_fault confs name ≡ None
  pub place_is : place_of confs name ≡ Some place
  pub is : slice_get confs place ≡ Some conf
