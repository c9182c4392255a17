-- Rows of layers by their ids.
use Rattle.std.specs.Prelude.{ℕ, List, [], ◌∷◌, ◌++◌, Bool, ◌==◌, ◌||◌, Option, Some, None, if◌then◌else◌, map, take, drop, nat_lt}
use Rattle.std.specs.Option.{is_some, option_and_then}
use Rattle.std.specs.List.{list_any, position, prefix_len, filter, enumerate_from}
use Rattle.doc_types.specs.declared.documents.DocRow.{DocRow}
use Rattle.doc_types.specs.declared.schema.Schema.{Schema}
use Rattle.doc_types.specs.Documents.{AreRowsOf}
use Rattle.doc_types.specs.Schemas.{IsSchema}
use Rattle.doc_types.specs.Snapshots.{LayerValue, is_dead}

-- the row, unless it is dead
abbrev pub unless_dead : LayerValue → ℕ → Option ℕ
unless_dead layer row = if is_dead layer row then None else Some row

-- the number of the row that lives and has the id, if there is one
abbrev pub living_row : LayerValue → ℕ → Option ℕ
living_row layer id = option_and_then (unless_dead layer) (position (λ row. row.doc.id == id) layer.rows)

-- a row that lives has the id
abbrev pub has_living : LayerValue → ℕ → Bool
has_living layer id = is_some (living_row layer id)

-- a row of the layers that lives has it
abbrev pub lives : List LayerValue → ℕ → Bool
lives layers id = list_any (λ layer. has_living layer id) layers

-- the rows of a layer that are dead where those of these ids die, ascending
abbrev pub dead_with : (ℕ → Bool) → LayerValue → List ℕ
dead_with dies layer = map (λ e. e.0) (filter (λ e. is_dead layer e.0 || dies e.1.doc.id) (enumerate_from 0 layer.rows))

-- the layer where they die
abbrev pub layer_with : (ℕ → Bool) → LayerValue → LayerValue
layer_with dies layer = record layer { dead = dead_with dies layer }

-- how many of the rows stand before the row
abbrev pub before : ℕ → List ℕ → ℕ
before row dead = prefix_len (λ d. nat_lt d row) dead

-- two lists of rows in order, as one
abbrev pub joined : List ℕ → List ℕ → List ℕ
joined dead [] = dead
joined dead (row ∷ more) = take (before row dead) dead ++ row ∷ joined (drop (before row dead) dead) more

-- rows of one schema, ascending
pub record AreOfOne (rows : List DocRow) : Type 0 where
  pub schema : Schema
  pub limits : IsSchema schema
  pub of : AreRowsOf schema rows
