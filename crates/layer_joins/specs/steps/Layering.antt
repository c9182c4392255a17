-- Layers in memory, and how they are put together.
use Rattle.std.specs.Prelude.{◌≡◌, ◌<◌, ℕ, List, [], ◌∷◌, Option, Some, None, false, All, AllPairs, drop, length}
use Rattle.std.specs.List.Sorted.{IsPermutation}
use Rattle.doc_types.specs.declared.documents.DocRow.{DocRow}
use Rattle.doc_types.specs.Snapshots.{IsLayer, LayerValue}

-- a layer in memory of these rows, sorted
pub record IsLayerOf (rows : List DocRow) (layer : LayerValue) : Type 0 where
  pub is : IsLayer layer
  pub sorted : IsPermutation rows layer.rows
  pub ascend : AllPairs (λ row later. row.doc.id < later.doc.id) layer.rows
  pub memory : layer.disk ≡ false
  pub whole : layer.dead ≡ []

-- one layer of these rows, or none where there is no row
abbrev pub IsMerged : List DocRow → Option LayerValue → Type 0
IsMerged rows None = rows ≡ []
IsMerged rows (Some layer) = (0 < length rows) × IsLayerOf rows layer

-- a layer or none, as a list
abbrev pub option_list : Option LayerValue → List LayerValue
option_list None = []
option_list (Some layer) = layer ∷ []

-- the layers from this one on are in memory
abbrev pub AreInMemory : ℕ → List LayerValue → Type 0
AreInMemory start layers = All (λ layer. layer.disk ≡ false) (drop start layers)
