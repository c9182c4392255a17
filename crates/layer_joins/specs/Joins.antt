-- Joins: what is said of layers of which the last ones, in memory, were put together.
use Rattle.std.specs.Prelude.{◌≡◌, ◌≢◌, ◌<◌, ℕ, List, ◌++◌, false, All, AllPairs, take, drop}
use Rattle.std.specs.List.Sorted.{IsPermutation}
use Rattle.doc_types.specs.declared.documents.DocRow.{DocRow}
use Rattle.doc_types.specs.declared.schema.Schema.{Schema}
use Rattle.doc_types.specs.Chunks.{IsContent}
use Rattle.doc_types.specs.Documents.{IsDocOf}
use Rattle.doc_types.specs.Schemas.{IsSchema}
use Rattle.doc_types.specs.Snapshots.{LayerValue, SnapshotValue, all_living}
use Rattle.layer_commit.specs.Commits.{layers_of}

-- the rows' documents are of one schema
pub record AreOfOne (rows : List DocRow) : Type 0 where
  pub schema : Schema
  pub limits : IsSchema schema
  pub docs : All (λ row. IsDocOf schema row.doc) rows

-- no two rows have one id
abbrev pub AreApart : List DocRow → Type 0
AreApart rows = AllPairs (λ row other. row.doc.id ≢ other.doc.id) rows

-- the rows by ascending id, as a chunk holds them
pub record AreSorted (rows sorted : List DocRow) : Type 0 where
  pub moved : IsPermutation rows sorted
  pub ascend : AllPairs (λ row later. row.doc.id < later.doc.id) sorted
  pub content : IsContent sorted

-- The first layers, maybe all of them, are as they were, and in place of the others, which are in memory, there is one layer of their
-- rows that live, or none where none does.
pub record Joins (old new : List LayerValue) : Type 0 where
  pub start : ℕ
  pub memory : All (λ layer. layer.disk ≡ false) (drop start old)
  pub rows : List DocRow
  pub are : IsPermutation (all_living (drop start old)) rows
  pub layers : new ≡ take start old ++ layers_of rows

-- all is as before, but for some of the last layers, which may have been put together
pub record MayMerge (old new : SnapshotValue) : Type 0 where
  pub number : new.number ≡ old.number
  pub shape : new.shape ≡ old.shape
  pub joins : Joins old.layers new.layers
