-- The chunks that are put together, and the rows of them.
use Rattle.std.specs.Prelude.{◌≡◌, ◌<◌, ℕ, ◌+◌, List, [], ◌∷◌, false, length, AllPairs, get_or}
use Rattle.std.specs.List.{flat_map}
use Rattle.doc_types.specs.declared.documents.DocRow.{DocRow}
use Rattle.doc_types.specs.Chunks.{AreWordsOf}
use Rattle.doc_types.specs.Snapshots.{living}

-- a part: its rows, its words, the numbers of its dead rows, and how many rows stand before its first one
pub record PartValue : Type 0 where
  pub rows : List DocRow
  pub words : List (List ℕ)
  pub dead : List ℕ
  pub first : ℕ

-- a part's words are those of its rows, and its dead rows ascend
pub record IsPart (part : PartValue) : Type 0 where
  pub words : AreWordsOf part.rows part.words
  pub dead : AllPairs (λ row later. row < later) part.dead

-- a row and a part that stand for none
abbrev pub blank_row : DocRow
blank_row = record { doc = record { id = 0; fields = []; values = [] }; born = 0 }

abbrev pub blank_part : PartValue
blank_part = record { rows = []; words = []; dead = []; first = 0 }

-- the part's row of this number
abbrev pub row_at : PartValue → ℕ → DocRow
row_at part row = get_or part.rows row blank_row

-- the part of this number
abbrev pub part_at : List PartValue → ℕ → PartValue
part_at parts n = get_or parts n blank_part

-- the rows of a part that live
abbrev pub living_of : PartValue → List DocRow
living_of part = living (record { rows = part.rows; disk = false; dead = part.dead })

-- all rows
abbrev pub all_rows : List PartValue → List DocRow
all_rows parts = flat_map (λ part. part.rows) parts

-- so many rows stand before the first part, and before each other one those of the parts before it too
abbrev pub AreLaid : ℕ → List PartValue → Type 0
AreLaid n [] = Unit {0}
AreLaid n (part ∷ parts) = (part.first ≡ n) × AreLaid (n + length part.rows) parts
