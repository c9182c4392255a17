-- The rows that live, and the numbers that they get.
use Rattle.std.specs.Prelude.{◌≡◌, ◌≢◌, ◌<◌, ◌≤◌, ℕ, ◌+◌, List, ◌==◌, not, length, map, slice_get, slice_index, All}
use Rattle.std.specs.List.{filter, list_any, flat_map, enumerate_from}
use Rattle.doc_types.specs.declared.cursor.TheConstants.{NO_ROW}
use Rattle.doc_types.specs.declared.documents.DocRow.{DocRow}
use Rattle.image_join.specs.declared.ordering.Living.{Living}
use Rattle.image_join.specs.steps.Parts.{PartValue, part_at, row_at}

-- the row, and where it stands among the rows of all parts
abbrev pub row_in : List PartValue → Living → DocRow
row_in parts living = row_at (part_at parts living.part) living.row

abbrev pub place_in : List PartValue → Living → ℕ
place_in parts living = (part_at parts living.part).first + living.row

-- the row is there, and has the id
pub record IsThere (parts : List PartValue) (living : Living) : Type 0 where
  pub part : living.part < length parts
  pub row : living.row < length (part_at parts living.part).rows
  pub id : living.id ≡ (row_in parts living).doc.id

-- the rows that live of a part of this number, and of all parts
abbrev pub living_in : ℕ → PartValue → List Living
living_in n part = map (λ e. record { id = e.1.doc.id; part = n; row = e.0 }) (filter (λ e. not (list_any (λ d. d == e.0) part.dead)) (enumerate_from 0 part.rows))

abbrev pub all_living_in : List PartValue → List Living
all_living_in parts = flat_map (λ e. living_in e.0 e.1) (enumerate_from 0 parts)

-- the new number of a part's row, or `NO_ROW`
abbrev pub number_in : List ℕ → PartValue → ℕ → ℕ
number_in numbers part row = slice_index numbers (part.first + row)

-- there are numbers for the part's rows, and each that has one is the row of that number
pub record IsNumbered (numbers : List ℕ) (rows : List DocRow) (part : PartValue) : Type 0 where
  pub within : part.first + length part.rows ≤ length numbers
  pub from : (row : ℕ) → row < length part.rows → number_in numbers part row ≢ NO_ROW → slice_get rows (number_in numbers part row) ≡ slice_get part.rows row

-- the rows are those of the parts that have numbers, in the order of these
pub record AreNumbered (parts : List PartValue) (numbers : List ℕ) (rows : List DocRow) : Type 0 where
  pub few : length rows < NO_ROW
  pub each : All (IsNumbered numbers rows) parts
  pub to : (n : ℕ) → n < length rows → (part : ℕ) × (row : ℕ) × (part < length parts) × (row < length (part_at parts part).rows) × (number_in numbers (part_at parts part) row ≡ n)
