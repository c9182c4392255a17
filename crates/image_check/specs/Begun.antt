-- What is known while the parts of an image are looked at one after the other.
use Rattle.std.specs.Prelude.{◌≡◌, ℕ, ◌+◌, ◌≤◌, List, [], length}
use Rattle.doc_types.specs.declared.schema.Schema.{Schema}
use Rattle.doc_types.specs.Schemas.{IsSchema}
use Rattle.chunk_damage.specs.RowMarks.{AreMarks, RowMarks}
use Rattle.chunk_damage.specs.WordLists.{AreLists, Entry}
use Rattle.image_cover.specs.Lists.{places_of_lists}
use Rattle.image_cover.specs.Places.{Seen, take_all}
use Rattle.image_head.specs.declared.header.Sizes.{Sizes}
use Rattle.image_head.specs.Heads.{IsHead}
use Rattle.covered_rows.specs.Marked.{AreMarked}
use Rattle.image_marks.specs.Markings.{laid_rows, rows_bits, rows_starts}

-- the bytes aren't too long, and their header says these sizes of an image of the schema
pub record IsBegun (schema : Schema) (bytes : List ℕ) (sizes : Sizes) : Type 0 where
  pub limits : IsSchema schema
  pub short : length bytes ≤ 536870912
  pub head : IsHead schema bytes sizes

-- of the rows of a schema, how many places begin in each row: its own, and that of each field
abbrev pub width_of : Schema → ℕ
width_of schema = length schema.fields + 1

-- the rows as they are laid out: there are no more places than bytes where no part is damaged
abbrev pub laid_in : List ℕ → List RowMarks → List RowMarks
laid_in bytes marks = laid_rows (length bytes) [] marks

-- the marks are those of the rows, and these places are laid out and taken by them
pub record HaveMarks (schema : Schema) (bytes : List ℕ) (starts : List ℕ) (s : Seen) : Type 0 where
  pub marks : List RowMarks
  pub are : AreMarks schema bytes marks
  pub begin : starts ≡ rows_starts [] (laid_in bytes marks)
  pub bits : s.0 ≡ rows_bits [] (laid_in bytes marks)
  pub marked : AreMarked starts (width_of schema) s (laid_in bytes marks)

-- the postings are lists too, and their hits have taken their places
pub record HaveLists (schema : Schema) (bytes : List ℕ) (starts : List ℕ) (s : Seen) : Type 0 where
  pub before : Seen
  pub marks : HaveMarks schema bytes starts before
  pub lists : List (List Entry)
  pub are : AreLists schema bytes lists
  pub taken : s ≡ take_all before (places_of_lists starts (width_of schema) lists)
