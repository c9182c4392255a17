-- The marks of an image as a part of its own.
use Rattle.std.specs.Prelude.{ℕ, List}
use Rattle.doc_types.specs.declared.schema.Schema.{Schema}
use Rattle.item_lists.specs.Items.{AreAllItems, IsFirstWrong}
use Rattle.chunk_damage.specs.RowMarks.{AreTold, RowMarks, and_marks, bytes_of}

-- the part is the marks of so many rows of an image, or isn't, first at this place
abbrev pub AreMarksIn : Schema → List ℕ → List ℕ → ℕ → List RowMarks → Type 0
AreMarksIn schema image part rows marks = AreAllItems bytes_of and_marks (AreTold schema image) part (0, 0) rows marks

abbrev pub AreBadMarksIn : Schema → List ℕ → List ℕ → ℕ → ℕ → Type 0
AreBadMarksIn schema image part rows place = IsFirstWrong bytes_of and_marks (AreTold schema image) part (0, 0) rows place
