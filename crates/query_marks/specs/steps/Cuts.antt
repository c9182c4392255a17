-- Where a text may be cut.
use Rattle.std.specs.Prelude.{◌≤◌, ℕ, List}
use Rattle.std.specs.Str.{IsCharBoundary}
use Rattle.query_pieces.specs.declared.piece.Slice.{Slice}
use Rattle.query_pieces.specs.declared.piece.Form.{Form}
use Rattle.query_pieces.specs.declared.piece.Form.TheVariants as forms

-- a slice lies in a text, and its ends cut no character
pub record IsCut (text : List ℕ) (s : Slice) : Type 0 where
  pub ahead : s.from ≤ s.to
  pub from : IsCharBoundary text s.from
  pub to : IsCharBoundary text s.to

-- the slices of a piece whose characters are read
abbrev pub AreCut : List ℕ → Form → Type 0
AreCut text (forms.Word w) = IsCut text w.letters
AreCut text (forms.Quoted q) = IsCut text q.inside
AreCut text _ = Unit {0}
