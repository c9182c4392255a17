-- Rules: a line of entries as a book of `logbook`. Its first word is twice its length, and one more while a turn is taken. A turn is the
-- right to add the next entry: in proofs it is the pen of a word that isn't at home, of which there is one at a time.
use Rattle.std.specs.Prelude.{ℕ, ◌≡◌, ◌+◌, ◌<◌, ◌≤◌, ◌==◌, true, List, [], ◌∷◌, ◌++◌, length, MatchBool}
use Rattle.logbook.specs.Pages.{Cell, Step as Move, View, Book, Named, Nib, cell, nib, may_make, may_write}

-- the first word of a line of so many entries, while so many turns are taken: none or one
abbrev pub mark : ℕ → ℕ → ℕ
mark entries taken = entries + entries + taken

-- the cell of the turn that is taken behind so many entries
abbrev pub turn_at : ℕ → ℕ
turn_at entries = entries + 2

-- the right of such a turn
abbrev pub right_of : ℕ → Nib
right_of entries = nib may_write (turn_at entries) 0

-- The first word says how long the line is and whether a turn is taken. Each turn has a cell, and only the one that is taken is away.
pub record IsKept {E : Type 0} (cells : List Cell) (line : List E) : Type 0 where
  pub taken : ℕ
  pub once : taken ≤ 1
  pub head : (cell cells 0).0 ≡ mark (length line) taken
  pub turns : length cells ≡ turn_at (length line) + taken
  pub home : (key : ℕ) → key < turn_at (length line) → (cell cells key).1 ≡ true

-- the first word of a book
abbrev pub head_of : Book → Named
head_of book = record { tracked = true; key = 0; book = book }

-- an exchange took the turn of a line of half as many entries as the number found; or it took none
abbrev pub Takes : {E : Type 0} → Move E → View E ℕ → ℕ → View E ℕ → Type 0
Takes move old found new = MatchBool (found == move.old) ((mark (length new.0) 0 ≡ found) × (new.1.0 ≡ nib may_make (turn_at (length new.0)) 0)) (Unit {0})

-- an exchange added the entry to all that had been seen, which was as many entries as the number that it asked for tells
abbrev pub Adds : {E : Type 0} → Move E → View E ℕ → ℕ → View E ℕ → Type 0
Adds move old found new = (mark (length old.0) 1 ≡ move.old) × (new.0 ≡ old.0 ++ move.ask ∷ [])
