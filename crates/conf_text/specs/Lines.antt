-- The lines of a configuration.
use Rattle.std.specs.Prelude.{ℕ, ◌+◌, ◌-◌, List, [], ◌∷◌, Bool, ◌==◌, ◌&&◌, ◌||◌, if◌then◌else◌, length, map, take, slice_index}
use Rattle.std.specs.List.{concat}
use Rattle.std.specs.Str.Lines.{lines}
use Rattle.charset_map.specs.TableText.{without_back, without_front}

-- A line: the number of its first part, and its parts as the text has them. A line of more than one part was joined.
pub record Line : Type 0 where
  pub number : ℕ
  pub parts : List (List ℕ)

-- a part is joined with the next one where it ends with a backslash
abbrev pub is_joined : List ℕ → Bool
is_joined part = slice_index part (length part - 1) == 92

-- a part without the backslash at its end
abbrev pub unjoined : List ℕ → List ℕ
unjoined part = if is_joined part then take (length part - 1) part else part

-- a part before the first of these lines, or as the last line
abbrev pub onto_line : ℕ → List ℕ → List Line → List Line
onto_line number part [] = record { number = number; parts = part ∷ [] } ∷ []
onto_line number part (line ∷ lines) = record { number = number; parts = part ∷ line.parts } ∷ lines

-- The lines of parts, the first of which has this number.
abbrev pub lines_from : ℕ → List (List ℕ) → List Line
lines_from number [] = []
lines_from number (part ∷ parts) =
    if is_joined part
    then onto_line number part (lines_from (number + 1) parts)
    else record { number = number; parts = part ∷ [] } ∷ lines_from (number + 1) parts

-- The lines of a text, from 1. Its parts end with LF or CR LF; what stands after the last LF is a part, unless it is empty.
abbrev pub lines_of : List ℕ → List Line
lines_of text = lines_from 1 (lines text)

-- a line's parts, one after the other, without the backslashes that join them
abbrev pub joined_parts : List (List ℕ) → List ℕ
joined_parts parts = concat (map unjoined parts)

-- a comment begins with `#` after a space or a tab
abbrev pub begins_comment : ℕ → ℕ → Bool
begins_comment before b = (b == 35) && ((before == 32) || (before == 9))

-- what stands before the comment of a text that stands after a byte
abbrev pub uncommented_after : ℕ → List ℕ → List ℕ
uncommented_after before [] = []
uncommented_after before (b ∷ bytes) = if begins_comment before b then [] else b ∷ uncommented_after b bytes

-- a line without its comment, which may begin at its start too
abbrev pub uncommented : List ℕ → List ℕ
uncommented text = uncommented_after 32 text

-- a text without the blanks around it
abbrev pub trimmed : List ℕ → List ℕ
trimmed text = without_back (without_front text)

-- what a text says that stands on a line of its own
unfoldable pub content_of : List ℕ → List ℕ
content_of text = trimmed (uncommented text)

-- what a line says
abbrev pub content : Line → List ℕ
content line = content_of (joined_parts line.parts)
