-- The ends of sentences in a text run. A character table gives what a character is folded to, or nothing where it separates words.
use Rattle.std.specs.Prelude.{ℕ, ◌+◌, List, [], ◌∷◌, ◌++◌, Bool, true, false, ◌==◌, ◌&&◌, ◌||◌, not, Option, Some, None, is_some}
use Rattle.std.specs.Char.{is_ascii_digit, len_utf8}
use Rattle.mark_scan.specs.declared.mark.Mark.{Mark}
use Rattle.mark_scan.specs.declared.mark.MarkKind.TheVariants.{Sentence}

-- a space, a tab, a carriage return or a line feed
abbrev pub is_blank : ℕ → Bool
is_blank c = (c == 32) || (c == 9) || (c == 13) || (c == 10)

-- a character that is folded to another one
abbrev pub is_other : ℕ → Option ℕ → Bool
is_other c None = false
is_other c (Some folded) = not (folded == c)

-- a character that is folded to itself
abbrev pub is_same : ℕ → Option ℕ → Bool
is_same c None = false
is_same c (Some folded) = folded == c

-- a capital letter: a character of the table that is folded to another one
abbrev pub is_capital : (ℕ → Option ℕ) → ℕ → Bool
is_capital fold c = is_other c (fold c)

-- a small letter: a character of the table that is folded to itself, and is neither an ASCII digit nor `_`
abbrev pub is_small : (ℕ → Option ℕ) → ℕ → Bool
is_small fold c = is_same c (fold c) && not (is_ascii_digit c || (c == 95))

-- The run up to here ends with a blank, or it begins here. Its characters are given from the last one on.
abbrev pub ends_with_gap : List ℕ → Bool
ends_with_gap [] = true
ends_with_gap (c ∷ before) = is_blank c

-- The run up to here ends with a capital letter after a blank or the run's start.
abbrev pub ends_with_initial : (ℕ → Option ℕ) → List ℕ → Bool
ends_with_initial fold [] = false
ends_with_initial fold (c ∷ before) = is_capital fold c && ends_with_gap before

-- the next character is a small letter
abbrev pub begins_small : (ℕ → Option ℕ) → List ℕ → Bool
begins_small fold [] = false
begins_small fold (c ∷ after) = is_small fold c

-- A dot ends no sentence: before a character of the table, before a comma, before a blank and a small letter, and after an
-- initial before a blank.
abbrev pub dot_goes_on : (ℕ → Option ℕ) → Bool → List ℕ → Bool
dot_goes_on fold initial [] = false
dot_goes_on fold initial (c ∷ after) = is_some (fold c) || (c == 44) || (is_blank c && (begins_small fold after || initial))

-- Whether a character ends a sentence: `?` and `!` do, and a dot that doesn't go on. The characters of its run before it are
-- given from the last one on, those after it in order.
unfoldable pub ends_sentence : (ℕ → Option ℕ) → List ℕ → ℕ → List ℕ → Bool
ends_sentence fold before c after = (c == 63) || (c == 33) || ((c == 46) && not (dot_goes_on fold (ends_with_initial fold before) after))

-- the mark of the end of a sentence
abbrev pub sentence_mark : Bool → ℕ → List Mark
sentence_mark false place = []
sentence_mark true place = record { kind = Sentence; from = place; to = place + 1 } ∷ []

-- The ends of sentences among characters of a run, the first of which stands at the place: each by the characters before it,
-- from the last one on, and by those after it.
abbrev pub sentence_marks : (ℕ → Option ℕ) → ℕ → List ℕ → List ℕ → List ℕ → List Mark
sentence_marks fold place before [] after = []
sentence_marks fold place before (c ∷ cs) after = sentence_mark (ends_sentence fold before c (cs ++ after)) place ++ sentence_marks fold (place + len_utf8 c) (c ∷ before) cs after
