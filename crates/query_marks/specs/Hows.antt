-- The numbers of quoted pieces.
use Rattle.std.specs.Prelude.{ℕ, List, Bool, false, ◌==◌, nat_le, if◌then◌else◌, length}
use Rattle.query_pieces.specs.declared.piece.Number.{Number}
use Rattle.query_pieces.specs.declared.piece.Number.TheVariants as numbers
use Rattle.query_tree.specs.declared.key.How.{How}
use Rattle.query_tree.specs.declared.key.How.TheVariants as hows
use Rattle.query_marks.specs.LimitNames.{bytes_of, number_of}

-- the share that decimals write, and 0 for more than four decimals
abbrev pub share_of : List ℕ → How
share_of digits = if nat_le (length digits) 4 then hows.Share (number_of digits) (length digits) else hows.Share 0 0

-- how the words of a quoted piece are looked for, where a number out of range counts as 0
abbrev pub how_of : List ℕ → Number → How
how_of text numbers.Phrase = hows.Phrase
how_of text (numbers.Within s) = hows.Within (number_of (bytes_of text s))
how_of text (numbers.AtLeast s) = hows.AtLeast (number_of (bytes_of text s))
how_of text (numbers.Share s) = share_of (bytes_of text s)

-- the number is none of 1 to 65,535, or no share above 0 with at most four decimals
abbrev pub is_out : How → Bool
is_out hows.Phrase = false
is_out (hows.Within n) = n == 0
is_out (hows.AtLeast n) = n == 0
is_out (hows.Share digits places) = digits == 0
