-- The names of a limit, and its numbers, as they stand in the text.
use Rattle.std.specs.Prelude.{ℕ, List, Bool, ◌==◌, ◌&&◌, not, nat_lt, nat_le, Option, if◌then◌else◌, find, length, map, bytes_eq, slice_range}
use Rattle.std.specs.Char.{is_ascii_digit}
use Rattle.std.specs.List.{list_all, list_any, prefix_len, slice_split}
use Rattle.std.specs.Str.{str_to_ascii_lowercase}
use Rattle.std.specs.Str.Parse.{digits_value}
use Rattle.doc_types.specs.declared.schema.TheConstants.{MAX_NAME_BYTES}
use Rattle.query_pieces.specs.declared.piece.Slice.{Slice}

-- the bytes of a slice
abbrev pub bytes_of : List ℕ → Slice → List ℕ
bytes_of text s = slice_range text s.from s.to

-- the names between commas
abbrev pub names_in : List ℕ → List (List ℕ)
names_in names = slice_split (λ b. b == 44) names

-- two names are one, in whatever case
abbrev pub is_same : List ℕ → List ℕ → Bool
is_same name known = bytes_eq (str_to_ascii_lowercase name) (str_to_ascii_lowercase known)

-- the name is in the list
abbrev pub is_known : List (List ℕ) → List ℕ → Bool
is_known list name = list_any (is_same name) list

-- that name is one of those of a limit
abbrev pub is_listed : List ℕ → List ℕ → Bool
is_listed names known = list_any (λ name. is_same name known) (names_in names)

-- how many stand before the name in the list
abbrev pub place_of : List (List ℕ) → List ℕ → ℕ
place_of list name = prefix_len (λ known. not (is_same name known)) list

abbrev pub is_long : List ℕ → Bool
is_long name = nat_lt MAX_NAME_BYTES (length name)

-- a name that is not too long and isn't in the list
abbrev pub is_unknown : List (List ℕ) → List ℕ → Bool
is_unknown list name = nat_le (length name) MAX_NAME_BYTES && not (is_known list name)

-- the first such name
abbrev pub first_unknown : List (List ℕ) → List ℕ → Option (List ℕ)
first_unknown list names = find (is_unknown list) (names_in names)

abbrev pub has_long : List ℕ → Bool
has_long names = list_any is_long (names_in names)

-- the numbers of the names
abbrev pub numbers_of : List (List ℕ) → List ℕ → List ℕ
numbers_of list names = map (place_of list) (names_in names)

-- the number that digits write, and 0 where it is above 65,535
abbrev pub small_value : List ℕ → ℕ
small_value digits = if nat_le (digits_value 10 digits) 65535 then digits_value 10 digits else 0

-- the number that bytes write, and 0 where they aren't all digits
abbrev pub number_of : List ℕ → ℕ
number_of bytes = if list_all is_ascii_digit bytes then small_value bytes else 0
