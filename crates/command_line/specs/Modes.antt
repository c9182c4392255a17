-- What the words after the program's name stand for: a mode, with the values of its options.
use Rattle.std.specs.Prelude.{◌==◌, ◌&&◌, ℕ, Bool, true, false, not, nat_le, length, List, [], ◌∷◌, Option, Some, None, codes, option_map, option_and_then, find, if◌then◌else◌}
use Rattle.std.specs.Char.{is_ascii_digit}
use Rattle.std.specs.List.{list_all, list_any}
use Rattle.std.specs.Str.{bytes_eq}
use Rattle.std.specs.Str.Parse.{digits_value}

-- a mode, with the values of its options
pub data Mode : Type 0 where
  session : (config : List ℕ) → Mode
  serve : (config listen : List ℕ) (workers sessions : ℕ) → Mode
  check : (config : List ℕ) → Mode
  selftest : (number docs : ℕ) → Mode

-- an option and its value
abbrev pub Pair : Type 0
Pair = List ℕ × List ℕ

-- The words as options, each with its value after it. There are none where a word is left over.
abbrev pub pairs : List (List ℕ) → Option (List Pair)
pairs [] = Some []
pairs (option ∷ []) = None
pairs (option ∷ value ∷ words) = option_map (λ more. (option, value) ∷ more) (pairs words)

-- the text isn't empty and doesn't begin with `-`
abbrev pub may_be_value : List ℕ → Bool
may_be_value [] = false
may_be_value (first ∷ rest) = not (first == 45)

-- some pair has this option
abbrev pub has_option : List ℕ → List Pair → Bool
has_option name = list_any (λ pair. bytes_eq pair.0 name)

-- The options are among these names, each once at most, and each value may be one.
abbrev pub are_options : List (List ℕ) → List Pair → Bool
are_options names [] = true
are_options names (pair ∷ more) =
    list_any (λ name. bytes_eq name pair.0) names && (may_be_value pair.1 && (not (has_option pair.0 more) && are_options names more))

-- the value of an option
abbrev pub value_of : List ℕ → List Pair → Option (List ℕ)
value_of name list = option_map (λ pair. pair.1) (find (λ pair. bytes_eq pair.0 name) list)

-- one digit or more, and nothing else
abbrev pub is_number : List ℕ → Bool
is_number text = not (length text == 0) && list_all is_ascii_digit text

-- the number, where it is from `low` to `high`
abbrev pub within : ℕ → ℕ → ℕ → Option ℕ
within low high number = if nat_le low number && nat_le number high then Some number else None

-- the number that digits write, where it is from `low` to `high`
abbrev pub number_in : ℕ → ℕ → List ℕ → Option ℕ
number_in low high text = if is_number text then within low high (digits_value 10 text) else None

-- the number from `low` to `high` that an option has for its value
abbrev pub number_of : ℕ → ℕ → Option (List ℕ) → Option ℕ
number_of low high = option_and_then (number_in low high)

-- the same, and this one without the option
abbrev pub number_or : ℕ → ℕ → ℕ → Option (List ℕ) → Option ℕ
number_or default low high None = Some default
number_or default low high (Some text) = number_in low high text

-- the value of each option that is given, by its name
abbrev pub Values : Type 0
Values = List ℕ → Option (List ℕ)

-- Each mode by the values of its options.
abbrev pub session_of : Values → Option Mode
session_of value = option_map session (value (codes "--config"))

abbrev pub serve_of : Values → Option Mode
serve_of value =
    option_and_then (λ config. option_and_then (λ listen. option_and_then (λ workers. option_map (λ sessions. serve config listen workers sessions)
    (number_or 1000000 1 1000000 (value (codes "--sessions"))))
    (number_or 4 1 64 (value (codes "--workers"))))
    (value (codes "--listen")))
    (value (codes "--config"))

abbrev pub check_of : Values → Option Mode
check_of value = option_map check (value (codes "--config"))

abbrev pub selftest_of : Values → Option Mode
selftest_of value =
    option_and_then (λ number. option_map (λ docs. selftest number docs)
    (number_of 1 100000 (value (codes "--docs"))))
    (number_of 0 2147483647 (value (codes "--number")))

-- The options of each mode.
abbrev pub session_options : List (List ℕ)
session_options = codes "--config" ∷ []

abbrev pub serve_options : List (List ℕ)
serve_options = codes "--config" ∷ codes "--listen" ∷ codes "--workers" ∷ codes "--sessions" ∷ []

abbrev pub check_options : List (List ℕ)
check_options = codes "--config" ∷ []

abbrev pub selftest_options : List (List ℕ)
selftest_options = codes "--number" ∷ codes "--docs" ∷ []

-- the words as options of these names alone, and what they are by their values
abbrev pub by_options : List (List ℕ) → (Values → Option Mode) → List (List ℕ) → Option Mode
by_options names of words = option_and_then (λ list. if are_options names list then of (λ name. value_of name list) else None) (pairs words)

-- the modes by their names
abbrev pub named : List ℕ → List (List ℕ) → Option Mode
named name words =
    if bytes_eq name (codes "session") then by_options session_options session_of words
    else (if bytes_eq name (codes "serve") then by_options serve_options serve_of words
    else (if bytes_eq name (codes "check") then by_options check_options check_of words
    else (if bytes_eq name (codes "selftest") then by_options selftest_options selftest_of words
    else None)))

-- The mode that the words are: its name first, and then its options.
abbrev pub mode : List (List ℕ) → Option Mode
mode [] = None
mode (name ∷ words) = named name words
