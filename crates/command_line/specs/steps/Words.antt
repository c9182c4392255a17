-- Options word by word.
use Rattle.std.specs.Prelude.{◌||◌, ◌&&◌, ℕ, Bool, true, false, not, List, [], ◌∷◌, Option, Some, None, codes, if◌then◌else◌}
use Rattle.std.specs.List.{list_any}
use Rattle.std.specs.Str.{bytes_eq}
use Rattle.std.specs.Option.{option_map_or}
use Rattle.command_line.specs.Modes.{is_number, may_be_value, selftest_options, serve_options, session_options}

-- some option of these words has this name; a word that is left over is none
abbrev pub has_option_in : List ℕ → List (List ℕ) → Bool
has_option_in name (option ∷ value ∷ more) = bytes_eq option name || has_option_in name more
has_option_in name words = false

-- an option and its value may stand before these words
abbrev pub is_option_before : List (List ℕ) → List ℕ → List ℕ → List (List ℕ) → Bool
is_option_before names option value more = list_any (λ name. bytes_eq name option) names && (may_be_value value && not (has_option_in option more))

-- the words are options of these names, each once at most, with their values
abbrev pub are_options_in : List (List ℕ) → List (List ℕ) → Bool
are_options_in names (option ∷ value ∷ more) = is_option_before names option value more && are_options_in names more
are_options_in names (option ∷ []) = false
are_options_in names [] = true

-- the value of the first option of this name
abbrev pub value_in : List ℕ → List (List ℕ) → Option (List ℕ)
value_in name (option ∷ value ∷ more) = if bytes_eq option name then Some value else value_in name more
value_in name words = None

-- the value of this option, where it has one, is digits alone
abbrev pub is_numeral_in : List ℕ → List (List ℕ) → Bool
is_numeral_in name words = option_map_or is_number (value_in name words) true

-- the file of the configuration, where it is the one option
abbrev pub config_in : List (List ℕ) → Option (List ℕ)
config_in words = if are_options_in session_options words then value_in (codes "--config") words else None

-- the words have the form of options of each mode
abbrev pub has_serve_form : List (List ℕ) → Bool
has_serve_form words = are_options_in serve_options words && (is_numeral_in (codes "--workers") words && is_numeral_in (codes "--sessions") words)

abbrev pub has_selftest_form : List (List ℕ) → Bool
has_selftest_form words = are_options_in selftest_options words && (is_numeral_in (codes "--number") words && is_numeral_in (codes "--docs") words)
