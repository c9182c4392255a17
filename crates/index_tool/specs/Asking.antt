-- What the words after the program's name ask for.
use Rattle.std.specs.Prelude.{ℕ, List, [], ◌∷◌, Option, Some, None, codes, option_map, if◌then◌else◌}
use Rattle.std.specs.Str.{bytes_eq}

-- what is asked of the files of an index
pub data Mode : Type 0 where
  check : Mode
  dictionary : Mode
  hits : (word : List ℕ) → Mode

-- The file of the configuration, the name of an index, and what is asked of it.
pub record Asked : Type 0 where
  pub config : List ℕ
  pub index : List ℕ
  pub mode : Mode

-- the mode of an option, by the words behind the name of the index
abbrev pub mode_of : List ℕ → List (List ℕ) → Option Mode
mode_of option [] = if bytes_eq option (codes "--check") then Some check else if bytes_eq option (codes "--dumpdict") then Some dictionary else None
mode_of option (word ∷ []) = if bytes_eq option (codes "--dumphitlist") then Some (hits word) else None
mode_of option (word ∷ another ∷ words) = None

-- `--config F --check I`, `--config F --dumpdict I` or `--config F --dumphitlist I W`, and nothing else
abbrev pub asked : List (List ℕ) → Option Asked
asked (first ∷ config ∷ option ∷ index ∷ words) =
    if bytes_eq first (codes "--config") then option_map (λ mode. record { config = config; index = index; mode = mode }) (mode_of option words) else None
asked words = None
