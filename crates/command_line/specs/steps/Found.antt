-- What the rows that a command found say of an option.
use Rattle.std.specs.Prelude.{◌≡◌, ◌<◌, ◌^◌, ℕ, List, Option, Some, codes}
use Rattle.std.specs.Str.Parse.{IsNumeral, digits_value, without_leading_plus}
use Rattle.command_line.specs.Modes.{Mode, selftest, serve}
use Rattle.clap.specs.Walk.{Row, Text, first_of, one_of}

-- its value is this text
abbrev pub FindsText : List Row → Text → Text → Type 0
FindsText rows id text = first_of id rows ≡ Some text

-- its value is this number
pub record FindsNumber (rows : List Row) (id : Text) (number : ℕ) : Type 0 where
  pub text : Text
  pub found : one_of id rows ≡ Some text
  pub numeral : IsNumeral 10 (without_leading_plus text)
  pub value : digits_value 10 (without_leading_plus text) ≡ number
  pub small : number < 2 ^ 32

-- the rows have the values of a `serve`
pub record FindsServe (rows : List Row) (mode : Option Mode) : Type 0 where
  pub config : Text
  pub listen : Text
  pub workers : ℕ
  pub sessions : ℕ
  pub is : mode ≡ Some (serve config listen workers sessions)
  pub finds_config : FindsText rows (codes "config") config
  pub finds_listen : FindsText rows (codes "listen") listen
  pub finds_workers : FindsNumber rows (codes "workers") workers
  pub finds_sessions : FindsNumber rows (codes "sessions") sessions

-- the rows have the values of a `selftest`
pub record FindsSelftest (rows : List Row) (mode : Option Mode) : Type 0 where
  pub number : ℕ
  pub docs : ℕ
  pub is : mode ≡ Some (selftest number docs)
  pub finds_number : FindsNumber rows (codes "number") number
  pub finds_docs : FindsNumber rows (codes "docs") docs
