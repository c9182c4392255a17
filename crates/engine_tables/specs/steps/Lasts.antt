-- Lasts: a worker's last token, what it was told of its index, and those before it.
use Rattle.std.specs.Prelude.{◌-◌, List, length, slice_get, take}
use Rattle.std.specs.Option.{option_to_list}
use Rattle.commit_outcomes.specs.declared.strayed.Strayed.{Strayed}
use Rattle.step_tokens.specs.Tokens.{TokenValue}
use Rattle.engine_tables.specs.Tokens.{TokensValue, told_of}

abbrev pub last_token : TokensValue → List TokenValue
last_token tokens = option_to_list (slice_get tokens.list (length tokens.list - 1))

abbrev pub last_told : TokensValue → List Strayed
last_told tokens = told_of (slice_get tokens.told (length tokens.list - 1))

abbrev pub shortened : TokensValue → TokensValue
shortened tokens = record tokens { list = take (length tokens.list - 1) tokens.list; told = take (length tokens.list - 1) tokens.told }
