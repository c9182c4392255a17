-- Faultless: shares of faults that stand still, and disks whose counts do.
use Rattle.std.specs.Prelude.{◌≡◌, ◌<◌, ℕ, Option, None, Some, slice_get}
use Rattle.srch_base.specs.Counts.{last_count}
use Rattle.step_book.specs.Tellings.{AtOpening}
use Rattle.step_tokens.specs.Tokens.{TokenValue, faults_of}
use Rattle.engine_tables.specs.Tokens.{TokensValue}

-- how many faults a token counts as its worker's, where there is a token
abbrev pub share_of : Option TokenValue → ℕ
share_of None = 0
share_of (Some token) = faults_of token

-- how many faults of an index a worker's token of it counts
abbrev pub share_at : ℕ → TokensValue → ℕ
share_at index tokens = share_of (slice_get tokens.list index)

-- The disk of an index has counted no fault since it was opened, and its count doesn't stand at its end.
pub record IsSteadyDisk (opened : AtOpening) (now : ℕ) : Type 0 where
  pub same : now ≡ opened.faults
  pub counts : now < last_count
