-- Rooms: lists that have room for what is left of engines.
use Rattle.std.specs.Prelude.{◌≤◌, ℕ}

-- There is room for so many workers' tokens, for a token of each and what it was told, and for what so many engines leave.
pub record HasRoom (indexes workers seats column told ended : ℕ) : Type 0 where
  pub for_seats : workers ≤ seats
  pub for_column : workers ≤ column
  pub for_told : workers ≤ told
  pub for_ended : indexes ≤ ended
