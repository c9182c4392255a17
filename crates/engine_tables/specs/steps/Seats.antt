-- Seats: the tokens of all workers.
use Rattle.std.specs.Prelude.{ℕ, List, All}
use Rattle.engine_tables.specs.Tokens.{AreOf, SeatsDiffer, TokensValue}

-- They are of so many workers, each of another one, and have a token of each of so many indexes.
pub record AreSeats (indexes workers : ℕ) (seats : List TokensValue) : Type 0 where
  pub of : All (AreOf indexes workers) seats
  pub differ : SeatsDiffer seats
