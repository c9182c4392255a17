-- Seats: what workers' seats are before they begin.
use Rattle.std.specs.Prelude.{◌≡◌, ◌<◌, ◌≤◌, ◌*◌, ◌^◌, ℕ, List, Some, All, length, map}
use Rattle.srch_base.specs.declared.door.Door.{Ghosts as DoorWords}
use Rattle.engine_tables.specs.Engines.{EnginesValue}
use Rattle.engine_tables.specs.Tokens.{new_seats}
use Rattle.line_workers.specs.declared.seat.Seat.{Seat}

-- Each worker of these engines has a seat, in their order, with tokens that have seen nothing yet and a door that got back no more
-- lines than it gave; and the numbers of all lines fit in 32 bits.
pub record AreReady {E K J : Type 0} (door : DoorWords E K) (engines : EnginesValue) (sessions : ℕ) (seats : List (Seat E J K)) : Type 0 where
  pub tokens : map (λ seat. seat.tokens) seats ≡ map Some (new_seats (length engines.confs) engines.workers)
  pub doors : All (λ seat. length (door.returned seat.door) ≤ length (door.given seat.door)) seats
  pub numbers : engines.workers * sessions < 2 ^ 32
