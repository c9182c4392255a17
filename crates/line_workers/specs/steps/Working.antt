-- Working: what a worker's seat is before and after its work.
use Rattle.std.specs.Prelude.{◌≡◌, ◌≤◌, ℕ, List, Some, length}
use Rattle.std.specs.List.{flat_map}
use Rattle.std.specs.Option.{option_to_list}
use Rattle.srch_base.specs.declared.door.Door.{Ghosts as DoorWords}
use Rattle.srch_base.specs.declared.link.Link.{Ghosts as LinkWords}
use Rattle.doc_types.specs.declared.schema.Schema.{Schema}
use Rattle.step_book.specs.Fronts.{FrontValue}
use Rattle.step_history.specs.History.{Base}
use Rattle.engine_tables.specs.Engines.{EnginesValue}
use Rattle.engine_tables.specs.Tokens.{SitsAt, TokensValue}
use Rattle.line_workers.specs.Lines.{Service}
use Rattle.line_workers.specs.Workers.{Works}
use Rattle.line_workers.specs.declared.seat.Seat.{Seat}

-- The seat has tokens of these engines, and its door got back no more lines than it gave.
pub record CanWork {E K J : Type 0} (door : DoorWords E K) (engines : EnginesValue) (seat : Seat E J K) : Type 0 where
  pub had : TokensValue
  pub is : seat.tokens ≡ Some had
  pub sits : SitsAt engines had
  pub within : length (door.returned seat.door) ≤ length (door.given seat.door)

-- Its worker has worked with the tokens that it had.
pub record HasWorked {E K J : Type 0} (door : DoorWords E K) (link : LinkWords K) (schema : ℕ → Schema) (base : ℕ → Base) (engines : EnginesValue) (sessions : ℕ) (old new : Seat E J K) : Type 0 where
  pub had : TokensValue
  pub left : TokensValue
  pub is : old.tokens ≡ Some had
  pub leaves : new.tokens ≡ Some left
  pub sits : SitsAt engines left
  pub own : left.worker ≡ had.worker
  pub services : List (Service K FrontValue)
  pub works : Works door link schema base engines.confs engines.workers sessions services had left old new

-- the tokens of all seats
abbrev pub collected : {E K J : Type 0} → List (Seat E J K) → List TokensValue
collected seats = flat_map (λ seat. option_to_list seat.tokens) seats

-- Its tokens were taken away, and nothing else.
pub record IsSameSeat {E K J : Type 0} (old new : Seat E J K) : Type 0 where
  pub door : new.door ≡ old.door
  pub end : new.end ≡ old.end
