-- The right to add the next step.
use Rattle.std.proofs.Common.{◌≡◌, ap, Option, None, Some}
use Rattle.step_book.specs.Fronts.{FrontValue}
use Rattle.step_line.specs.Lines.{PendingValue, step_in}
use Rattle.step_line.specs.steps.Queues.{HasTurn, IsReady}

has_turn : (front : FrontValue) (turn : Option FrontValue) → HasTurn front turn → turn ≡ Some front
has_turn front None has = absurd has
has_turn front (Some turn) has = ap Some has

-- it is there where nothing waits
pub ready_none : (front : FrontValue) (turn : Option FrontValue) (waiting : Option PendingValue) → IsReady front turn waiting → step_in waiting ≡ None → turn ≡ Some front
ready_none front turn None ready none = has_turn front turn ready
ready_none front turn (Some pending) ready none = absurd (cc none)
