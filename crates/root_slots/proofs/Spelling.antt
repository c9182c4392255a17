-- A state that is written with its length is the one that is read from it.
use Rattle.std.proofs.Common.{◌≡◌, ℕ, List, ◌++◌, length, sym, ◌∙◌, ap, subst}
use Rattle.std.specs.Int.{w32, to_le_bytes}
use Rattle.root_slots.specs.Slots.{sized}
use Rattle.root_slots.specs.States.{IsState, state_bytes}
use Rattle.root_slots.specs.Reading.{state_in, state_or_none}
use Rattle.root_slots.specs.steps.Spelled.{IsSpelled}
use Rattle.root_slots.specs.declared.state.RootState.{RootState}
use Rattle.root_slots.proofs.Inverses.{state_again}

pub state_of_sized : (s : RootState) (bytes : List ℕ) → IsState s → bytes ≡ sized s → state_in bytes ≡ s
state_of_sized s bytes state is = ap state_in is ∙ ap state_or_none (state_again s state)

pub is_spelled : (s : RootState) (bytes : List ℕ) → IsState s → bytes ≡ sized s → IsSpelled (state_in bytes) bytes
is_spelled s bytes state is =
    let same : state_in bytes ≡ s = state_of_sized s bytes state is in
    record { state_is = subst IsState (sym same) state; is = is ∙ ap sized (sym same) }

pub sized_by : (s : RootState) (written bytes : List ℕ) → written ≡ state_bytes s → bytes ≡ to_le_bytes w32 (length written) ++ written → bytes ≡ sized s
sized_by s written bytes is parts = parts ∙ ap (λ (l : List ℕ). to_le_bytes w32 (length l) ++ l) is
