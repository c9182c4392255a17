-- A state with its length, as bytes.
use Rattle.std.specs.Prelude.{◌≡◌, ℕ, List}
use Rattle.root_slots.specs.Slots.{sized}
use Rattle.root_slots.specs.States.{IsState}
use Rattle.root_slots.specs.declared.state.RootState.{RootState}

-- The bytes are this state with its length.
pub record IsSpelled (state : RootState) (bytes : List ℕ) : Type 0 where
  pub state_is : IsState state
  pub is : bytes ≡ sized state
