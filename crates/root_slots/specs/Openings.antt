-- What a root is read as.
use Rattle.std.specs.Prelude.{◌≡◌, Option, None, Result, Ok, Err}
use Rattle.std.specs.Option.{option_map}
use Rattle.root_slots.specs.Slots.{Slot, Slots}
use Rattle.root_slots.specs.Choosing.{IsBadRoot}
use Rattle.root_slots.specs.Roots.{Stands}
use Rattle.root_slots.specs.declared.fault.RootFault.{RootFault}
use Rattle.root_slots.specs.declared.fault.RootFault.TheVariants as faults
use Rattle.root_slots.specs.declared.root.Root.{Root}
use Rattle.root_slots.specs.declared.state.RootState.{RootState}

-- the state that was read, with the root's number
abbrev pub own_of : Root → Option RootState → Option Slot
own_of root state = option_map (λ s. record { number = root.number; state = s }) state

-- The slots have this state as their root, and none in doubt.
pub record Opens (root : Root) (state : Option RootState) (slots : Slots) : Type 0 where
  pub stands : Stands root (own_of root state) None slots
  pub fresh : state ≡ None → root.number ≡ 0

-- what reading a root answers
abbrev pub ReadsRoot : Result (Root × Option RootState) RootFault → Slots → Type 0
ReadsRoot (Ok found) slots = Opens found.0 found.1 slots
ReadsRoot (Err faults.NoMemory) slots = Unit {0}
ReadsRoot (Err faults.DiskFault) slots = Unit {0}
ReadsRoot (Err (faults.BadRoot slot place kind)) slots = IsBadRoot slot place kind slots
