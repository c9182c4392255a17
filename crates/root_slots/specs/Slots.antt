-- Slots: what the two files of a root hold, and what that says.
use Rattle.std.specs.Prelude.{◌≡◌, ◌≢◌, ◌⊎◌, ℕ, ◌+◌, ◌<◌, ◌≤◌, ◌^◌, List, ◌∷◌, ◌++◌, Option, Some, None, length}
use Rattle.std.specs.Int.{w32, w64, to_le_bytes}
use Rattle.chunk_store.specs.Images.{Image, contents}
use Rattle.root_slots.specs.States.{IsState, state_bytes}
use Rattle.root_slots.specs.declared.state.RootState.{RootState}

-- a state with the number of its writing
pub record Slot : Type 0 where
  pub number : ℕ
  pub state : RootState

-- a state with its length
abbrev pub sized : RootState → List ℕ
sized state = to_le_bytes w32 (length (state_bytes state)) ++ state_bytes state

-- what stands behind a slot's gate
abbrev pub tail : Slot → List ℕ
tail s = to_le_bytes w64 s.number ++ sized s.state

-- The state can be written with this number.
pub record IsSlot (s : Slot) : Type 0 where
  pub number : s.number < 2 ^ 64
  pub state : IsState s.state

-- The slot is open, and it holds this.
pub record IsOpen (s : Slot) (file : Option (List ℕ)) : Type 0 where
  pub slot : IsSlot s
  pub rest : List ℕ
  pub is : contents file ≡ 1 ∷ (tail s ++ rest)

-- There is a gate, and it is closed.
pub record IsShut (file : Option (List ℕ)) : Type 0 where
  pub gate : ℕ
  pub rest : List ℕ
  pub closed : gate ≢ 1
  pub is : contents file ≡ gate ∷ rest

-- The slot is closed: it has less than a slot, or its gate is closed.
abbrev pub IsClosed : Option (List ℕ) → Type 0
IsClosed file = (length (contents file) < 13) ⊎ IsShut file

-- The slot doesn't count beside one of at least this number.
abbrev pub IsBelow : ℕ → Option (List ℕ) → Type 0
IsBelow bound file = IsClosed file ⊎ ((s : Slot) × (s.number < bound) × IsOpen s file)

-- the two files of a root
pub record Slots : Type 0 where
  pub zeroth : Option (List ℕ)
  pub first : Option (List ℕ)

abbrev pub slots_of : Image → Slots
slots_of image = record { zeroth = image 0; first = image 1 }

-- What the slots are read as: the open one of the greatest number, slot 0 where both have the same; nothing where none is open.
abbrev pub IsRoot : Option Slot → Slots → Type 0
IsRoot None slots = IsClosed slots.zeroth × IsClosed slots.first
IsRoot (Some s) slots = (IsOpen s slots.zeroth × IsBelow (s.number + 1) slots.first) ⊎ (IsOpen s slots.first × IsBelow s.number slots.zeroth)

-- The images differ in the slots at most, and these are related.
pub record ChangesSlots (R : Slots → Slots → Type 0) (old new : Image) : Type 0 where
  pub here : R (slots_of old) (slots_of new)
  pub others : (f : ℕ) → 2 ≤ f → new f ≡ old f
