-- What two slots are read as, and where an open slot holds no state.
use Rattle.std.specs.Prelude.{◌≡◌, ℕ, zero, suc, ◌+◌, ◌-◌, ◌≤◌, List, [], ◌∷◌, length, take, Option, Result, Ok, Err, nat_lt, if◌then◌else◌}
use Rattle.std.specs.Int.{w32, w64}
use Rattle.srch_base.specs.Counts.{Rose}
use Rattle.srch_base.specs.declared.faults.OpenFault.{OpenFault}
use Rattle.srch_base.specs.declared.faults.OpenFault.TheVariants as opens
use Rattle.chunk_store.specs.Images.{contents}
use Rattle.byte_fields.specs.Fields.{number_at}
use Rattle.root_slots.specs.Reading.{state_at}
use Rattle.root_slots.specs.Slots.{Slots}
use Rattle.root_slots.specs.declared.fault.RootFault.{RootFault}
use Rattle.root_slots.specs.declared.fault.RootFault.TheVariants as faults
use Rattle.root_slots.specs.declared.fault.RootKind.{RootKind}
use Rattle.root_slots.specs.declared.fault.RootKind.TheVariants as kinds
use Rattle.root_slots.specs.declared.slot.SlotRead.{SlotRead}
use Rattle.root_slots.specs.declared.slot.SlotRead.TheVariants.{Short, Shut, Open}
use Rattle.root_slots.specs.declared.state.RootState.{RootState}

-- where a slot is wrong, and how
pub record BadSlot : Type 0 where
  pub place : ℕ
  pub kind : RootKind

-- an open slot with this number, whose state has so many bytes and is read so
abbrev pub opened : ℕ → ℕ → Result RootState ℕ → Result SlotRead BadSlot
opened number size (Ok state) = Ok (Open number state)
opened number size (Err left) = Err (record { place = size - left + 13; kind = kinds.State })

abbrev pub sized_at : ℕ → Result (ℕ × List ℕ) ℕ → Result SlotRead BadSlot
sized_at number (Err left) = Ok Short
sized_at number (Ok size) = if nat_lt (length size.1) size.0 then Err (record { place = 0; kind = kinds.Length }) else opened number size.0 (state_at (take size.0 size.1))

abbrev pub numbered : Result (ℕ × List ℕ) ℕ → Result SlotRead BadSlot
numbered (Err left) = Ok Short
numbered (Ok number) = sized_at number.0 (number_at w32 number.1)

-- what stands behind an open gate
unfoldable pub behind_at : List ℕ → Result SlotRead BadSlot
behind_at bytes = numbered (number_at w64 bytes)

-- what a slot of these bytes is
unfoldable pub slot_at : List ℕ → Result SlotRead BadSlot
slot_at [] = Ok Short
slot_at (zero ∷ rest) = Ok Shut
slot_at (suc zero ∷ rest) = behind_at rest
slot_at (suc (suc gate) ∷ rest) = Ok Shut

-- The slot is closed, or it is open and holds a state.
abbrev pub IsGood : Option (List ℕ) → Type 0
IsGood file = (found : SlotRead) × (slot_at (contents file) ≡ Ok found)

-- The slot is open and wrong at this place.
abbrev pub IsBad : ℕ → RootKind → Option (List ℕ) → Type 0
IsBad place kind file = slot_at (contents file) ≡ Err (record { place = place; kind = kind })

-- This slot is wrong, and the one before it isn't.
abbrev pub IsBadRoot : ℕ → ℕ → RootKind → Slots → Type 0
IsBadRoot zero place kind slots = IsBad place kind slots.zeroth
IsBadRoot (suc zero) place kind slots = IsGood slots.zeroth × IsBad place kind slots.first
IsBadRoot (suc (suc slot)) place kind slots = ⊥

-- a disk's fault, among those of a root
abbrev pub widened : OpenFault → RootFault
widened opens.NoMemory = faults.NoMemory
widened opens.Failed = faults.DiskFault

-- A count of faults didn't fall, and it rose where the answer is that the disk failed.
abbrev pub HasRootCause : {T : Type 0} → ℕ → ℕ → Result T RootFault → Type 0
HasRootCause before now (Ok value) = before ≤ now
HasRootCause before now (Err faults.DiskFault) = (before ≤ now) × Rose before now
HasRootCause before now (Err fault) = before ≤ now
