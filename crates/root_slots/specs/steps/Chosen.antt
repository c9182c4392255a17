-- The root of two slots, by what each is read as.
use Rattle.std.specs.Prelude.{◌≡◌, ℕ, List, [], Vec, Bool, true, false, Option, Some, None, Result, Ok, Err, nat_lt, if◌then◌else◌}
use Rattle.std.specs.declared.alloc.Global.{Global}
use Rattle.root_slots.specs.Choosing.{BadSlot, IsBadRoot, slot_at}
use Rattle.root_slots.specs.declared.fault.RootFault.{RootFault}
use Rattle.root_slots.specs.declared.fault.RootFault.TheVariants as faults
use Rattle.root_slots.specs.declared.root.Root.{Root}
use Rattle.root_slots.specs.declared.root.Holder.TheVariants.{Neither, Zeroth, First}
use Rattle.root_slots.specs.declared.slot.SlotRead.{SlotRead}
use Rattle.root_slots.specs.declared.slot.SlotRead.TheVariants.{Short, Shut, Open}
use Rattle.root_slots.specs.declared.state.RootState.{RootState}

-- what reading a slot answers, where this is read
abbrev pub GivesSlot : ℕ → Result SlotRead RootFault → Result SlotRead BadSlot → Type 0
GivesSlot slot (Ok found) read = read ≡ Ok found
GivesSlot slot (Err faults.NoMemory) read = Unit {0}
GivesSlot slot (Err faults.DiskFault) read = ⊥
GivesSlot slot (Err (faults.BadRoot s place kind)) read = (s ≡ slot) × (read ≡ Err (record { place = place; kind = kind }))

-- the bytes of a file that was read; one that isn't there has none
abbrev pub bytes_of : Option (Vec ℕ Global) → List ℕ
bytes_of None = []
bytes_of (Some bytes) = bytes.items

-- a root whose state stands in slot 0, in slot 1, or nowhere
abbrev pub zeroth_root : ℕ → Bool → Root
zeroth_root number first_shut = record { holder = Zeroth; number = number; zeroth_shut = false; first_shut = first_shut }

abbrev pub first_root : ℕ → Bool → Root
first_root number zeroth_shut = record { holder = First; number = number; zeroth_shut = zeroth_shut; first_shut = false }

abbrev pub no_root : Bool → Bool → Root
no_root zeroth_shut first_shut = record { holder = Neither; number = 0; zeroth_shut = zeroth_shut; first_shut = first_shut }

-- the root of two slots
abbrev pub chosen : SlotRead → SlotRead → Root × Option RootState
chosen (Open a state) (Open b other) = if nat_lt a b then (first_root b false, Some other) else (zeroth_root a false, Some state)
chosen (Open a state) Shut = (zeroth_root a true, Some state)
chosen (Open a state) Short = (zeroth_root a false, Some state)
chosen Shut (Open b state) = (first_root b true, Some state)
chosen Short (Open b state) = (first_root b false, Some state)
chosen Shut Shut = (no_root true true, None)
chosen Shut Short = (no_root true false, None)
chosen Short Shut = (no_root false true, None)
chosen Short Short = (no_root false false, None)

-- The answer isn't that the disk failed.
abbrev pub IsOfBytes : Result (Root × Option RootState) RootFault → Type 0
IsOfBytes (Ok found) = Unit {0}
IsOfBytes (Err faults.NoMemory) = Unit {0}
IsOfBytes (Err faults.DiskFault) = ⊥
IsOfBytes (Err (faults.BadRoot slot place kind)) = Unit {0}

-- what reading two slots answers, where these are read
abbrev pub GivesRoot : Result (Root × Option RootState) RootFault → List ℕ → List ℕ → Type 0
GivesRoot (Ok found) zeroth first = (a : SlotRead) × (b : SlotRead) × (slot_at zeroth ≡ Ok a) × (slot_at first ≡ Ok b) × (found ≡ chosen a b)
GivesRoot (Err faults.NoMemory) zeroth first = Unit {0}
GivesRoot (Err faults.DiskFault) zeroth first = ⊥
GivesRoot (Err (faults.BadRoot slot place kind)) zeroth first = IsBadRoot slot place kind (record { zeroth = Some zeroth; first = Some first })
