-- What each part of replacing a state makes of the slot.
use Rattle.std.specs.Prelude.{◌≡◌, ◌≢◌, ◌⊎◌, ℕ, List, ◌∷◌, ◌++◌, Bool, Option, Some}
use Rattle.chunk_store.specs.Images.{contents, Changes}
use Rattle.chunk_store.specs.declared.disk.Disk.{Ghosts as DiskWords}
use Rattle.root_slots.specs.Slots.{Slot, IsSlot, IsOpen, IsShut, tail}
use Rattle.root_slots.specs.Roots.{MayHold, Stays, Steps}

-- The slot holds this behind a closed gate.
pub record IsFilled (s : Slot) (file : Option (List ℕ)) : Type 0 where
  pub slot : IsSlot s
  pub gate : ℕ
  pub rest : List ℕ
  pub closed : gate ≢ 1
  pub is : contents file ≡ gate ∷ (tail s ++ rest)

-- From what the slot may be: to the same, to a closed gate, to what is being written.
abbrev pub ToSame : Bool → Option (List ℕ) → Option (List ℕ) → Type 0
ToSame shut old new = (bound : ℕ) (doubt : Option Slot) → Stays shut bound doubt old → Stays shut bound doubt new

abbrev pub ToShut : Bool → Option (List ℕ) → Option (List ℕ) → Type 0
ToShut shut old new = (bound : ℕ) (doubt : Option Slot) → Stays shut bound doubt old → IsShut new

abbrev pub KeepsShut : Option (List ℕ) → Option (List ℕ) → Type 0
KeepsShut old new = IsShut old → IsShut new

abbrev pub ToFilled : Slot → Option (List ℕ) → Option (List ℕ) → Type 0
ToFilled s old new = IsShut old → IsFilled s new

abbrev pub ToHeld : Option (List ℕ) → Option (List ℕ) → Type 0
ToHeld old new = (s : Slot) → IsFilled s old → MayHold s new

abbrev pub ToOpened : Option (List ℕ) → Option (List ℕ) → Type 0
ToOpened old new = (s : Slot) → IsFilled s old → IsOpen s new

-- while the slot is replaced
abbrev pub SlotReplacing : Bool → Slot → Option (List ℕ) → Option (List ℕ) → Type 0
SlotReplacing shut s old new = (bound : ℕ) (doubt : Option Slot) → Stays shut bound doubt old → Stays shut bound doubt new ⊎ (IsShut new ⊎ MayHold s new)

-- once it is replaced
abbrev pub SlotReplaced : Bool → Slot → Option (List ℕ) → Option (List ℕ) → Type 0
SlotReplaced shut s old new = (bound : ℕ) (doubt : Option Slot) → Stays shut bound doubt old → IsOpen s new

abbrev pub ToDoubt : Bool → Bool → Option Slot → Option Slot → Option (List ℕ) → Option (List ℕ) → Type 0
ToDoubt before after doubt later old new = (bound : ℕ) → Stays before bound doubt old → Stays after bound later new

-- After an error the state that was in doubt is, or this one.
pub record SlotFailing {D : Type 0} (words : DiskWords D) (slot : ℕ) (before after : Bool) (doubt : Option Slot) (s : Slot) (old new : D) : Type 0 where
  pub later : Option Slot
  pub which : (later ≡ doubt) ⊎ (later ≡ Some s)
  pub stands : Steps words (Changes slot (ToDoubt before after doubt later)) old new
