-- Roots: how the slots stand, and what replacing the state makes of them.
use Rattle.std.specs.Prelude.{◌≡◌, ◌⊎◌, ℕ, zero, suc, ◌+◌, ◌<◌, ◌≤◌, List, ◌∷◌, ◌++◌, Bool, true, false, Option, Some, None, length}
use Rattle.chunk_store.specs.Images.{Image, Both, contents}
use Rattle.chunk_store.specs.CrashModel.{Follows}
use Rattle.chunk_store.specs.declared.disk.Disk.{Ghosts as DiskWords}
use Rattle.root_slots.specs.Slots.{Slot, Slots, IsSlot, IsOpen, IsShut, IsRoot, ChangesSlots, tail}
use Rattle.root_slots.specs.declared.root.Holder.{Holder}
use Rattle.root_slots.specs.declared.root.Holder.TheVariants.{Neither, Zeroth, First}
use Rattle.root_slots.specs.declared.root.Root.{Root}
use Rattle.root_slots.specs.declared.state.RootState.{RootState}

-- The slot holds this behind any gate.
pub record MayHold (s : Slot) (file : Option (List ℕ)) : Type 0 where
  pub slot : IsSlot s
  pub gate : ℕ
  pub rest : List ℕ
  pub is : contents file ≡ gate ∷ (tail s ++ rest)

-- A slot that doesn't hold the own state. It is known to be shut; or it has less than a slot, or it holds, behind any gate, a
-- state that is older than this number, or the one in doubt.
abbrev pub Stays : Bool → ℕ → Option Slot → Option (List ℕ) → Type 0
Stays true bound doubt file = IsShut file
Stays false bound doubt file = (length (contents file) < 13) ⊎ ((s : Slot) × MayHold s file × ((s.number < bound) ⊎ (Some s ≡ doubt)))

-- The slots by the one that holds the own state, and by which of them are known to be shut. The one that is replaced next is
-- slot 0, unless that holds the own state.
abbrev pub Stand : Holder → Bool → Bool → Option Slot → Option Slot → Slots → Type 0
Stand Neither zeroth_shut first_shut None doubt slots = Stays zeroth_shut 0 doubt slots.zeroth × Stays first_shut 0 None slots.first
Stand Neither zeroth_shut first_shut (Some s) doubt slots = ⊥
Stand Zeroth zeroth_shut first_shut None doubt slots = ⊥
Stand Zeroth zeroth_shut first_shut (Some s) doubt slots = (zeroth_shut ≡ false) × IsOpen s slots.zeroth × Stays first_shut (s.number + 1) doubt slots.first
Stand First zeroth_shut first_shut None doubt slots = ⊥
Stand First zeroth_shut first_shut (Some s) doubt slots = (first_shut ≡ false) × IsOpen s slots.first × Stays zeroth_shut s.number doubt slots.zeroth

-- The slots are as the root left them: with this own state, and with this one in doubt.
pub record Stands (root : Root) (own doubt : Option Slot) (slots : Slots) : Type 0 where
  pub used : (s : Slot) → own ≡ Some s → s.number ≤ root.number
  pub slots_are : Stand root.holder root.zeroth_shut root.first_shut own doubt slots

-- the number of the slot that holds the own state, where there is one
abbrev pub own_slot : Holder → ℕ
own_slot Neither = 0
own_slot Zeroth = 0
own_slot First = 1

-- The slot of this number is open, and holds this.
abbrev pub HoldsOpen : ℕ → Slot → Slots → Type 0
HoldsOpen zero s slots = IsOpen s slots.zeroth
HoldsOpen (suc number) s slots = IsOpen s slots.first

-- The slots are read as the own state, or as the one in doubt.
abbrev pub Leaves : Option Slot → Option Slot → Slots → Type 0
Leaves own None slots = IsRoot own slots
Leaves own (Some s) slots = IsRoot own slots ⊎ IsRoot (Some s) slots

-- the state with the next number
abbrev pub next : Root → RootState → Slot
next root state = record { number = root.number + 1; state = state }

-- the root once its state is replaced
abbrev pub replaced_in : Holder → Root → Root
replaced_in Neither root = record root { holder = Zeroth; number = root.number + 1; zeroth_shut = false }
replaced_in Zeroth root = record root { holder = First; number = root.number + 1; first_shut = false }
replaced_in First root = record root { holder = Zeroth; number = root.number + 1; zeroth_shut = false }

abbrev pub replaced : Root → Root
replaced root = replaced_in root.holder root

-- Every image moved by a step: what a read gives, and what a crash leaves.
pub record Steps {D : Type 0} (words : DiskWords D) (step : Image → Image → Type 0) (old new : D) : Type 0 where
  pub told : Both step (words.told old) (words.told new)
  pub left : Follows step (words.may_leave old) (words.may_leave new)

-- The new state is the own one, and none is in doubt.
abbrev pub Replaces : Root → RootState → Slots → Slots → Type 0
Replaces root state old new = (own doubt : Option Slot) → Stands root own doubt old → Stands (replaced root) (Some (next root state)) None new

-- While the state is replaced, the slots are read as the own one, as the one in doubt or as the new one.
abbrev pub Replacing : Root → RootState → Slots → Slots → Type 0
Replacing root state old new = (own doubt : Option Slot) → Stands root own doubt old → Leaves own doubt new ⊎ IsRoot (Some (next root state)) new

-- The own state stays, and another one may be in doubt.
abbrev pub Doubts : Root → Root → Option Slot → Option Slot → Slots → Slots → Type 0
Doubts root after doubt later old new = (own : Option Slot) → Stands root own doubt old → Stands after own later new

-- After an error the own state is as before, and at most one state is in doubt: the one that was, or the new one.
pub record Failing {D : Type 0} (words : DiskWords D) (root after : Root) (doubt : Option Slot) (state : RootState) (old new : D) : Type 0 where
  pub later : Option Slot
  pub which : (later ≡ doubt) ⊎ (later ≡ Some (next root state))
  pub stands : Steps words (ChangesSlots (Doubts root after doubt later)) old new
