-- Several calls on a disk: what a crash at any moment of them leaves.
use Rattle.std.specs.Prelude.{◌≡◌, ◌⊎◌, ℕ, ◌≤◌, List, Option, Some, None, Vec, Result, Ok, Err}
use Rattle.std.specs.declared.alloc.Global.{Global}
use Rattle.srch_base.specs.Counts.{Rose}
use Rattle.srch_base.specs.declared.faults.OpenFault.{OpenFault}
use Rattle.srch_base.specs.declared.faults.OpenFault.TheVariants as faults
use Rattle.chunk_store.specs.Images.{Image, Told}
use Rattle.chunk_store.specs.CrashModel.{Follows}
use Rattle.chunk_store.specs.declared.disk.Disk.{Ghosts as DiskWords}

-- Some calls went by: what a crash now may leave, and what one at a moment since the first of them may have left, comes by a
-- step from what one before the first might leave.
pub record Crashes {D : Type 0} (words : DiskWords D) (old new : D) (step : Image → Image → Type 0) : Type 0 where
  pub later : words.clock old ≤ words.clock new
  pub now : Follows step (words.may_leave old) (words.may_leave new)
  pub since : (t : ℕ) (x : Image) → t ≤ words.clock old → words.may_have_left new t x → words.may_have_left old t x ⊎ ((d : Image) × words.may_leave old d × step d x)

-- A crash leaves of this file what a read gives.
abbrev pub IsSynced : ℕ → Option Image → (Image → Type 0) → Type 0
IsSynced file told may_leave = Told (λ image. (x : Image) → may_leave x → x file ≡ image file) told

-- Some calls went by that only looked: nothing is told anew, and no moment of them leaves what one before might not have left.
pub record OnlyReads {D : Type 0} (words : DiskWords D) (old new : D) : Type 0 where
  pub same : words.told new ≡ words.told old
  pub later : words.clock old ≤ words.clock new
  pub now : (x : Image) → words.may_leave new x → words.may_leave old x
  pub since : (t : ℕ) (x : Image) → t ≤ words.clock old → words.may_have_left new t x → words.may_have_left old t x ⊎ words.may_leave old x

-- The file has these bytes, or it isn't there.
abbrev pub Finds : Option (Vec ℕ Global) → Option (List ℕ) → Type 0
Finds None file = file ≡ None
Finds (Some bytes) file = file ≡ Some bytes.items

-- A count of faults didn't fall, and it rose where the answer is that a device failed.
abbrev pub HasOpenCause : {T : Type 0} → ℕ → ℕ → Result T OpenFault → Type 0
HasOpenCause before now (Ok value) = before ≤ now
HasOpenCause before now (Err faults.NoMemory) = before ≤ now
HasOpenCause before now (Err faults.Failed) = (before ≤ now) × Rose before now
