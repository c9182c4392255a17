-- What is found on a disk as it is opened.
use Rattle.std.specs.Prelude.{◌≡◌, ◌≢◌, ℕ, [], Option, None, Result, Ok, Err}
use Rattle.std.specs.Arc.{arc_value}
use Rattle.std.specs.FinMap as finite
use Rattle.std.specs.List.{AllByRecursion}
use Rattle.chunk_store.specs.Images.{Image, IsThere, Told}
use Rattle.chunk_store.specs.declared.disk.Disk.{Ghosts as DiskWords}
use Rattle.doc_types.specs.declared.schema.Schema.{Schema}
use Rattle.doc_types.specs.Snapshots.{live}
use Rattle.root_slots.specs.Openings.{Opens}
use Rattle.root_slots.specs.Slots.{slots_of}
use Rattle.root_slots.specs.declared.root.Root.{Root}
use Rattle.root_slots.specs.declared.state.RootState.{RootState}
use Rattle.step_history.specs.History.{AreOf}
use Rattle.store_reads.specs.declared.fault.StoreFault.{StoreFault}
use Rattle.store_reads.specs.declared.found.Found.{Found}
use Rattle.store_reads.specs.Reads.{IsFoundIn, ReadsSlots, SaysDamage}
use Rattle.store_steps.specs.Kept.{IsKept}
use Rattle.store_keep.specs.Opens.{BeginsAt, HidesNothing}

-- Where the file is there, a crash leaves of it what a read gives.
abbrev pub IsSteady : ℕ → Option Image → (Image → Type 0) → Type 0
IsSteady file told may_leave = Told (λ image. IsThere (image file) → (x : Image) → may_leave x → x file ≡ image file) told

-- The root was read of slots that are steady.
pub record IsRootRead (told : Option Image) (may_leave : Image → Type 0) (root : Root) (state : Option RootState) : Type 0 where
  pub opens : Told (λ image. Opens root state (slots_of image)) told
  pub zeroth : IsSteady 0 told may_leave
  pub first : IsSteady 1 told may_leave

-- what reading the root of slots comes to that are synced first
abbrev pub ReadsSteadySlots : Option Image → (Image → Type 0) → Result (Root × Option RootState) StoreFault → Type 0
ReadsSteadySlots told may_leave (Ok found) = IsRootRead told may_leave found.0 found.1
ReadsSteadySlots told may_leave (Err fault) = ReadsSlots told (Err fault)

-- The files that a root names are steady.
pub record AreSteady (state : RootState) (told : Option Image) (may_leave : Image → Type 0) : Type 0 where
  pub chunks : AllByRecursion (λ entry. IsSteady entry.file told may_leave) state.chunks
  pub older : state.older ≢ 0 → IsSteady state.older told may_leave
  pub newer : IsSteady state.newer told may_leave

-- What was found is what the files stood for, and the disk keeps it.
pub record IsFound {D : Type 0} (words : DiskWords D) (schema : Schema) (old new : D) (found : Found) : Type 0 where
  pub said : Told (IsFoundIn schema (arc_value found.snapshot) found.records) (words.told old)
  pub fresh : Told (BeginsAt found.files.log.end) (words.told old)
  pub kept : HidesNothing words old → IsKept words schema (record { opening = arc_value found.snapshot; log = found.files.log.end }) [] None new found.files
  pub of : AreOf schema (arc_value found.snapshot)
  pub shape : (arc_value found.snapshot).shape ≡ 0
  pub documents_are : found.documents ≡ finite.len (live (arc_value found.snapshot))

-- what looking at a disk comes to
abbrev pub Finds : {D : Type 0} → DiskWords D → Schema → D → D → Result Found StoreFault → Type 0
Finds words schema old new (Ok found) = IsFound words schema old new found
Finds words schema old new (Err fault) = SaysDamage schema (words.told old) fault
