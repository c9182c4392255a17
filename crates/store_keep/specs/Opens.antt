-- Opening: what it finds in the files of an index, and what a crash leaves meanwhile.
use Rattle.std.specs.Prelude.{◌≡◌, ◌⊎◌, ℕ, ◌<◌, ◌≤◌, [], Option, Some, None, Result, Ok, Err}
use Rattle.std.specs.Arc.{arc_value}
use Rattle.std.specs.FinMap as finite
use Rattle.chunk_store.specs.Images.{Image, Told}
use Rattle.chunk_store.specs.declared.disk.Disk.{Ghosts as DiskWords}
use Rattle.doc_types.specs.declared.schema.Schema.{Schema}
use Rattle.doc_types.specs.Snapshots.{live}
use Rattle.root_slots.specs.Slots.{IsRoot, slots_of}
use Rattle.step_book.specs.Tellings.{AtOpening}
use Rattle.step_history.specs.History.{AreOf, Base}
use Rattle.store_reads.specs.declared.fault.StoreFault.{StoreFault}
use Rattle.store_steps.specs.Directory.{StandsFor}
use Rattle.store_steps.specs.Kept.{IsKept}
use Rattle.store_keep.specs.declared.opening.Opened.{Opened}
-- what is said of a store that is opened, or that isn't
pub use Rattle.store_reads.specs.Reads.{HasStoreCause, IsFoundIn, SaysDamage, chunks_in, taken_in}

-- No image that a crash may leave has a slot of the root that a read doesn't find.
pub record HidesNothing {D : Type 0} (words : DiskWords D) (disk : D) : Type 0 where
  pub hides : (image x : Image) (slot : ℕ) → slot < 2 → words.told disk ≡ Some image → words.may_leave disk x → image slot ≡ None → x slot ≡ None

-- where the history of a store begins: its snapshot, and the end of its log
abbrev pub base_of : {D : Type 0} → Opened D → Base
base_of opened = record { opening = arc_value opened.snapshot; log = opened.files.log.end }

-- what its disk had counted then: its faults, and the numbers of files and of roots
abbrev pub opening_of : {D : Type 0} → DiskWords D → Opened D → AtOpening
opening_of words opened = record { faults = words.faults opened.disk; file = opened.files.next_file; root = opened.files.root.number }

-- The disk of a store that was opened keeps its snapshot, and no step.
pub record IsOpened {D : Type 0} (words : DiskWords D) (schema : Schema) (opened : Opened D) : Type 0 where
  pub kept : IsKept words schema (base_of opened) [] None opened.disk opened.files
  pub of : AreOf schema (arc_value opened.snapshot)
  pub shape : (arc_value opened.snapshot).shape ≡ 0
  pub documents_are : opened.documents ≡ finite.len (live (arc_value opened.snapshot))

-- Where neither file of a root is there, an index begins: a log that ends here has no record.
abbrev pub BeginsAt : ℕ → Image → Type 0
BeginsAt end image = image 0 ≡ None → image 1 ≡ None → end ≡ 0

-- No slot was open, and the image stands for an index without documents.
pub record IsBegun (schema : Schema) (told : Option Image) (x : Image) : Type 0 where
  pub none : Told (λ image. IsRoot None (slots_of image)) told
  pub empty : StandsFor schema x finite.empty 0

-- Calls went by that looked, or began an index: a crash leaves what it might have left before them, or an index without documents.
pub record LeavesBegun {D : Type 0} (words : DiskWords D) (schema : Schema) (old new : D) : Type 0 where
  pub later : words.clock old ≤ words.clock new
  pub now : (x : Image) → words.may_leave new x → words.may_leave old x ⊎ IsBegun schema (words.told old) x
  pub since : (t : ℕ) (x : Image) → t ≤ words.clock old → words.may_have_left new t x → words.may_have_left old t x ⊎ (words.may_leave old x ⊎ IsBegun schema (words.told old) x)

-- the disk of a store that was opened, or that came back
abbrev pub disk_of : {D : Type 0} → Result (Opened D) (D × StoreFault) → D
disk_of (Ok opened) = opened.disk
disk_of (Err refused) = refused.0
