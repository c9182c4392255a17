-- Doubts: a root of which it is in doubt which state it has.
--
-- A job ends by a new root: its state names new chunks, the log so far as its older log, and a new log without a record. Where the
-- root couldn't be replaced, the files may be read by either state: by the own one, as before, or by the one in doubt. Commits go on
-- in the log so far. It is the newer log of the own state and the older log of the other one, so both stand for the same documents,
-- with each commit that comes.
use Rattle.std.specs.Prelude.{◌≡◌, ℕ, ◌≤◌, List, [], true, Option, Some, None}
use Rattle.std.specs.List.{AllZip}
use Rattle.doc_types.specs.declared.documents.DocRow.{DocRow}
use Rattle.doc_types.specs.declared.schema.Schema.{Schema}
use Rattle.chunk_store.specs.Images.{Image, contents}
use Rattle.gate_log.specs.Logs.{IsLogOf}
use Rattle.gate_log.specs.declared.log.GateLog.{GateLog}
use Rattle.root_slots.specs.Slots.{Slot}
use Rattle.root_slots.specs.States.{IsState}
use Rattle.root_slots.specs.declared.root.Root.{Root}
use Rattle.root_slots.specs.declared.state.RootState.{RootState}
use Rattle.store_steps.specs.Directory.{Directory, IsChunkFile, IsInOrder, Reaches, directory_number, directory_rows}
use Rattle.store_steps.specs.declared.files.Files.{Files}

-- the files of a root that has this state, where none is in doubt
abbrev pub sure_files : Root → RootState → GateLog → Files
sure_files root state log = record { root = root; log = log; state = state; next_file = state.next_file; sure = true }

-- A state in doubt, with the number of its slot, and the rows of its chunks.
pub record Doubted : Type 0 where
  pub number : ℕ
  pub state : RootState
  pub chunks : List (List DocRow)

-- the slot in doubt
abbrev pub slot_in : Option Doubted → Option Slot
slot_in None = None
slot_in (Some d) = Some (record { number = d.number; state = d.state })

-- what the files hold where they are read by it: the log that grows is the older one, and the newer one has no record
abbrev pub face_of : Directory → Doubted → Directory
face_of dir d = record { state = d.state; chunks = d.chunks; older = dir.newer; newer = [] }

-- The same with all batches in one log. It stands for the same, and one more batch comes last in both.
abbrev pub shadow_of : Directory → Doubted → Directory
shadow_of dir d = record { state = d.state; chunks = d.chunks; older = []; newer = dir.newer }

-- The state may stand in place of the own one: it is sound, all its files were made before this one, and it says what the own state
-- does.
pub record MayStand (schema : Schema) (next_file : ℕ) (dir : Directory) (d : Doubted) : Type 0 where
  pub state : IsState d.state
  pub older : d.state.older ≡ dir.state.newer
  pub made : d.state.next_file ≤ next_file
  pub in_order : IsInOrder schema (shadow_of dir d)
  pub reaches : Reaches (shadow_of dir d)
  pub rows : directory_rows (shadow_of dir d) ≡ directory_rows dir
  pub number : directory_number (shadow_of dir d) ≡ directory_number dir

-- The files that it names, but the log that grows: the images of its chunks, and a log without a record.
pub record AreOther (schema : Schema) (x : Image) (d : Doubted) : Type 0 where
  pub chunks : AllZip (IsChunkFile schema x) d.state.chunks d.chunks
  pub newer : IsLogOf [] (contents (x d.state.newer))
