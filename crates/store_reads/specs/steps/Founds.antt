-- What is found of a root, and of the logs that it names.
use Rattle.std.specs.Prelude.{◌≡◌, ℕ, ◌-◌, ◌≤◌, ◌<◌, List, Option, Some, None, Result, Ok, Err}
use Rattle.std.specs.Arc.{arc_value}
use Rattle.std.specs.FinMap as finite
use Rattle.chunk_store.specs.Images.{Image}
use Rattle.doc_types.specs.declared.schema.Schema.{Schema}
use Rattle.doc_types.specs.Snapshots.{LayerValue, live}
use Rattle.gate_log.specs.Logs.{last_number, quiet_log}
use Rattle.gate_log.specs.declared.records.LogRecord.{LogRecord}
use Rattle.root_slots.specs.Roots.{Stands as RootStands}
use Rattle.root_slots.specs.Slots.{Slot, slots_of}
use Rattle.root_slots.specs.declared.root.Root.{Root}
use Rattle.root_slots.specs.declared.state.RootState.{RootState}
use Rattle.store_steps.specs.Damage.{IsBadRootState, IsGoodState}
use Rattle.store_steps.specs.Doubts.{sure_files}
use Rattle.store_steps.specs.declared.damage.Damage.{Damage}
use Rattle.store_steps.specs.declared.damage.DamageKind.TheVariants as kinds
use Rattle.store_reads.specs.declared.fault.StoreFault.{StoreFault}
use Rattle.store_reads.specs.declared.fault.StoreFault.TheVariants as faults
use Rattle.store_reads.specs.declared.found.Found.{Found}
use Rattle.store_reads.specs.declared.logs.Logs.{Logs}
use Rattle.store_reads.specs.steps.Loads.{IsSnapshotOf, number_after}

-- whether a state can be taken
abbrev pub ChecksState : Schema → Root → RootState → Result (Unit {0}) StoreFault → Type 0
ChecksState schema root state (Ok done) = IsGoodState schema state
ChecksState schema root state (Err faults.NoMemory) = Unit {0}
ChecksState schema root state (Err faults.DiskFault) = ⊥
ChecksState schema root state (Err (faults.Damaged damage)) = (x : Image) (own : Slot) → own.state ≡ state → RootStands root (Some own) None (slots_of x) → IsBadRootState schema x damage

-- the closed gate behind the last record of both logs, as damage
abbrev pub gate_at : RootState → Logs → Option ℕ → Damage
gate_at state logs None = record { file = state.older; place = logs.older_end; kind = kinds.RecordNumber }
gate_at state logs (Some last) = record { file = state.newer; place = logs.end.end; kind = kinds.RecordNumber }

abbrev pub last_gate : RootState → Logs → Damage
last_gate state logs = gate_at state logs logs.end.last

-- whether the logs have records and end before the chunks do
abbrev pub FindsEarly : RootState → Logs → Option Damage → Type 0
FindsEarly state logs (Some damage) = (last : ℕ) × (logs.loaded.last ≡ Some last) × (last < state.through) × (damage ≡ last_gate state logs)
FindsEarly state logs None = (last : ℕ) → logs.loaded.last ≡ Some last → state.through ≤ last

-- The records of both logs were made a snapshot. The logs end no earlier than the chunks do.
pub record IsLoadedAs (schema : Schema) (chunks : List LayerValue) (root : Root) (state : RootState) (logs : Logs) (records : List LogRecord) (found : Found) : Type 0 where
  pub files_are : found.files ≡ sure_files root state (quiet_log state.newer logs.end.end logs.end.last)
  pub snapshot : IsSnapshotOf schema chunks state.through records (arc_value found.snapshot)
  pub reach : state.through ≤ number_after state.through (last_number records)
  pub records_are : found.records ≡ (arc_value found.snapshot).number - state.through
  pub documents_are : found.documents ≡ finite.len (live (arc_value found.snapshot))
