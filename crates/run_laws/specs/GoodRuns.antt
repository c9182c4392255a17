-- Good runs: what is asked for can be had, and nothing fails.
use Rattle.std.specs.Prelude.{◌≡◌, ◌≢◌, ⊤, ℕ, ◌+◌, List, All, Option, None, Some, slice_get, take}
use Rattle.srch_base.specs.Counts.{Rose}
use Rattle.srch_base.specs.declared.door.Door.{Ghosts as DoorWords}
use Rattle.chunk_store.specs.Images.{Image}
use Rattle.chunk_store.specs.declared.disk.Disk.{Ghosts as DiskWords}
use Rattle.command_line.specs.Modes.{Mode, selftest}
use Rattle.conf_text.specs.Confs.{IsConfOf}
use Rattle.conf_text.specs.declared.size.TheConstants.{MAX_CONF_BYTES}
use Rattle.doc_types.specs.declared.schema.Schema.{Schema}
use Rattle.index_conf.specs.declared.conf.Conf.{Conf}
use Rattle.index_conf.specs.declared.conf.IndexConf.{IndexConf}
use Rattle.store_steps.specs.Damage.{IsDamaged}
use Rattle.store_steps.specs.declared.damage.Damage.{Damage}
use Rattle.program_host.specs.Lending.{Lent}
use Rattle.program_host.specs.Texts.{Texts}
use Rattle.program_host.specs.declared.host.Host.{Ghosts as HostWords}
use Rattle.program_host.specs.declared.status.Status.{Status}
use Rattle.program_host.specs.declared.status.Status.TheVariants.{Config, Damaged, Done, HostFault, JobFailed, NoMemory, Strayed, Usage}
use Rattle.searchd_top.specs.CommandLine.{file_of}
use Rattle.searchd_top.specs.Configuring.{AreIndexes}
use Rattle.searchd_top.specs.Deeds.{Count, Deeds, Does, HasRisen}

-- the count didn't rise, and doesn't stand at its end
abbrev pub IsCalm : Count → Type 0
IsCalm count = HasRisen count → ⊥

-- The text of a file is known, and is a configuration.
abbrev pub IsConfiguration : Option (List ℕ) → Type 0
IsConfiguration None = ⊥
IsConfiguration (Some text) = (conf : Conf) × IsConfOf (take (MAX_CONF_BYTES + 1) text) conf

-- The words ask for a mode, and the text of its file, if it has one, is a configuration.
pub record IsWellAsked (texts : Texts) (mode : Option Mode) : Type 0 where
  pub asks : mode ≢ None
  pub conf : (file : List ℕ) → file_of mode ≡ Some file → IsConfiguration (texts file)

-- The store told its files as it was given, and they have no damage.
pub record IsUndamaged {S : Type 0} (store : DiskWords S) (schema : Schema) (given : S) : Type 0 where
  pub image : Image
  pub told : store.told given ≡ Some image
  pub good : (damage : Damage) → IsDamaged schema image damage → ⊥

-- Neither the host failed, nor a print to the output, nor a store or a door until it was handed back.
pub record NothingFails {S D K : Type 0} (store : DiskWords S) (door : DoorWords D K) (deeds : Deeds S D) : Type 0 where
  pub host : IsCalm deeds.faults
  pub prints : IsCalm deeds.print_faults
  pub stores : All (λ (lent : Lent S). Rose (store.faults lent.given) (store.faults lent.back) → ⊥) deeds.stores
  pub doors : All (λ (lent : Lent D). Rose (door.faults lent.given) (door.faults lent.back) → ⊥) deeds.doors

-- The stores that were given for these indexes, each for the one at its place, have no damage.
pub record AreUndamaged {S D : Type 0} (store : DiskWords S) (indexes : List IndexConf) (deeds : Deeds S D) : Type 0 where
  pub each : (place : ℕ) (index : IndexConf) (lent : Lent S) → slice_get indexes place ≡ Some index → slice_get deeds.stores place ≡ Some lent → IsUndamaged store index.schema lent.given

-- By whatever deeds its host saw, nothing failed in the run, and its stores have no damage, whatever indexes its file has.
pub record IsGoodRun {H S D K : Type 0} (host : HostWords H S D K) (store : DiskWords S) (door : DoorWords D K) (mode : Option Mode) (old new : H) : Type 0 where
  pub nothing : (deeds : Deeds S D) → Does host old new deeds → NothingFails store door deeds
  pub undamaged : (deeds : Deeds S D) (indexes : List IndexConf) → Does host old new deeds → AreIndexes (host.text old) (file_of mode) indexes → AreUndamaged store indexes deeds

-- the mode is a selftest
abbrev pub IsSelftest : Option Mode → Type 0
IsSelftest (Some (selftest number docs)) = ⊤
IsSelftest mode = ⊥

-- A run of a mode ends well that is done, or to which memory was refused, or of which an index's history strayed; and a selftest of which a
-- job failed.
abbrev pub EndsWell : Option Mode → Status → Type 0
EndsWell mode Done = ⊤
EndsWell mode NoMemory = ⊤
EndsWell mode (Strayed index numbers) = ⊤
EndsWell mode JobFailed = IsSelftest mode
EndsWell mode Usage = ⊥
EndsWell mode (Config line kind) = ⊥
EndsWell mode HostFault = ⊥
EndsWell mode (Damaged index file place kind) = ⊥
