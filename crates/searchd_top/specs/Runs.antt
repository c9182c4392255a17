-- A run: what the program does through its host, and what its status says of that.
use Rattle.std.specs.Prelude.{◌≡◌, ◌⊎◌, ℕ, List, [], ◌++◌, Option, Some, None, take}
use Rattle.srch_base.specs.declared.link.Link.{Ghosts as LinkWords}
use Rattle.srch_base.specs.declared.door.Door.{Ghosts as DoorWords}
use Rattle.chunk_store.specs.declared.disk.Disk.{Ghosts as DiskWords}
use Rattle.index_conf.specs.declared.conf.IndexConf.{IndexConf}
use Rattle.command_line.specs.Modes.{Mode, session, serve, check, selftest}
use Rattle.program_host.specs.Texts.{Texts}
use Rattle.program_host.specs.declared.host.Host.{Ghosts as HostWords}
use Rattle.program_host.specs.declared.requests.Request.{Request}
use Rattle.program_host.specs.declared.status.Status.{Status}
use Rattle.program_host.specs.declared.status.Status.TheVariants.{Done, Usage, Config, HostFault, Damaged, NoMemory, Strayed, JobFailed}
use Rattle.searchd_top.specs.Checks.{ChecksIndexes}
use Rattle.searchd_top.specs.CommandLine.{file_of}
use Rattle.searchd_top.specs.Configuring.{AreIndexes, IsMisconfigured}
use Rattle.searchd_top.specs.Deeds.{Count, Deeds, Does, HasRisen, IsIdle, IsStill}
use Rattle.searchd_top.specs.Plans.{listening, one_line}
use Rattle.searchd_top.specs.Requests.{later_requests, text_requests}
use Rattle.searchd_top.specs.Selftests.{PrintsSelftest}
use Rattle.searchd_top.specs.Sessions.{ServesIndexes}

-- What a mode does over the indexes of its file, a row for each mode.
abbrev pub Works : {S D K : Type 0} → DiskWords S → DoorWords D K → LinkWords K → Option Mode → List IndexConf → Status → Deeds S D → Type 0
Works store door link (Some (session file)) indexes status deeds = ServesIndexes store door link indexes one_line (later_requests (Some (session file)) indexes) status deeds
Works store door link (Some (serve file listen workers sessions)) indexes status deeds =
    ServesIndexes store door link indexes (listening listen workers sessions) (later_requests (Some (serve file listen workers sessions)) indexes) status deeds
Works store door link (Some (check file)) indexes status deeds = ChecksIndexes store indexes (later_requests (Some (check file)) indexes) status deeds
Works store door link (Some (selftest number docs)) indexes status deeds = PrintsSelftest number docs status deeds
Works store door link None indexes status deeds = ⊥

-- What a status says where there are no indexes to work over: there is no mode, or no configuration in its file.
abbrev pub SaysRefused : Texts → Option Mode → Status → List Request → Count → Type 0
SaysRefused texts mode Usage requests faults = (mode ≡ None) × (requests ≡ []) × IsStill faults
SaysRefused texts mode (Config line kind) requests faults =
    (file : List ℕ) × (file_of mode ≡ Some file) × IsMisconfigured texts file (record { line = line; kind = kind }) × (requests ≡ text_requests (Some file)) × IsStill faults
SaysRefused texts mode HostFault requests faults = (file : List ℕ) × (file_of mode ≡ Some file) × (requests ≡ text_requests (Some file)) × HasRisen faults
SaysRefused texts mode NoMemory requests faults = (count : ℕ) × (requests ≡ take count (text_requests (file_of mode)))
SaysRefused texts mode Done requests faults = ⊥
SaysRefused texts mode (Damaged index file place kind) requests faults = ⊥
SaysRefused texts mode (Strayed index strayed) requests faults = ⊥
SaysRefused texts mode JobFailed requests faults = ⊥

-- The run was refused before there was anything to work over.
pub record IsRefused {S D : Type 0} (texts : Texts) (mode : Option Mode) (status : Status) (deeds : Deeds S D) : Type 0 where
  pub idle : IsIdle deeds
  pub says : SaysRefused texts mode status deeds.requests deeds.faults

-- The text of the mode's file was read, and it did its work over the indexes that it has.
pub record DoesWork {S D K : Type 0} (store : DiskWords S) (door : DoorWords D K) (link : LinkWords K) (texts : Texts) (mode : Option Mode) (status : Status) (deeds : Deeds S D) : Type 0 where
  pub indexes : List IndexConf
  pub are : AreIndexes texts (file_of mode) indexes
  pub later : List Request
  pub asked : deeds.requests ≡ text_requests (file_of mode) ++ later
  pub works : Works store door link mode indexes status (record deeds { requests = later })

-- A run of the program: its deeds, by which the mode did its work, or the status says why there was nothing to work over.
abbrev pub Runs : {H S D K : Type 0} → HostWords H S D K → DiskWords S → DoorWords D K → LinkWords K → Option Mode → Status → H → H → Type 0
Runs {H} {S} {D} {K} host store door link mode status old new =
    (deeds : Deeds S D) × Does host old new deeds × (IsRefused (host.text old) mode status deeds ⊎ DoesWork store door link (host.text old) mode status deeds)
