-- What `session` and `serve` do over the indexes of a configuration: the stores of all are opened, doors are asked for, and workers serve
-- their lines, each those of its own door. Then each index ends.
use Rattle.std.specs.Prelude.{◌≡◌, ◌⊎◌, ℕ, List, [], ◌∷◌, Bool, true, false, Result, Ok, Err, length, map, take}
use Rattle.chunk_store.specs.declared.disk.Disk.{Ghosts as DiskWords}
use Rattle.commit_outcomes.specs.declared.strayed.Strayed.{Strayed as AnyStrayed}
use Rattle.doc_types.specs.declared.schema.Schema.{Schema}
use Rattle.engine_tables.specs.Endings.{ComeBack}
use Rattle.index_conf.specs.declared.conf.IndexConf.{IndexConf}
use Rattle.line_workers.specs.Served.{IsServed}
use Rattle.served_stores.specs.Serving.{AnyEnded, AnySeat, some_failed}
use Rattle.served_stores.specs.Stores.{AreNamesOf}
use Rattle.srch_base.specs.declared.door.Door.{Ghosts as DoorWords}
use Rattle.srch_base.specs.declared.faults.Or.{Or}
use Rattle.srch_base.specs.declared.faults.Or.TheVariants as causes
use Rattle.srch_base.specs.declared.link.Link.{Ghosts as LinkWords}
use Rattle.step_book.specs.Tellings.{AtOpening}
use Rattle.step_history.specs.History.{Base}
use Rattle.store_keep.specs.declared.opening.Opened.{Opened}
use Rattle.program_host.specs.Lending.{back_of, given_of}
use Rattle.program_host.specs.declared.requests.Request.{Request}
use Rattle.program_host.specs.declared.status.Status.{Status}
use Rattle.program_host.specs.declared.status.Status.TheVariants.{Done, Usage, Config, HostFault, Damaged, NoMemory, Strayed, JobFailed}
use Rattle.searchd_top.specs.Checks.{StopsAt}
use Rattle.searchd_top.specs.Deeds.{Deeds, HasRisen, IsStill}
use Rattle.searchd_top.specs.Openings.{AreOpenedFrom}
use Rattle.searchd_top.specs.Plans.{Plan}
use Rattle.searchd_top.specs.Requests.{store_requests}

-- an end out of memory decides where nothing else does
abbrev pub unless_decided : Status → Status
unless_decided Done = NoMemory
unless_decided status = status

-- The status by how the indexes ended: the first one whose history strayed decides, and then out of memory.
abbrev pub status_of_ends : List IndexConf → List (Result (Unit {0}) (Or AnyStrayed)) → Status
status_of_ends (index ∷ indexes) (Ok done ∷ ends) = status_of_ends indexes ends
status_of_ends (index ∷ indexes) (Err (causes.Fault strayed) ∷ ends) = Strayed index.schema.name strayed
status_of_ends (index ∷ indexes) (Err causes.NoMemory ∷ ends) = unless_decided (status_of_ends indexes ends)
status_of_ends indexes ends = Done

-- a door that failed decides before them
abbrev pub status_after : Bool → Status → Status
status_after true status = HostFault
status_after false status = status

-- The workers served the lines of these doors over the stores that were opened, and then each index ended. All that lines were shown and
-- told is of the one history of each index, which begins with the documents that its files stood for; and what faults and stops they
-- were answered fits what the disk of each index counted since then, and its numbers of files and of roots.
pub record HaveWorked {S D K : Type 0} (store : DiskWords S) (door : DoorWords D K) (link : LinkWords K) (indexes : List IndexConf) (plan : Plan) (requests : List Request) (opened : List (Opened S)) (status : Status) (deeds : Deeds S D) : Type 0 where
  pub schema : ℕ → Schema
  pub base : ℕ → Base
  pub openings : ℕ → AtOpening
  pub names : AreNamesOf store indexes opened schema base openings
  pub seats : List (AnySeat D K)
  pub left : List (AnySeat D K)
  pub ended : List (AnyEnded S)
  pub many : length deeds.doors ≡ plan.workers
  pub sat : map (λ seat. seat.door) seats ≡ given_of deeds.doors
  pub stood : map (λ seat. seat.door) left ≡ back_of deeds.doors
  pub disks : map (λ end. end.disk) ended ≡ back_of deeds.stores
  pub served : IsServed store door link schema base openings indexes plan.sessions seats left ended
  pub says : status ≡ status_after (some_failed left) (status_of_ends indexes (map (λ end. end.answer) ended))
  pub asked : deeds.requests ≡ requests
  pub faults : IsStill deeds.faults

-- What a status says where no worker began: the host gave no doors, or memory was refused.
abbrev pub SaysIdle : {S D : Type 0} → List Request → Status → Deeds S D → Type 0
SaysIdle requests HostFault deeds = (deeds.requests ≡ requests) × HasRisen deeds.faults × (deeds.doors ≡ [])
SaysIdle requests NoMemory deeds = ((count : ℕ) × (deeds.requests ≡ take count requests)) × IsStill deeds.faults
SaysIdle requests Done deeds = ⊥
SaysIdle requests Usage deeds = ⊥
SaysIdle requests (Config number kind) deeds = ⊥
SaysIdle requests (Damaged name file place kind) deeds = ⊥
SaysIdle requests (Strayed name strayed) deeds = ⊥
SaysIdle requests JobFailed deeds = ⊥

-- No worker began. The doors, all or none, came back as they were, and each store as it was opened, or as the end of its engine left
-- it, with the tokens that it gave.
pub record AreIdle {S D : Type 0} (store : DiskWords S) (indexes : List IndexConf) (plan : Plan) (requests : List Request) (opened : List (Opened S)) (status : Status) (deeds : Deeds S D) : Type 0 where
  pub schema : ℕ → Schema
  pub base : ℕ → Base
  pub openings : ℕ → AtOpening
  pub names : AreNamesOf store indexes opened schema base openings
  pub ended : List (AnyEnded S)
  pub many : (deeds.doors ≡ []) ⊎ (length deeds.doors ≡ plan.workers)
  pub same : back_of deeds.doors ≡ given_of deeds.doors
  pub disks : map (λ end. end.disk) ended ≡ back_of deeds.stores
  pub back : ComeBack store schema base openings (length deeds.doors) opened ended
  pub says : SaysIdle requests status deeds

-- The stores of all indexes were opened.
pub record OpensFirst {S D K : Type 0} (store : DiskWords S) (door : DoorWords D K) (link : LinkWords K) (indexes : List IndexConf) (plan : Plan) (requests : List Request) (status : Status) (deeds : Deeds S D) : Type 0 where
  pub opened : List (Opened S)
  pub are : AreOpenedFrom store indexes (given_of deeds.stores) opened
  pub goes : HaveWorked store door link indexes plan requests opened status deeds ⊎ AreIdle store indexes plan requests opened status deeds

-- Opening a store stopped it, and no door was given.
pub record StopsFirst {S D : Type 0} (store : DiskWords S) (indexes : List IndexConf) (status : Status) (deeds : Deeds S D) : Type 0 where
  pub doors : deeds.doors ≡ []
  pub stops : StopsAt store indexes (store_requests indexes) status deeds

-- What serving these indexes by a plan comes to. Nothing is printed to the output.
pub record ServesIndexes {S D K : Type 0} (store : DiskWords S) (door : DoorWords D K) (link : LinkWords K) (indexes : List IndexConf) (plan : Plan) (requests : List Request) (status : Status) (deeds : Deeds S D) : Type 0 where
  pub output : deeds.output ≡ []
  pub print_faults : IsStill deeds.print_faults
  pub serves : OpensFirst store door link indexes plan requests status deeds ⊎ StopsFirst store indexes status deeds
