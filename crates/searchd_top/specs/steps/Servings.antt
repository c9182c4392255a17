-- Serving over stores in hand: what is done once all were opened.
use Rattle.std.specs.Prelude.{◌≡◌, ◌≤◌, ◌⊎◌, ℕ, List, ◌∷◌, ◌++◌, Option, Result, Ok, Err, length, map}
use Rattle.chunk_store.specs.declared.disk.Disk.{Ghosts as DiskWords}
use Rattle.commit_outcomes.specs.declared.strayed.Strayed.{Strayed as AnyStrayed}
use Rattle.doc_types.specs.declared.schema.TheConstants.{MAX_NAME_BYTES}
use Rattle.index_conf.specs.declared.conf.IndexConf.{IndexConf}
use Rattle.served_stores.specs.declared.serving.Outcome.{Outcome}
use Rattle.served_stores.specs.declared.serving.Outcome.TheVariants as outcomes
use Rattle.served_stores.specs.declared.serving.Served.{Served}
use Rattle.srch_base.specs.declared.door.Door.{Ghosts as DoorWords}
use Rattle.srch_base.specs.declared.faults.Or.{Or}
use Rattle.srch_base.specs.declared.faults.Or.TheVariants as causes
use Rattle.srch_base.specs.declared.link.Link.{Ghosts as LinkWords}
use Rattle.store_keep.specs.declared.opening.Opened.{Opened}
use Rattle.program_host.specs.Lending.{Lends, Lent, back_of}
use Rattle.program_host.specs.Requests.{Requested}
use Rattle.program_host.specs.declared.host.Host.{Ghosts as HostWords}
use Rattle.program_host.specs.declared.requests.Request.{Request}
use Rattle.program_host.specs.declared.status.Status.{Status}
use Rattle.program_host.specs.declared.status.Status.TheVariants.{Done, HostFault, NoMemory, Strayed}
use Rattle.searchd_top.specs.Deeds.{Deeds}
use Rattle.searchd_top.specs.Plans.{Plan}
use Rattle.searchd_top.specs.Requests.{door_requests, store_requests}
use Rattle.searchd_top.specs.Sessions.{AreIdle, HaveWorked, unless_decided}

abbrev pub plan_of : Option (List ℕ) → ℕ → ℕ → Plan
plan_of listen workers sessions = record { listen = listen; workers = workers; sessions = sessions }

-- the names of indexes
abbrev pub AreNames : List IndexConf → List (List ℕ) → Type 0
AreNames indexes names = names ≡ map (λ index. index.schema.name) indexes

-- the name of an index, in a status's line
abbrev pub IsShort : List ℕ → Type 0
IsShort name = length name ≤ MAX_NAME_BYTES

abbrev pub Answers : Type 0
Answers = List (Result (Unit {0}) (Or AnyStrayed))

-- the status once an index of this name ended so, where those behind it lead to a status
abbrev pub after_end : List ℕ → Result (Unit {0}) (Or AnyStrayed) → Status → Status
after_end name (Ok done) later = later
after_end name (Err (causes.Fault strayed)) later = Strayed name strayed
after_end name (Err causes.NoMemory) later = unless_decided later

-- and once indexes of these names did
abbrev pub after_ends : List (List ℕ) → Answers → Status → Status
after_ends (name ∷ names) (answer ∷ answers) later = after_end name answer (after_ends names answers later)
after_ends names answers later = later

-- the status by how serving went
abbrev pub SaysOutcome : List (List ℕ) → Answers → Outcome → Status → Type 0
SaysOutcome names answers outcomes.Done status = status ≡ after_ends names answers Done
SaysOutcome names answers outcomes.HostFault status = status ≡ HostFault
SaysOutcome names answers outcomes.NoMemory status = status ≡ NoMemory

-- All that was left was handed back, and nothing else was given, handed back or asked for.
pub record HandsAllBack {H S D K : Type 0} (host : HostWords H S D K) (names : List (List ℕ)) (served : Served S D) (status : Status) (old new : H) : Type 0 where
  pub takes_stores : host.stores_back new ≡ host.stores_back old ++ map (λ end. end.disk) served.ends.items
  pub takes_doors : host.doors_back new ≡ host.doors_back old ++ served.doors.items
  pub gives_stores : host.stores_given new ≡ host.stores_given old
  pub gives_doors : host.doors_given new ≡ host.doors_given old
  pub asks : host.requests new ≡ host.requests old
  pub count : host.faults new ≡ host.faults old
  pub says : SaysOutcome names (map (λ end. end.answer) served.ends.items) served.outcome status

-- Serving these stores: whatever was done before, if they came back so, then workers worked, or none began.
pub record ServesOpened {H S D K : Type 0} (host : HostWords H S D K) (store : DiskWords S) (door : DoorWords D K) (link : LinkWords K) (indexes : List IndexConf) (plan : Plan) (opened : List (Opened S)) (status : Status) (old new : H) : Type 0 where
  pub back : List S
  pub doors : List (Lent D)
  pub requests : List Request
  pub asks : Requested (host.requests old) (host.requests new) requests
  pub gives_stores : host.stores_given new ≡ host.stores_given old
  pub takes_stores : host.stores_back new ≡ host.stores_back old ++ back
  pub lends_doors : Lends (host.doors_given old) (host.doors_given new) (host.doors_back old) (host.doors_back new) doors
  pub many : length back ≡ length opened
  pub comes : (deeds : Deeds S D) → back_of deeds.stores ≡ back → deeds.doors ≡ doors → deeds.requests ≡ store_requests indexes ++ requests
      → deeds.faults ≡ record { before = host.faults old; now = host.faults new }
      → HaveWorked store door link indexes plan (store_requests indexes ++ door_requests plan) opened status deeds ⊎ AreIdle store indexes plan (store_requests indexes ++ door_requests plan) opened status deeds
