-- Stores that are opened one after the other: those in hand, and where opening stops.
use Rattle.std.specs.Prelude.{◌≡◌, ⊤, ℕ, suc, List, ◌∷◌, ◌++◌, Result, Ok, Err, length, map, take, option_to_list}
use Rattle.std.specs.Arc.{arc_value}
use Rattle.std.specs.FinMap as finite
use Rattle.chunk_store.specs.declared.disk.Disk.{Ghosts as DiskWords}
use Rattle.doc_types.specs.Snapshots.{live}
use Rattle.index_conf.specs.declared.conf.IndexConf.{IndexConf}
use Rattle.step_history.specs.Places.{disk_chunks}
use Rattle.store_keep.specs.StoreFault.{StoreFault}
use Rattle.store_keep.specs.StoreFault.TheVariants as faults
use Rattle.store_keep.specs.declared.opening.Opened.{Opened}
use Rattle.program_host.specs.Lending.{Lent, back_of, given_of}
use Rattle.program_host.specs.Requests.{Requested}
use Rattle.program_host.specs.declared.host.Host.{Ghosts as HostWords}
use Rattle.program_host.specs.declared.status.Status.{Status}
use Rattle.program_host.specs.declared.status.Status.TheVariants.{HostFault, Damaged, NoMemory}
use Rattle.searchd_top.specs.Checks.{Holdings, Stops}
use Rattle.searchd_top.specs.Openings.{AreOpenedFrom}
use Rattle.searchd_top.specs.Requests.{store_requests}
use Rattle.searchd_top.specs.declared.opening.Stop.{Stop}

-- the disks of stores that were opened
abbrev pub disks_of : {S : Type 0} → List (Opened S) → List S
disks_of opened = map (λ store. store.disk) opened

-- what a store has
abbrev pub holdings_of : {S : Type 0} → Opened S → Holdings
holdings_of store =
    record { documents = finite.len (live (arc_value store.snapshot)); chunks = length (disk_chunks (arc_value store.snapshot)); records = store.records }

-- Stores were asked for and given, and no door was; none was handed back.
pub record KeepsDoors {H S D K : Type 0} (host : HostWords H S D K) (old new : H) : Type 0 where
  pub takes_stores : host.stores_back new ≡ host.stores_back old
  pub gives_doors : host.doors_given new ≡ host.doors_given old
  pub takes_doors : host.doors_back new ≡ host.doors_back old

-- All were opened, behind those that were open before.
pub record OpensAll {H S D K : Type 0} (host : HostWords H S D K) (store : DiskWords S) (indexes : List IndexConf) (before after : List (Opened S)) (old new : H) : Type 0 where
  pub given : List S
  pub opened : List (Opened S)
  pub gives : host.stores_given new ≡ host.stores_given old ++ given
  pub holds : after ≡ before ++ opened
  pub held : AreOpenedFrom store indexes given opened
  pub asked : Requested (host.requests old) (host.requests new) (store_requests indexes)
  pub still : host.faults new ≡ host.faults old

-- Opening stopped at an index; the stores of those before it were opened.
pub record StopsOpening {H S D K : Type 0} (host : HostWords H S D K) (store : DiskWords S) (indexes : List IndexConf) (stop : Stop S) (before after : List (Opened S)) (old new : H) : Type 0 where
  pub front : List IndexConf
  pub index : IndexConf
  pub rest : List IndexConf
  pub are : indexes ≡ front ++ index ∷ rest
  pub given : List S
  pub opened : List (Opened S)
  pub holds : after ≡ before ++ opened
  pub held : AreOpenedFrom store front given opened
  pub last : List (Lent S)
  pub hands : back_of last ≡ option_to_list stop.store
  pub gives : host.stores_given new ≡ host.stores_given old ++ (given ++ given_of last)
  pub stops : Stops store index last stop.status (record { before = host.faults old; now = host.faults new })
  pub asked : Requested (host.requests old) (host.requests new) (take (suc (length front)) (store_requests indexes))

-- what opening the stores of indexes comes to
abbrev pub OpensStores : {H S D K : Type 0} → HostWords H S D K → DiskWords S → List IndexConf → Result (Unit {0}) (Stop S) → List (Opened S) → List (Opened S) → H → H → Type 0
OpensStores host store indexes (Ok done) before after old new = OpensAll host store indexes before after old new
OpensStores host store indexes (Err stop) before after old new = StopsOpening host store indexes stop before after old new

-- what a run ends with where the store of the index of this name can't be opened
abbrev pub SaysFault : List ℕ → StoreFault → Status → Type 0
SaysFault name faults.NoMemory status = status ≡ NoMemory
SaysFault name faults.DiskFault status = status ≡ HostFault
SaysFault name (faults.Damaged damage) NoMemory = ⊤
SaysFault name (faults.Damaged damage) status = status ≡ Damaged name damage.file damage.place damage.kind
