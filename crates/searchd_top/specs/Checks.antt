-- What a check does over the indexes of its configuration: it opens the store of each, and prints what each has.
use Rattle.std.specs.Prelude.{◌≡◌, ⊤, ◌⊎◌, ℕ, suc, ◌≤◌, List, [], ◌∷◌, ◌++◌, Option, codes, decimal, length, take}
use Rattle.std.specs.FinMap as finite
use Rattle.srch_base.specs.Counts.{Rose}
use Rattle.chunk_store.specs.Images.{Image, Told}
use Rattle.chunk_store.specs.declared.disk.Disk.{Ghosts as DiskWords}
use Rattle.doc_types.specs.declared.schema.Schema.{Schema}
use Rattle.index_conf.specs.declared.conf.IndexConf.{IndexConf}
use Rattle.store_steps.specs.Damage.{IsDamaged}
use Rattle.store_steps.specs.Directory.{Directory, Holds, rows_in}
use Rattle.store_steps.specs.declared.damage.TheConstants.{MOST_OPENED_CHUNKS}
use Rattle.store_keep.specs.Opens.{chunks_in, taken_in}
use Rattle.program_host.specs.Lending.{Lent}
use Rattle.program_host.specs.Statuses.{line}
use Rattle.program_host.specs.declared.requests.Request.{Request}
use Rattle.program_host.specs.declared.status.Status.{Status}
use Rattle.program_host.specs.declared.status.Status.TheVariants.{Done, Usage, Config, HostFault, Damaged, NoMemory, Strayed, JobFailed}
use Rattle.searchd_top.specs.Deeds.{Count, Deeds, HasRisen, IsStill}
use Rattle.searchd_top.specs.Openings.{Leaves}
use Rattle.searchd_top.specs.Output.{SaysLines}

-- What an index has: documents, chunks on the disk, and records of its logs that no chunk has.
pub record Holdings : Type 0 where
  pub documents : ℕ
  pub chunks : ℕ
  pub records : ℕ

-- the line of an index
abbrev pub check_line : List ℕ → Holdings → List ℕ
check_line name has =
    line (name ++ codes ": " ++ decimal has.documents ++ codes " documents, " ++ decimal has.chunks ++ codes " disk chunks, " ++ decimal has.records ++ codes " log records")

-- the lines of indexes, in their order
abbrev pub check_lines : List IndexConf → List Holdings → List ℕ
check_lines (index ∷ indexes) (has ∷ others) = check_line index.schema.name has ++ check_lines indexes others
check_lines indexes holdings = []

-- what the files of an index hold
abbrev pub holdings_in : Option Directory → Holdings
holdings_in found = record { documents = finite.len (rows_in found); chunks = length (chunks_in found); records = length (taken_in found) }

-- The files can be read: they hold a directory with no more chunks than are opened, or nothing yet; and so much of each.
pub record HasFiles (schema : Schema) (has : Holdings) (image : Image) : Type 0 where
  pub found : Option Directory
  pub holds : Holds schema found image
  pub few : length (chunks_in found) ≤ MOST_OPENED_CHUNKS
  pub is : has ≡ holdings_in found

-- The store of an index was opened, and has this.
pub record IsOpen {S : Type 0} (store : DiskWords S) (index : IndexConf) (lent : Lent S) (has : Holdings) : Type 0 where
  pub files : Told (HasFiles index.schema has) (store.told lent.given)
  pub leaves : Leaves store index lent

-- The stores of indexes were opened, in their order, and have this.
abbrev pub AreOpen : {S : Type 0} → DiskWords S → List IndexConf → List (Lent S) → List Holdings → Type 0
AreOpen store [] [] [] = ⊤
AreOpen store (index ∷ indexes) (lent ∷ stores) (has ∷ others) = IsOpen store index lent has × AreOpen store indexes stores others
AreOpen store indexes stores holdings = ⊥

-- What a status says where the host gave no store for an index.
abbrev pub SaysUngiven : Status → Count → Type 0
SaysUngiven HostFault faults = HasRisen faults
SaysUngiven NoMemory faults = IsStill faults
SaysUngiven Done faults = ⊥
SaysUngiven Usage faults = ⊥
SaysUngiven (Config number kind) faults = ⊥
SaysUngiven (Damaged name file place kind) faults = ⊥
SaysUngiven (Strayed name strayed) faults = ⊥
SaysUngiven JobFailed faults = ⊥

-- What it says where the store that was given for an index isn't opened: the store failed, or its files are damaged so.
abbrev pub SaysUnopened : {S : Type 0} → DiskWords S → IndexConf → Lent S → Status → Type 0
SaysUnopened store index lent HostFault = Rose (store.faults lent.given) (store.faults lent.back)
SaysUnopened store index lent (Damaged name file place kind) =
    (name ≡ index.schema.name) × Told (λ image. IsDamaged index.schema image (record { file = file; place = place; kind = kind })) (store.told lent.given)
SaysUnopened store index lent NoMemory = ⊤
SaysUnopened store index lent Done = ⊥
SaysUnopened store index lent Usage = ⊥
SaysUnopened store index lent (Config number kind) = ⊥
SaysUnopened store index lent (Strayed name strayed) = ⊥
SaysUnopened store index lent JobFailed = ⊥

-- Why opening stopped at an index, by the store that was given for it, if one was.
abbrev pub Stops : {S : Type 0} → DiskWords S → IndexConf → List (Lent S) → Status → Count → Type 0
Stops store index [] status faults = SaysUngiven status faults
Stops store index (lent ∷ []) status faults = Leaves store index lent × SaysUnopened store index lent status × IsStill faults
Stops store index stores status faults = ⊥

-- Opening stopped at an index: the stores of those before it were opened.
pub record StopsAt {S D : Type 0} (store : DiskWords S) (indexes : List IndexConf) (requests : List Request) (status : Status) (deeds : Deeds S D) : Type 0 where
  pub before : List IndexConf
  pub index : IndexConf
  pub after : List IndexConf
  pub are : indexes ≡ before ++ index ∷ after
  pub opened : List (Lent S)
  pub holdings : List Holdings
  pub opens : AreOpen store before opened holdings
  pub last : List (Lent S)
  pub stores : deeds.stores ≡ opened ++ last
  pub stops : Stops store index last status deeds.faults
  pub asked : deeds.requests ≡ take (suc (length before)) requests
  -- no line was printed
  pub output : deeds.output ≡ []
  pub print_faults : IsStill deeds.print_faults

-- The stores of all indexes were opened, and their lines printed.
pub record ChecksAll {S D : Type 0} (store : DiskWords S) (indexes : List IndexConf) (requests : List Request) (status : Status) (deeds : Deeds S D) : Type 0 where
  pub holdings : List Holdings
  pub opens : AreOpen store indexes deeds.stores holdings
  pub asked : deeds.requests ≡ requests
  pub faults : IsStill deeds.faults
  pub says : SaysLines status (check_lines indexes holdings) deeds.output deeds.print_faults

-- No door is given.
pub record ChecksIndexes {S D : Type 0} (store : DiskWords S) (indexes : List IndexConf) (requests : List Request) (status : Status) (deeds : Deeds S D) : Type 0 where
  pub doors : deeds.doors ≡ []
  pub checks : ChecksAll store indexes requests status deeds ⊎ StopsAt store indexes requests status deeds
