-- A run of the tool: what it does through its host, and what its status says of that.
use Rattle.std.specs.Prelude.{◌≡◌, ◌≢◌, ◌⊎◌, ℕ, List, [], ◌∷◌, All, Contains, Option, Some, None}
use Rattle.std.specs.Io.{StartsWith}
use Rattle.srch_base.specs.Counts.{Rose}
use Rattle.srch_base.specs.Told.{then_bytes}
use Rattle.chunk_store.specs.Calls.{OnlyReads}
use Rattle.chunk_store.specs.CrashModel.{KeepsAll}
use Rattle.chunk_store.specs.Images.{Told}
use Rattle.chunk_store.specs.declared.disk.Disk.{Ghosts as DiskWords}
use Rattle.conf_text.specs.Confs.{IsConfOf, IsFaultOf}
use Rattle.conf_text.specs.declared.fault.ConfFault.{ConfFault}
use Rattle.conf_text.specs.declared.size.TheConstants.{MAX_CONF_BYTES}
use Rattle.index_conf.specs.declared.conf.Conf.{Conf}
use Rattle.index_conf.specs.declared.conf.IndexConf.{IndexConf}
use Rattle.program_host.specs.Lending.{Lent, Lends}
use Rattle.program_host.specs.Requests.{Requested}
use Rattle.program_host.specs.Texts.{AreReadOf, Texts}
use Rattle.program_host.specs.declared.host.Stream.TheVariants.{Out}
use Rattle.program_host.specs.declared.requests.Request.{Request}
use Rattle.program_host.specs.declared.requests.Request.TheVariants.{ReadText, OpenStore}
use Rattle.store_steps.specs.Damage.{IsDamaged}
use Rattle.index_tool.specs.Asking.{Asked, Mode}
use Rattle.index_tool.specs.ToolLines.{Contents, HasContents, tool_lines}
use Rattle.index_tool.specs.declared.host.ToolHost.{Ghosts as HostWords}
use Rattle.index_tool.specs.declared.status.ToolStatus.{ToolStatus}
use Rattle.index_tool.specs.declared.status.ToolStatus.TheVariants.{Done, Usage, Config, HostFault, Damaged, NoMemory, UnknownIndex}

-- a count of faults, before and after
pub record Count : Type 0 where
  pub before : ℕ
  pub now : ℕ

abbrev pub HasRisen : Count → Type 0
HasRisen count = Rose count.before count.now

abbrev pub IsStill : Count → Type 0
IsStill count = count.now ≡ count.before

-- What a run did.
pub record Deeds (S : Type 0) : Type 0 where
  -- what it asked for, in that order
  pub requests : List Request
  -- the stores that it was given and handed back
  pub stores : List (Lent S)
  -- what it printed to the output
  pub output : List ℕ
  -- how often the host failed to give something, and how often to print to the output
  pub faults : Count
  pub print_faults : Count

-- The host saw these deeds between two of its states.
pub record Does {H S : Type 0} (host : HostWords H S) (old new : H) (deeds : Deeds S) : Type 0 where
  pub asks : Requested (host.requests old) (host.requests new) deeds.requests
  pub lends : Lends (host.stores_given old) (host.stores_given new) (host.stores_back old) (host.stores_back new) deeds.stores
  pub prints : host.printed new Out ≡ then_bytes (host.printed old Out) deeds.output
  pub counts : deeds.faults ≡ (record { before = host.faults old; now = host.faults new })
  pub counts_prints : deeds.print_faults ≡ (record { before = host.print_faults old Out; now = host.print_faults new Out })

-- Nothing was given, and nothing printed.
pub record IsIdle {S : Type 0} (deeds : Deeds S) : Type 0 where
  pub stores : deeds.stores ≡ []
  pub output : deeds.output ≡ []
  pub print_faults : IsStill deeds.print_faults

-- What was read of the file is a configuration that has this index, by its name.
pub record IsConfigured (texts : Texts) (asked : Asked) (index : IndexConf) : Type 0 where
  pub bytes : List ℕ
  pub read : AreReadOf (texts asked.config) MAX_CONF_BYTES bytes
  pub conf : Conf
  pub is : IsConfOf bytes conf
  pub has : Contains conf.indexes index
  pub named : index.schema.name ≡ asked.index

-- What was read of the file is a configuration without an index of this name.
pub record IsUnknown (texts : Texts) (asked : Asked) : Type 0 where
  pub bytes : List ℕ
  pub read : AreReadOf (texts asked.config) MAX_CONF_BYTES bytes
  pub conf : Conf
  pub is : IsConfOf bytes conf
  pub none : All (λ index. index.schema.name ≢ asked.index) conf.indexes

-- What was read of the file is no configuration: this fault comes first.
pub record IsMisconfigured (texts : Texts) (asked : Asked) (fault : ConfFault) : Type 0 where
  pub bytes : List ℕ
  pub read : AreReadOf (texts asked.config) MAX_CONF_BYTES bytes
  pub is : IsFaultOf bytes fault

-- What a status says where no store was asked for.
abbrev pub SaysRefused : Texts → Option Asked → ToolStatus → List Request → Count → Type 0
SaysRefused texts asked Usage requests faults = (asked ≡ None) × (requests ≡ []) × IsStill faults
SaysRefused texts (Some asked) (Config line kind) requests faults = IsMisconfigured texts asked (record { line = line; kind = kind }) × (requests ≡ ReadText asked.config ∷ []) × IsStill faults
SaysRefused texts (Some asked) UnknownIndex requests faults = IsUnknown texts asked × (requests ≡ ReadText asked.config ∷ []) × IsStill faults
SaysRefused texts (Some asked) HostFault requests faults = (requests ≡ ReadText asked.config ∷ []) × HasRisen faults
SaysRefused texts (Some asked) NoMemory requests faults = (requests ≡ ReadText asked.config ∷ []) × IsStill faults
SaysRefused texts asked status requests faults = ⊥

-- The store came back with every image that a crash might have left of it, and none besides.
pub record IsLookedAt {S : Type 0} (store : DiskWords S) (lent : Lent S) : Type 0 where
  pub looks : OnlyReads store lent.given lent.back
  pub keeps : KeepsAll store.may_leave lent.given lent.back

-- What a status says of the lines of a store that was read: they were printed, or a prefix of them where printing failed or memory
-- was wanting.
abbrev pub SaysLines : ToolStatus → List ℕ → List ℕ → Count → Type 0
SaysLines Done lines output print_faults = (output ≡ lines) × IsStill print_faults
SaysLines HostFault lines output print_faults = StartsWith lines output × HasRisen print_faults
SaysLines NoMemory lines output print_faults = StartsWith lines output × IsStill print_faults
SaysLines status lines output print_faults = ⊥

-- The files hold this, and its lines were printed as far as the status says.
pub record ShowsFiles {S : Type 0} (store : DiskWords S) (mode : Mode) (index : IndexConf) (given : S) (status : ToolStatus) (deeds : Deeds S) : Type 0 where
  pub has : Contents
  pub files : Told (HasContents index.schema has) (store.told given)
  pub says : SaysLines status (tool_lines mode index has) deeds.output deeds.print_faults

-- What a status says of a store that couldn't be read.
abbrev pub SaysUnread : {S : Type 0} → DiskWords S → IndexConf → Lent S → ToolStatus → Type 0
SaysUnread store index lent HostFault = Rose (store.faults lent.given) (store.faults lent.back)
SaysUnread store index lent (Damaged file place kind) = Told (λ image. IsDamaged index.schema image (record { file = file; place = place; kind = kind })) (store.told lent.given)
SaysUnread store index lent NoMemory = Unit {0}
SaysUnread store index lent status = ⊥

-- The store wasn't read, and nothing was printed.
pub record IsUnread {S : Type 0} (store : DiskWords S) (index : IndexConf) (lent : Lent S) (status : ToolStatus) (deeds : Deeds S) : Type 0 where
  pub output : deeds.output ≡ []
  pub print_faults : IsStill deeds.print_faults
  pub says : SaysUnread store index lent status

-- What a status says of the store that was asked for: the host didn't give it, or it was given, looked at, and handed back.
abbrev pub SaysStore : {S : Type 0} → DiskWords S → Mode → IndexConf → List (Lent S) → ToolStatus → Deeds S → Type 0
SaysStore store mode index [] HostFault deeds = (deeds.output ≡ []) × IsStill deeds.print_faults × HasRisen deeds.faults
SaysStore store mode index [] NoMemory deeds = (deeds.output ≡ []) × IsStill deeds.print_faults × IsStill deeds.faults
SaysStore store mode index (lent ∷ []) status deeds = IsLookedAt store lent × IsStill deeds.faults × (ShowsFiles store mode index lent.given status deeds ⊎ IsUnread store index lent status deeds)
SaysStore store mode index stores status deeds = ⊥

-- The configuration was read, and the store of its index asked for.
pub record AsksStore {S : Type 0} (store : DiskWords S) (texts : Texts) (asked : Asked) (status : ToolStatus) (deeds : Deeds S) : Type 0 where
  pub index : IndexConf
  pub configured : IsConfigured texts asked index
  pub requests : deeds.requests ≡ ReadText asked.config ∷ OpenStore index.path ∷ []
  pub says : SaysStore store asked.mode index deeds.stores status deeds

-- The run was refused before any store was asked for.
pub record IsRefused {S : Type 0} (texts : Texts) (asked : Option Asked) (status : ToolStatus) (deeds : Deeds S) : Type 0 where
  pub idle : IsIdle deeds
  pub says : SaysRefused texts asked status deeds.requests deeds.faults

-- what a run comes to
abbrev pub Answers : {S : Type 0} → DiskWords S → Texts → Option Asked → ToolStatus → Deeds S → Type 0
Answers store texts None status deeds = IsRefused texts None status deeds
Answers store texts (Some asked) status deeds = IsRefused texts (Some asked) status deeds ⊎ AsksStore store texts asked status deeds

-- A run of the tool, by its deeds.
abbrev pub Runs : {H S : Type 0} → HostWords H S → DiskWords S → Option Asked → ToolStatus → H → H → Type 0
Runs {H} {S} host store asked status old new = (deeds : Deeds S) × Does host old new deeds × Answers store (host.text old) asked status deeds
