-- What was read of the files of an index, and what is shown of it.
use Rattle.std.specs.Prelude.{◌≡◌, [], ◌∷◌, Option, Some, None, Result, Ok, Err}
use Rattle.chunk_store.specs.Images.{Image, Told}
use Rattle.chunk_store.specs.declared.disk.Disk.{Ghosts as DiskWords}
use Rattle.doc_types.specs.declared.schema.Schema.{Schema}
use Rattle.index_conf.specs.declared.conf.IndexConf.{IndexConf}
use Rattle.program_host.specs.declared.requests.Request.TheVariants.{OpenStore}
use Rattle.root_slots.specs.Slots.{IsRoot, slots_of}
use Rattle.root_slots.specs.declared.root.Root.{Root}
use Rattle.root_slots.specs.declared.state.RootState.{RootState}
use Rattle.store_reads.specs.Reads.{IsDirectory, SaysDamage}
use Rattle.store_reads.specs.declared.fault.StoreFault.{StoreFault}
use Rattle.store_reads.specs.declared.found.Found.{Found}
use Rattle.index_tool.specs.Asking.{Mode}
use Rattle.index_tool.specs.Runs.{Deeds, Does, SaysStore}
use Rattle.index_tool.specs.ToolLines.{Contents, HasContents, tool_lines}
use Rattle.index_tool.specs.declared.host.ToolHost.{Ghosts as HostWords}
use Rattle.index_tool.specs.declared.printing.Stop.{Stop}
use Rattle.index_tool.specs.declared.status.ToolStatus.{ToolStatus}
use Rattle.index_tool.specs.steps.Sides.{PrintsLines}

-- What was found is a directory of some root, or no slot is open.
abbrev pub IsRead : Schema → Option Image → Option Found → Type 0
IsRead schema told (Some found) = (root : Root) × (state : RootState) × IsDirectory schema root state told found
IsRead schema told None = Told (λ image. IsRoot None (slots_of image)) told

-- what reading the files comes to
abbrev pub ReadsFiles : Schema → Option Image → Result (Option Found) StoreFault → Type 0
ReadsFiles schema told (Ok found) = IsRead schema told found
ReadsFiles schema told (Err fault) = SaysDamage schema told fault

-- The lines of what the files of a store hold that told this were printed.
abbrev pub ShowsMode : {H S T : Type 0} → HostWords H S → Mode → IndexConf → Option Image → Result T Stop → H → H → Type 0
ShowsMode host mode index told result old new = (has : Contents) × Told (HasContents index.schema has) told × PrintsLines host result (tool_lines mode index has) old new

-- The store of an index was asked for, and its files shown as the status says.
abbrev pub Looks : {H S : Type 0} → HostWords H S → DiskWords S → Mode → IndexConf → ToolStatus → H → H → Type 0
Looks {H} {S} host store mode index status old new =
    (deeds : Deeds S) × Does host old new deeds × (deeds.requests ≡ OpenStore index.path ∷ []) × SaysStore store mode index deeds.stores status deeds
