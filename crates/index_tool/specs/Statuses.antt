-- What a status of the tool shows: the program's exit status, and a line.
use Rattle.std.specs.Prelude.{⊤, ℕ, ◌≤◌, List, [], ◌++◌, Option, Some, None, codes, decimal, length}
use Rattle.conf_text.specs.FaultTexts.{kind_text}
use Rattle.doc_types.specs.declared.schema.TheConstants.{MAX_NAME_BYTES}
use Rattle.program_host.specs.Statuses.{Shown, line}
use Rattle.srch_base.specs.declared.faults.OpenFault.{OpenFault}
use Rattle.srch_base.specs.declared.faults.OpenFault.TheVariants as opening
use Rattle.store_steps.specs.DamageTexts.{damage_text}
use Rattle.index_tool.specs.Asking.{Asked}
use Rattle.index_tool.specs.declared.status.ToolStatus.{ToolStatus}
use Rattle.index_tool.specs.declared.status.ToolStatus.TheVariants.{Done, Usage, Config, HostFault, Damaged, NoMemory, UnknownIndex}

-- the table of statuses, by the name of the index that was asked for
abbrev pub shown : List ℕ → ToolStatus → Shown
shown index Done = record { code = 0; printed = [] }
shown index Usage = record { code = 2; printed = line (codes "indextool: bad arguments") }
shown index (Config number kind) = record { code = 3; printed = line (codes "indextool: config line " ++ decimal number ++ codes ": " ++ kind_text kind) }
shown index HostFault = record { code = 4; printed = line (codes "indextool: host fault") }
shown index (Damaged file place kind) =
    record { code = 5; printed = line (codes "indextool: index " ++ index ++ codes ": file " ++ decimal file ++ codes " at " ++ decimal place ++ codes ": " ++ damage_text kind) }
shown index NoMemory = record { code = 6; printed = line (codes "indextool: out of memory") }
shown index UnknownIndex = record { code = 7; printed = line (codes "indextool: unknown index") }

-- the exit status
abbrev pub code_of : ToolStatus → ℕ
code_of status = (shown [] status).code

-- the status of a host that opens nothing
abbrev pub status_of : OpenFault → ToolStatus
status_of opening.NoMemory = NoMemory
status_of opening.Failed = HostFault

-- The name of the index is within the limit where the line has it.
abbrev pub NamesIndex : List ℕ → ToolStatus → Type 0
NamesIndex index (Damaged file place kind) = length index ≤ MAX_NAME_BYTES
NamesIndex index status = ⊤

-- what is printed to the errors, by what was asked for
abbrev pub line_of : Option Asked → ToolStatus → List ℕ
line_of None status = (shown [] status).printed
line_of (Some asked) status = (shown asked.index status).printed
