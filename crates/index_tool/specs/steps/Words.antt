-- What was read of the words after the program's name, and what a run ends with.
use Rattle.std.specs.Prelude.{Result, Ok, Err}
use Rattle.store_reads.specs.declared.fault.StoreFault.{StoreFault}
use Rattle.store_reads.specs.declared.fault.StoreFault.TheVariants as faults
use Rattle.index_tool.specs.declared.printing.Stop.{Stop}
use Rattle.index_tool.specs.declared.printing.Stop.TheVariants as stops
use Rattle.index_tool.specs.declared.status.ToolStatus.{ToolStatus}
use Rattle.index_tool.specs.declared.status.ToolStatus.TheVariants as statuses
use Rattle.index_tool.specs.Asking.{Asked, Mode, check, dictionary, hits}
use Rattle.index_tool.specs.declared.asking.Asked.{Asked as AskedBy}
use Rattle.index_tool.specs.declared.asking.Mode.{Mode as ModeBy}
use Rattle.index_tool.specs.declared.asking.Mode.TheVariants as modes

-- a mode, and a question, with their texts as lists of bytes
abbrev pub mode_said : ModeBy → Mode
mode_said modes.Check = check
mode_said modes.Dictionary = dictionary
mode_said (modes.Hits word) = hits word.now

abbrev pub said : AskedBy → Asked
said asked = record { config = asked.config.now; index = asked.index.now; mode = mode_said asked.mode }

-- what the run ends with once lines were printed, or where the store couldn't be read
abbrev pub shown_by : {T : Type 0} → Result T Stop → ToolStatus
shown_by (Ok done) = statuses.Done
shown_by (Err stops.NoMemory) = statuses.NoMemory
shown_by (Err stops.HostFault) = statuses.HostFault

abbrev pub read_by : StoreFault → ToolStatus
read_by faults.NoMemory = statuses.NoMemory
read_by faults.DiskFault = statuses.HostFault
read_by (faults.Damaged damage) = statuses.Damaged damage.file damage.place damage.kind
