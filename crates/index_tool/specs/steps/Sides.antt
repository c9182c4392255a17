-- What calls do to a host.
use Rattle.std.specs.Prelude.{◌≡◌, ℕ, List, [], ◌∷◌, ◌++◌, Option, Result, Ok, Err, All}
use Rattle.std.specs.Io.{StartsWith}
use Rattle.std.specs.Str.{IsUtf8}
use Rattle.srch_base.specs.Counts.{Rose}
use Rattle.srch_base.specs.Told.{then_bytes}
use Rattle.conf_text.specs.Confs.{IsConfOf, IsFaultOf}
use Rattle.conf_text.specs.declared.size.TheConstants.{MAX_CONF_BYTES}
use Rattle.doc_types.specs.Schemas.{IsSchema}
use Rattle.index_conf.specs.declared.conf.Conf.{Conf}
use Rattle.program_host.specs.Lending.{Lent}
use Rattle.program_host.specs.Requests.{Requested}
use Rattle.program_host.specs.Texts.{AreReadOf}
use Rattle.program_host.specs.declared.host.Stream.TheVariants.{Out, Err as Errors}
use Rattle.program_host.specs.declared.requests.Request.{Request}
use Rattle.index_tool.specs.declared.host.ToolHost.{Ghosts as HostWords}
use Rattle.index_tool.specs.declared.status.ToolStatus.{ToolStatus}
use Rattle.index_tool.specs.declared.status.ToolStatus.TheVariants.{Config, HostFault, NoMemory}
use Rattle.index_tool.specs.declared.printing.Stop.{Stop}
use Rattle.index_tool.specs.declared.printing.Stop.TheVariants as stops

-- No store was given or handed back, and nothing was asked for.
pub record KeepsLent {H S : Type 0} (host : HostWords H S) (old new : H) : Type 0 where
  pub asks : host.requests new ≡ host.requests old
  pub gives : host.stores_given new ≡ host.stores_given old
  pub takes : host.stores_back new ≡ host.stores_back old
  pub count : host.faults new ≡ host.faults old

-- It was asked for something, and nothing was lent or printed.
pub record Asks {H S : Type 0} (host : HostWords H S) (old new : H) (requests : List Request) : Type 0 where
  pub asks : Requested (host.requests old) (host.requests new) requests
  pub gives : host.stores_given new ≡ host.stores_given old
  pub takes : host.stores_back new ≡ host.stores_back old
  pub prints : host.printed new ≡ host.printed old
  pub print_count : host.print_faults new ≡ host.print_faults old

-- A store was asked for, given and handed back, and nothing was printed.
pub record HandsBack {H S : Type 0} (host : HostWords H S) (lent : Lent S) (request : Request) (old new : H) : Type 0 where
  pub asks : Requested (host.requests old) (host.requests new) (request ∷ [])
  pub gives : host.stores_given new ≡ host.stores_given old ++ lent.given ∷ []
  pub takes : host.stores_back new ≡ host.stores_back old ++ lent.back ∷ []
  pub count : host.faults new ≡ host.faults old
  pub prints : host.printed new ≡ host.printed old
  pub print_count : host.print_faults new ≡ host.print_faults old

-- Nothing went to the errors.
pub record StaysQuiet {H S : Type 0} (host : HostWords H S) (old new : H) : Type 0 where
  pub errors : host.printed new Errors ≡ host.printed old Errors
  pub quiet : host.print_faults new Errors ≡ host.print_faults old Errors

-- These bytes were printed to the output, and nothing else was done.
pub record Puts {H S : Type 0} (host : HostWords H S) (bytes : List ℕ) (old new : H) : Type 0 where
  pub prints : host.printed new Out ≡ then_bytes (host.printed old Out) bytes
  pub errors : host.printed new Errors ≡ host.printed old Errors
  pub error_count : host.print_faults new Errors ≡ host.print_faults old Errors
  pub lent : KeepsLent host old new

-- Lines were printed to the output, or a prefix of them where that failed or memory was wanting.
abbrev pub PrintsLines : {H S T : Type 0} → HostWords H S → Result T Stop → List ℕ → H → H → Type 0
PrintsLines host (Ok done) lines old new = Puts host lines old new × (host.print_faults new Out ≡ host.print_faults old Out)
PrintsLines host (Err stops.HostFault) lines old new = (front : List ℕ) × StartsWith lines front × Puts host front old new × Rose (host.print_faults old Out) (host.print_faults new Out)
PrintsLines host (Err stops.NoMemory) lines old new = (front : List ℕ) × StartsWith lines front × Puts host front old new × (host.print_faults new Out ≡ host.print_faults old Out)

-- Lines were put into a buffer, the front of which was printed when it was full; where a print failed or memory was wanting, what was
-- printed is a prefix of what the buffer had and of the lines. A state is what the buffer has, and the host.
abbrev pub BuffersLines : {H S T : Type 0} → HostWords H S → Result T Stop → List ℕ → List ℕ × H → List ℕ × H → Type 0
BuffersLines host (Ok done) lines old new = (out : List ℕ) × (old.0 ++ lines ≡ out ++ new.0) × Puts host out old.1 new.1 × (host.print_faults new.1 Out ≡ host.print_faults old.1 Out)
BuffersLines {H} {S} {T} host (Err stop) lines old new = PrintsLines {T = T} host (Err stop) (old.0 ++ lines) old.1 new.1

-- A text was read as a configuration, or the run ends with a status.
abbrev pub Configures : Option (List ℕ) → Result Conf ToolStatus → ℕ → ℕ → Type 0
Configures told (Ok conf) before now = (bytes : List ℕ) × AreReadOf told MAX_CONF_BYTES bytes × IsConfOf bytes conf × All (λ index. IsSchema index.schema) conf.indexes × All (λ index. IsUtf8 index.path) conf.indexes × (now ≡ before)
Configures told (Err (Config line kind)) before now = (bytes : List ℕ) × AreReadOf told MAX_CONF_BYTES bytes × IsFaultOf bytes (record { line = line; kind = kind }) × (now ≡ before)
Configures told (Err HostFault) before now = Rose before now
Configures told (Err NoMemory) before now = now ≡ before
Configures told (Err status) before now = ⊥
