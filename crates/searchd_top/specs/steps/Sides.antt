-- What calls do to a host, side by side, and the configuration that is read.
use Rattle.std.specs.Prelude.{◌≡◌, ⊤, ℕ, List, ◌++◌, Option, Result, Ok, Err, All}
use Rattle.std.specs.Str.{IsUtf8}
use Rattle.srch_base.specs.Counts.{Rose}
use Rattle.srch_base.specs.Told.{then_bytes}
use Rattle.conf_text.specs.Confs.{IsConfOf, IsFaultOf}
use Rattle.conf_text.specs.declared.size.TheConstants.{MAX_CONF_BYTES}
use Rattle.index_conf.specs.Soundness.{IsSound}
use Rattle.index_conf.specs.declared.conf.Conf.{Conf}
use Rattle.index_conf.specs.declared.conf.IndexConf.{IndexConf}
use Rattle.program_host.specs.Texts.{AreReadOf}
use Rattle.program_host.specs.Requests.{Requested}
use Rattle.program_host.specs.declared.host.Host.{Ghosts as HostWords}
use Rattle.program_host.specs.declared.host.Stream.TheVariants.{Out}
use Rattle.program_host.specs.declared.requests.Request.{Request}
use Rattle.program_host.specs.declared.status.Status.{Status}
use Rattle.program_host.specs.declared.status.Status.TheVariants.{Done, Usage, Config, HostFault, Damaged, NoMemory, Strayed, JobFailed}
use Rattle.searchd_top.specs.Deeds.{Deeds, Does}
use Rattle.searchd_top.specs.Output.{SaysLines}

-- No store and no door was given or handed back.
pub record KeepsLent {H S D K : Type 0} (host : HostWords H S D K) (old new : H) : Type 0 where
  pub gives_stores : host.stores_given new ≡ host.stores_given old
  pub takes_stores : host.stores_back new ≡ host.stores_back old
  pub gives_doors : host.doors_given new ≡ host.doors_given old
  pub takes_doors : host.doors_back new ≡ host.doors_back old

-- Nothing was printed.
pub record KeepsPrints {H S D K : Type 0} (host : HostWords H S D K) (old new : H) : Type 0 where
  pub prints : host.printed new ≡ host.printed old
  pub print_count : host.print_faults new ≡ host.print_faults old

-- These stores were handed back, and nothing else was given, handed back or asked for.
pub record HandsBack {H S D K : Type 0} (host : HostWords H S D K) (stores : List S) (old new : H) : Type 0 where
  pub takes_stores : host.stores_back new ≡ host.stores_back old ++ stores
  pub gives_stores : host.stores_given new ≡ host.stores_given old
  pub gives_doors : host.doors_given new ≡ host.doors_given old
  pub takes_doors : host.doors_back new ≡ host.doors_back old
  pub asks : host.requests new ≡ host.requests old
  pub count : host.faults new ≡ host.faults old

-- It was asked for something, and nothing was lent or printed.
pub record Asks {H S D K : Type 0} (host : HostWords H S D K) (old new : H) (requests : List Request) : Type 0 where
  pub asks : Requested (host.requests old) (host.requests new) requests
  pub lent : KeepsLent host old new
  pub prints : KeepsPrints host old new

-- Lines went to the output, as the status says.
abbrev pub PrintsOut : {H S D K : Type 0} → HostWords H S D K → Status → List ℕ → H → H → Type 0
PrintsOut host status lines old new =
    (output : List ℕ) × (host.printed new Out ≡ then_bytes (host.printed old Out) output)
    × SaysLines status lines output (record { before = host.print_faults old Out; now = host.print_faults new Out })

-- What was done to the host has P.
abbrev pub DoesBy : {H S D K : Type 0} → HostWords H S D K → H → H → (Deeds S D → Type 0) → Type 0
DoesBy {H} {S} {D} {K} host old new P = (deeds : Deeds S D) × Does host old new deeds × P deeds

-- The paths of indexes are texts.
abbrev pub AreTexts : List IndexConf → Type 0
AreTexts indexes = All (λ index. IsUtf8 index.path) indexes

-- A text was read as a configuration, or the run ends with a status.
abbrev pub Configures : Option (List ℕ) → Result Conf Status → ℕ → ℕ → Type 0
Configures told (Ok conf) before now = (bytes : List ℕ) × AreReadOf told MAX_CONF_BYTES bytes × IsConfOf bytes conf × IsSound conf × AreTexts conf.indexes × (now ≡ before)
Configures told (Err (Config line kind)) before now = (bytes : List ℕ) × AreReadOf told MAX_CONF_BYTES bytes × IsFaultOf bytes (record { line = line; kind = kind }) × (now ≡ before)
Configures told (Err HostFault) before now = Rose before now
Configures told (Err NoMemory) before now = ⊤
Configures told (Err Done) before now = ⊥
Configures told (Err Usage) before now = ⊥
Configures told (Err (Damaged index file place kind)) before now = ⊥
Configures told (Err (Strayed index strayed)) before now = ⊥
Configures told (Err JobFailed) before now = ⊥
