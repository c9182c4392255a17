-- Runs: refused ones, one that looks at its store, one whose status is reported.
use Rattle.std.proofs.Common.{◌≡◌, ◌≢◌, ℕ, List, [], ◌∷◌, refl, ap, subst, ◌∙◌, inl, inr, All}
use Rattle.std.specs.List.{Contains}
use Rattle.std.specs.Prelude.{Option, Some, None, Ok, Err}
use Rattle.chunk_store.specs.declared.disk.Disk.{Ghosts as DiskWords}
use Rattle.srch_base.specs.Told.{then_bytes}
use Rattle.index_conf.specs.declared.conf.Conf.{Conf}
use Rattle.index_conf.specs.declared.conf.IndexConf.{IndexConf}
use Rattle.program_host.specs.Lending.{Lent}
use Rattle.program_host.specs.Printing.{IsLinePrinted, IsReported, Reports}
use Rattle.program_host.specs.Texts.{Texts}
use Rattle.program_host.specs.declared.host.Stream.{Stream}
use Rattle.program_host.specs.declared.host.Stream.TheVariants.{Out, Err as Errors}
use Rattle.program_host.specs.declared.requests.Request.{Request}
use Rattle.program_host.specs.declared.requests.Request.TheVariants.{ReadText}
use Rattle.index_tool.specs.Asking.{Asked, Mode}
use Rattle.index_tool.specs.Runs.{Deeds, Runs, SaysRefused, SaysStore}
use Rattle.index_tool.specs.declared.host.ToolHost.{Ghosts as HostWords}
use Rattle.index_tool.specs.declared.status.ToolStatus.{ToolStatus}
use Rattle.index_tool.specs.declared.status.ToolStatus.TheVariants.{Done, Usage, Config, HostFault, Damaged, NoMemory, UnknownIndex}
use Rattle.index_tool.specs.steps.Reads.{Looks}
use Rattle.index_tool.specs.steps.Sides.{Asks, Configures, KeepsLent}
use Rattle.index_tool.proofs.Doing.{asking, asks_nothing, does_after, does_asking, does_then, idle_asking, then_nothing}

-- what is said where a file gave no configuration
says_unconfigured : (texts : Texts) (asked : Asked) (status : ToolStatus) (before now : ℕ) → Configures (texts asked.config) (Err status) before now → SaysRefused texts (Some asked) status (ReadText asked.config ∷ []) (record { before = before; now = now })
says_unconfigured texts asked (Config line kind) before now (bytes, read, fault, still) = (record { bytes = bytes; read = read; is = fault }, refl, still)
says_unconfigured texts asked HostFault before now rose = (refl, rose)
says_unconfigured texts asked NoMemory before now still = (refl, still)
says_unconfigured texts asked Done before now c = absurd c
says_unconfigured texts asked Usage before now c = absurd c
says_unconfigured texts asked UnknownIndex before now c = absurd c
says_unconfigured texts asked (Damaged file place kind) before now c = absurd c

-- what is said of a store doesn't depend on what was asked for before
says_store : {S : Type 0} (store : DiskWords S) (mode : Mode) (index : IndexConf) (stores : List (Lent S)) (status : ToolStatus) (deeds : Deeds S) (requests : List Request) → SaysStore store mode index stores status deeds → SaysStore store mode index stores status (record deeds { requests = requests })
says_store store mode index [] HostFault deeds requests says = says
says_store store mode index [] NoMemory deeds requests says = says
says_store store mode index [] Done deeds requests says = absurd says
says_store store mode index [] Usage deeds requests says = absurd says
says_store store mode index [] (Config line kind) deeds requests says = absurd says
says_store store mode index [] (Damaged file place kind) deeds requests says = absurd says
says_store store mode index [] UnknownIndex deeds requests says = absurd says
says_store store mode index (lent ∷ []) status deeds requests (looked, still, either) = (
  looked,
  still,
  elim either [
    | inl shows ↦ inl (record { has = shows.has; files = shows.files; says = shows.says })
    | inr unread ↦ inr (record { output = unread.output; print_faults = unread.print_faults; says = unread.says })
  ],
)
says_store store mode index (lent ∷ other ∷ stores) status deeds requests says = absurd says

module _ {H S : Type 0} (host : HostWords H S) (store : DiskWords S) where
  -- the words ask for nothing
  pub runs_none : (old : H) → Runs host store None Usage old old
  runs_none old = (
    asking host [] old old,
    does_asking host [] old old (asks_nothing host old),
    record { idle = idle_asking host [] old old (asks_nothing host old); says = (refl, refl, refl) },
  )

  -- the file gave no configuration
  pub runs_unconfigured : (asked : Asked) (status : ToolStatus) (old new : H) → Configures (host.text old asked.config) (Err status) (host.faults old) (host.faults new) → Asks host old new (ReadText asked.config ∷ []) → Runs host store (Some asked) status old new
  runs_unconfigured asked status old new says asks = (
    asking host (ReadText asked.config ∷ []) old new,
    does_asking host (ReadText asked.config ∷ []) old new asks,
    inl (record { idle = idle_asking host (ReadText asked.config ∷ []) old new asks; says = says_unconfigured (host.text old) asked status (host.faults old) (host.faults new) says }),
  )

  -- it gave one without the index
  pub runs_unknown : (asked : Asked) (conf : Conf) (old new : H) → Configures (host.text old asked.config) (Ok conf) (host.faults old) (host.faults new) → Asks host old new (ReadText asked.config ∷ []) → All (λ index. index.schema.name ≢ asked.index) conf.indexes
      → Runs host store (Some asked) UnknownIndex old new
  runs_unknown asked conf old new (bytes, read, is, sound, texts, still) asks none = (
    asking host (ReadText asked.config ∷ []) old new,
    does_asking host (ReadText asked.config ∷ []) old new asks,
    inl (record { idle = idle_asking host (ReadText asked.config ∷ []) old new asks; says = (record { bytes = bytes; read = read; conf = conf; is = is; none = none }, refl, still) }),
  )

  -- it gave one with the index, whose store was asked for
  pub runs_looking : (asked : Asked) (conf : Conf) (index : IndexConf) (status : ToolStatus) (old between new : H) → Configures (host.text old asked.config) (Ok conf) (host.faults old) (host.faults between) → Asks host old between (ReadText asked.config ∷ [])
      → Contains conf.indexes index → index.schema.name ≡ asked.index → Looks host store asked.mode index status between new → Runs host store (Some asked) status old new
  runs_looking asked conf index status old between new (bytes, read, is, sound, texts, still) asks has named (deeds, does, requests, says) = (
    record deeds { requests = ReadText asked.config ∷ deeds.requests },
    does_after host (ReadText asked.config ∷ []) old between new deeds asks still does,
    inr (record {
      index = index;
      configured = record { bytes = bytes; read = read; conf = conf; is = is; has = has; named = named };
      requests = ap (λ (list : List Request). ReadText asked.config ∷ list) requests;
      says = says_store store asked.mode index deeds.stores status deeds (ReadText asked.config ∷ deeds.requests) says;
    }),
  )

  -- a report changes nothing of what was done
  pub runs_reported : (asked : Option Asked) (status : ToolStatus) (line : List ℕ) (old between new : H) → Runs host store asked status old between → KeepsLent host between new → (before now : ℕ) → Reports line (host.printed between) (host.printed new) before now
      → host.print_faults new Out ≡ host.print_faults between Out → Runs host store asked status old new
  runs_reported asked status line old between new (deeds, does, says) lent before now (front, is, reports) quiet = (
    deeds,
    does_then host old between new deeds does lent (reports.out ∙ then_nothing (host.printed between Out)) quiet,
    says,
  )

-- the line of a status went to the errors, to which nothing was printed before
pub reported : (line : List ℕ) (old between new : Stream → Option (List ℕ)) (before mid now : ℕ) → between Errors ≡ old Errors → mid ≡ before → Reports line between new mid now
    → IsReported line (old Errors) (new Errors) before now
reported line old between new before mid now same still (front, is, reports) = (
  front,
  subst (λ (n : ℕ). IsLinePrinted line front n now) still is,
  reports.errors ∙ ap (λ (told : Option (List ℕ)). then_bytes told front) same,
)
