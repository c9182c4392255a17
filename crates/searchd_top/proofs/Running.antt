-- Runs: refused ones, one whose mode does its work, one whose status is reported.
use Rattle.std.proofs.Common.{◌≡◌, ℕ, List, [], ◌∷◌, ◌++◌, refl, sym, ap, subst, ◌∙◌, inl, inr}
use Rattle.std.specs.Prelude.{Option, Some, None, Ok, Err, take}
use Rattle.srch_base.specs.declared.link.Link.{Ghosts as LinkWords}
use Rattle.srch_base.specs.declared.door.Door.{Ghosts as DoorWords}
use Rattle.chunk_store.specs.declared.disk.Disk.{Ghosts as DiskWords}
use Rattle.srch_base.specs.Told.{then_bytes}
use Rattle.command_line.specs.Modes.{Mode, selftest}
use Rattle.index_conf.specs.declared.conf.Conf.{Conf}
use Rattle.program_host.specs.Texts.{Texts}
use Rattle.program_host.specs.Printing.{IsLinePrinted, IsReported, Reports}
use Rattle.program_host.specs.declared.host.Host.{Ghosts as HostWords}
use Rattle.program_host.specs.declared.host.Stream.{Stream}
use Rattle.program_host.specs.declared.host.Stream.TheVariants.{Out, Err as Errors}
use Rattle.program_host.specs.declared.requests.Request.TheVariants.{ReadText}
use Rattle.program_host.specs.declared.status.Status.{Status}
use Rattle.program_host.specs.declared.status.Status.TheVariants.{Done, Usage, Config, HostFault, Damaged, NoMemory, Strayed, JobFailed}
use Rattle.searchd_top.specs.CommandLine.{file_of}
use Rattle.searchd_top.specs.Configuring.{AreIndexes}
use Rattle.searchd_top.specs.Deeds.{Count, Deeds, Does}
use Rattle.searchd_top.specs.Output.{SaysLines}
use Rattle.searchd_top.specs.Requests.{text_requests}
use Rattle.searchd_top.specs.Runs.{Runs, SaysRefused, Works}
use Rattle.searchd_top.specs.Selftests.{HasEnded, IsUnprinted, SaysSelftest}
use Rattle.searchd_top.specs.steps.Sides.{Asks, Configures, DoesBy, KeepsLent, PrintsOut}
use Rattle.searchd_top.proofs.Doing.{asking, asks_nothing, does_after, does_asking, does_then, idle_asking, requested_none, then_nothing}

-- what is said where a file gave no configuration
says_unconfigured : (texts : Texts) (mode : Option Mode) (file : List ℕ) (status : Status) (before now : ℕ) → file_of mode ≡ Some file → Configures (texts file) (Err status) before now
    → SaysRefused texts mode status (ReadText file ∷ []) (record { before = before; now = now })
says_unconfigured texts mode file (Config line kind) before now named (bytes, read, fault, still) = (file, named, record { bytes = bytes; read = read; is = fault }, refl, still)
says_unconfigured texts mode file HostFault before now named rose = (file, named, refl, rose)
says_unconfigured texts mode file NoMemory before now named c = (1, sym (ap (λ (named : Option (List ℕ)). take 1 (text_requests named)) named))
says_unconfigured texts mode file Done before now named c = absurd c
says_unconfigured texts mode file Usage before now named c = absurd c
says_unconfigured texts mode file (Damaged index number place kind) before now named c = absurd c
says_unconfigured texts mode file (Strayed index strayed) before now named c = absurd c
says_unconfigured texts mode file JobFailed before now named c = absurd c

-- lines that were printed are those of a selftest
says_printed : (number docs : ℕ) (status : Status) (lines output : List ℕ) (count : Count) → HasEnded number docs lines → SaysLines status lines output count → SaysSelftest number docs status output count
says_printed number docs Done lines output count ended says = (lines, ended, says)
says_printed number docs HostFault lines output count ended says = (lines, ended, says)
says_printed number docs NoMemory lines output count ended says = says
says_printed number docs Usage lines output count ended says = absurd says
says_printed number docs (Config line kind) lines output count ended says = absurd says
says_printed number docs (Damaged index file place kind) lines output count ended says = absurd says
says_printed number docs (Strayed index strayed) lines output count ended says = absurd says
says_printed number docs JobFailed lines output count ended says = absurd says

-- a selftest without lines printed none
says_unprinted : (number docs : ℕ) (status : Status) (before : ℕ) → IsUnprinted number docs status → SaysSelftest number docs status [] (record { before = before; now = before })
says_unprinted number docs NoMemory before unprinted = (refl, refl)
says_unprinted number docs (Strayed index strayed) before unprinted = (unprinted, refl, refl)
says_unprinted number docs JobFailed before unprinted = (unprinted, refl, refl)
says_unprinted number docs Done before unprinted = absurd unprinted
says_unprinted number docs Usage before unprinted = absurd unprinted
says_unprinted number docs (Config line kind) before unprinted = absurd unprinted
says_unprinted number docs HostFault before unprinted = absurd unprinted
says_unprinted number docs (Damaged index file place kind) before unprinted = absurd unprinted

module _ {H S D K : Type 0} (host : HostWords H S D K) (store : DiskWords S) (door : DoorWords D K) (link : LinkWords K) where
  -- there is no mode
  pub runs_none : (mode : Option Mode) (old : H) → mode ≡ None → Runs host store door link mode Usage old old
  runs_none mode old none = (
    asking host [] old old,
    does_asking host [] old old (asks_nothing host old),
    inl (record { idle = idle_asking host [] old old (asks_nothing host old); says = (none, refl, refl) }),
  )

  -- there was no memory to read the words
  pub runs_unread : (mode : Option Mode) (old : H) → Runs host store door link mode NoMemory old old
  runs_unread mode old = (
    asking host [] old old,
    does_asking host [] old old (asks_nothing host old),
    inl (record { idle = idle_asking host [] old old (asks_nothing host old); says = (0, refl) }),
  )

  -- the mode's file gave no configuration
  pub runs_unconfigured : (mode : Option Mode) (file : List ℕ) (status : Status) (old new : H) → file_of mode ≡ Some file → Configures (host.text old file) (Err status) (host.faults old) (host.faults new)
      → Asks host old new (ReadText file ∷ []) → Runs host store door link mode status old new
  runs_unconfigured mode file status old new named says asks = (
    asking host (ReadText file ∷ []) old new,
    does_asking host (ReadText file ∷ []) old new asks,
    inl (record {
      idle = idle_asking host (ReadText file ∷ []) old new asks;
      says = says_unconfigured (host.text old) mode file status (host.faults old) (host.faults new) named says;
    }),
  )

  -- it gave one, and then the mode did its work
  pub runs_configured : (mode : Option Mode) (file : List ℕ) (conf : Conf) (status : Status) (old between new : H) → file_of mode ≡ Some file
      → Configures (host.text old file) (Ok conf) (host.faults old) (host.faults between) → Asks host old between (ReadText file ∷ [])
      → DoesBy host between new (Works store door link mode conf.indexes status) → Runs host store door link mode status old new
  runs_configured mode file conf status old between new named (bytes, read, is, sound, texts, still) asks (deeds, does, works) = (
    record deeds { requests = ReadText file ∷ deeds.requests },
    does_after host (ReadText file ∷ []) old between new deeds asks still does,
    inr (record {
      indexes = conf.indexes;
      are = subst (λ (named : Option (List ℕ)). AreIndexes (host.text old) named conf.indexes) (sym named) (record { bytes = bytes; read = read; conf = conf; is = is; has = refl });
      later = deeds.requests;
      asked = ap (λ (named : Option (List ℕ)). text_requests named ++ deeds.requests) (sym named);
      works = works;
    }),
  )

  -- a selftest printed its lines
  pub runs_printed : (number docs : ℕ) (status : Status) (lines : List ℕ) (old new : H) → HasEnded number docs lines → PrintsOut host status lines old new → KeepsLent host old new
      → host.requests new ≡ host.requests old → host.faults new ≡ host.faults old → Runs host store door link (Some (selftest number docs)) status old new
  runs_printed number docs status lines old new ended (output, printed, says) lent same still =
      let deeds : Deeds S D = record (asking host [] old new) { output = output } in
      let none : Does host old old (asking host [] old old) = does_asking host [] old old (asks_nothing host old) in
      let does : Does host old new deeds = record {
        asks = requested_none (host.requests old) (host.requests new) same;
        lends_stores = record { gives = lent.gives_stores ∙ none.lends_stores.gives; takes = lent.takes_stores ∙ none.lends_stores.takes };
        lends_doors = record { gives = lent.gives_doors ∙ none.lends_doors.gives; takes = lent.takes_doors ∙ none.lends_doors.takes };
        prints = printed;
        counts = refl;
        counts_prints = refl;
      } in (
        deeds,
        does,
        inr (record { indexes = []; are = refl; later = []; asked = refl; works = record { requests = refl; stores = refl; doors = refl; faults = still; says = says_printed number docs status lines output deeds.print_faults ended says } }),
      )

  -- a selftest ended without its lines
  pub runs_unprinted : (number docs : ℕ) (status : Status) (old : H) → IsUnprinted number docs status → Runs host store door link (Some (selftest number docs)) status old old
  runs_unprinted number docs status old unprinted = (
    asking host [] old old,
    does_asking host [] old old (asks_nothing host old),
    inr (record {
      indexes = [];
      are = refl;
      later = [];
      asked = refl;
      works = record { requests = refl; stores = refl; doors = refl; faults = refl; says = says_unprinted number docs status (host.print_faults old Out) unprinted };
    }),
  )

  -- a report changes nothing of what was done
  pub runs_reported : (mode : Option Mode) (status : Status) (line : List ℕ) (old between new : H) → Runs host store door link mode status old between → KeepsLent host between new
      → host.requests new ≡ host.requests between → host.faults new ≡ host.faults between → (before now : ℕ) → Reports line (host.printed between) (host.printed new) before now
      → host.print_faults new Out ≡ host.print_faults between Out → Runs host store door link mode status old new
  runs_reported mode status line old between new (deeds, does, says) lent same still before now (front, is, reports) quiet = (
    deeds,
    does_then host old between new deeds does lent same still (reports.out ∙ then_nothing (host.printed between Out)) quiet,
    says,
  )

-- the line of a status went to the errors, to which nothing was printed before
pub reported : (line : List ℕ) (old between new : Stream → Option (List ℕ)) (before mid now : ℕ) → between Errors ≡ old Errors → mid ≡ before → Reports line between new mid now
    → IsReported line (old Errors) (new Errors) before now
reported line old between new before mid now same still (front, is, reports) = (
  front,
  subst (λ (n : ℕ). IsLinePrinted line front n now) still is,
  reports.errors ∙ ap (λ (told : Option (List ℕ)). then_bytes told front) same,
)
