-- The store of an index: it wasn't given, or it was looked at, handed back, and its files shown.
use Rattle.std.proofs.Common.{◌≡◌, ℕ, List, [], ◌∷◌, ◌++◌, Result, Ok, Err, refl, sym, ◌∙◌, ap, subst, inl, inr}
use Rattle.std.specs.Prelude.{Option}
use Rattle.srch_base.specs.Counts.{Rose}
use Rattle.srch_base.specs.Told.{then_bytes}
use Rattle.srch_base.specs.declared.faults.OpenFault.{OpenFault}
use Rattle.srch_base.specs.declared.faults.OpenFault.TheVariants as opening
use Rattle.chunk_store.specs.declared.disk.Disk.{Ghosts as DiskWords}
use Rattle.index_conf.specs.declared.conf.IndexConf.{IndexConf}
use Rattle.program_host.specs.Lending.{CountsOpening, Lent}
use Rattle.program_host.specs.Requests.{Requested}
use Rattle.program_host.specs.declared.host.Stream.TheVariants.{Out}
use Rattle.program_host.specs.declared.requests.Request.{Request}
use Rattle.program_host.specs.declared.requests.Request.TheVariants.{OpenStore}
use Rattle.store_reads.specs.Reads.{HasStoreCause, SaysDamage}
use Rattle.store_reads.specs.declared.fault.StoreFault.{StoreFault}
use Rattle.store_reads.specs.declared.fault.StoreFault.TheVariants as faults
use Rattle.index_tool.specs.Asking.{Mode}
use Rattle.index_tool.specs.Runs.{Deeds, Does, IsLookedAt}
use Rattle.index_tool.specs.Statuses.{status_of}
use Rattle.index_tool.specs.declared.host.ToolHost.{Ghosts as HostWords}
use Rattle.index_tool.specs.declared.printing.Stop.{Stop}
use Rattle.index_tool.specs.declared.printing.Stop.TheVariants as stops
use Rattle.index_tool.specs.steps.Reads.{Looks, ShowsMode}
use Rattle.index_tool.specs.steps.Sides.{Asks, HandsBack, PrintsLines, Puts, StaysQuiet}
use Rattle.index_tool.specs.steps.Words.{read_by, shown_by}
use Rattle.index_tool.proofs.Doing.{asking, does_asking}
use Rattle.index_tool.proofs.Printed.{puts_nothing}

-- a store was asked for by a path and given, and then handed back
pub handed : {H S : Type 0} (host : HostWords H S) (lent : Lent S) (path asked : List ℕ) (old mid new : H) → asked ≡ path → Requested (host.requests old) (host.requests mid) (OpenStore asked ∷ []) → host.stores_given mid ≡ host.stores_given old ++ lent.given ∷ []
    → host.stores_back mid ≡ host.stores_back old → host.faults mid ≡ host.faults old → host.printed mid ≡ host.printed old → host.print_faults mid ≡ host.print_faults old → host.requests new ≡ host.requests mid → host.stores_given new ≡ host.stores_given mid
    → host.stores_back new ≡ host.stores_back mid ++ lent.back ∷ [] → host.faults new ≡ host.faults mid → host.printed new ≡ host.printed mid → host.print_faults new ≡ host.print_faults mid → HandsBack host lent (OpenStore path) old new
handed {H} {S} host lent path asked old mid new same asks gives takes count prints prints_count asks' gives' takes' count' prints' prints_count' = record {
  asks = subst (λ (told : Option (List Request)). Requested (host.requests old) told (OpenStore path ∷ [])) (sym asks') (subst (λ (p : List ℕ). Requested (host.requests old) (host.requests mid) (OpenStore p ∷ [])) same asks);
  gives = gives' ∙ gives;
  takes = takes' ∙ ap (λ (list : List S). list ++ lent.back ∷ []) takes;
  count = count' ∙ count;
  prints = prints' ∙ prints;
  print_count = prints_count' ∙ prints_count;
}

module _ {H S : Type 0} (host : HostWords H S) (store : DiskWords S) (mode : Mode) (index : IndexConf) where
  -- the host gave none
  pub not_given : (T : Type 0) (fault : OpenFault) (old new : H) → Asks host old new (OpenStore index.path ∷ []) → CountsOpening {T = T} (Err fault) (host.faults old) (host.faults new) → Looks host store mode index (status_of fault) old new
  not_given T opening.NoMemory old new asks counts =
      (asking host (OpenStore index.path ∷ []) old new, does_asking host (OpenStore index.path ∷ []) old new asks, refl, (refl, ap (λ (count : _). count Out) asks.print_count, counts))
  not_given T opening.Failed old new asks counts =
      (asking host (OpenStore index.path ∷ []) old new, does_asking host (OpenStore index.path ∷ []) old new asks, refl, (refl, ap (λ (count : _). count Out) asks.print_count, counts.1))

  module _ (lent : Lent S) (old new : H) (hands : HandsBack host lent (OpenStore index.path) old new) where
    -- the deeds of lending one store, and of printing behind that
    abbrev deeds_of : List ℕ → H → Deeds S
    deeds_of output last =
        record {
          requests = OpenStore index.path ∷ [];
          stores = lent ∷ [];
          output = output;
          faults = record { before = host.faults old; now = host.faults last };
          print_faults = record { before = host.print_faults old Out; now = host.print_faults last Out };
        }

    does_so : (output : List ℕ) (last : H) → Puts host output new last → Does host old last (deeds_of output last)
    does_so output last puts = record {
      asks = subst (λ (told : Option (List Request)). Requested (host.requests old) told (OpenStore index.path ∷ [])) (sym puts.lent.asks) hands.asks;
      lends = record { gives = puts.lent.gives ∙ hands.gives; takes = puts.lent.takes ∙ hands.takes };
      prints = puts.prints ∙ ap (λ (told : _). then_bytes (told Out) output) hands.prints;
      counts = refl;
      counts_prints = refl;
    }

    quiet : host.print_faults new Out ≡ host.print_faults old Out
    quiet = ap (λ (count : _). count Out) hands.print_count

    -- it couldn't be read
    pub not_read : (T : Type 0) (fault : StoreFault) → IsLookedAt store lent → SaysDamage index.schema (store.told lent.given) fault → HasStoreCause {T = T} (store.faults lent.given) (store.faults lent.back) (Err fault) → Looks host store mode index (read_by fault) old new
    not_read T faults.NoMemory looked says cause =
        (deeds_of [] new, does_so [] new (puts_nothing host new), refl, (looked, hands.count, inr (record { output = refl; print_faults = quiet; says = tt })))
    not_read T faults.DiskFault looked says cause =
        (deeds_of [] new, does_so [] new (puts_nothing host new), refl, (looked, hands.count, inr (record { output = refl; print_faults = quiet; says = cause.1 })))
    not_read T (faults.Damaged damage) looked says cause =
        (deeds_of [] new, does_so [] new (puts_nothing host new), refl, (looked, hands.count, inr (record { output = refl; print_faults = quiet; says = says })))

    -- it was read, and its files shown
    pub shown : {T : Type 0} (r : Result T Stop) (last : H) → IsLookedAt store lent → ShowsMode host mode index (store.told lent.given) r new last → Looks host store mode index (shown_by r) old last
    shown (Ok done) last looked (has, files, (puts, still)) =
        (deeds_of _ last, does_so _ last puts, refl, (looked, puts.lent.count ∙ hands.count, inl (record { has = has; files = files; says = (refl, still ∙ quiet) })))
    shown (Err stops.HostFault) last looked (has, files, (front, starts, puts, rose)) =
        (deeds_of front last, does_so front last puts, refl, (looked, puts.lent.count ∙ hands.count, inl (record { has = has; files = files; says = (starts, subst (λ (n : ℕ). Rose n (host.print_faults last Out)) quiet rose) })))
    shown (Err stops.NoMemory) last looked (has, files, (front, starts, puts, still)) =
        (deeds_of front last, does_so front last puts, refl, (looked, puts.lent.count ∙ hands.count, inl (record { has = has; files = files; says = (starts, still ∙ quiet) })))

-- nothing went to the errors
pub errors_stay : {H S T : Type 0} (host : HostWords H S) (r : Result T Stop) (lines : List ℕ) (old new : H) → PrintsLines host r lines old new → StaysQuiet host old new
errors_stay host (Ok done) lines old new is = record { errors = is.0.errors; quiet = is.0.error_count }
errors_stay host (Err stops.HostFault) lines old new is = record { errors = is.2.errors; quiet = is.2.error_count }
errors_stay host (Err stops.NoMemory) lines old new is = record { errors = is.2.errors; quiet = is.2.error_count }
