-- Stores in hand: one more is opened, opening stops, and all are handed back.
use Rattle.std.proofs.Common.{◌≡◌, ℕ, suc, ◌+◌, ◌≤◌, List, [], ◌∷◌, ◌++◌, arith, refl, sym, ap, subst, ◌∙◌, inl, inr, length, map, take, append-nil, append_assoc, length-append}
use Rattle.std.specs.Prelude.{Option, Some, None, Result, Ok, Err, option_to_list}
use Rattle.std.specs.Arc.{arc_value}
use Rattle.std.specs.FinMap as finite
use Rattle.std.proofs.lemmas.List.{length-map, map-append}
use Rattle.chunk_store.specs.Images.{Image, Told}
use Rattle.chunk_store.specs.declared.disk.Disk.{Ghosts as DiskWords}
use Rattle.doc_types.specs.declared.documents.DocRow.{DocRow}
use Rattle.doc_types.specs.declared.schema.Schema.{Schema}
use Rattle.doc_types.specs.Rows.{Rows}
use Rattle.index_conf.specs.declared.conf.IndexConf.{IndexConf}
use Rattle.srch_base.specs.declared.faults.OpenFault.{OpenFault}
use Rattle.srch_base.specs.declared.faults.OpenFault.TheVariants as opening
use Rattle.srch_base.specs.Told.{then_bytes}
use Rattle.store_keep.specs.Opens.{HasStoreCause, IsFoundIn, IsOpened, SaysDamage}
use Rattle.store_keep.specs.StoreFault.{StoreFault}
use Rattle.store_keep.specs.StoreFault.TheVariants as faults
use Rattle.store_keep.specs.declared.opening.Opened.{Opened}
use Rattle.program_host.specs.Lending.{CountsOpening, Lent, back_of, given_of}
use Rattle.program_host.specs.Requests.{Requested}
use Rattle.program_host.specs.Statuses.{status_of}
use Rattle.program_host.specs.declared.host.Host.{Ghosts as HostWords}
use Rattle.program_host.specs.declared.host.Stream.TheVariants.{Out}
use Rattle.program_host.specs.declared.requests.Request.{Request}
use Rattle.program_host.specs.declared.requests.Request.TheVariants.{OpenStore}
use Rattle.program_host.specs.declared.status.Status.{Status}
use Rattle.program_host.specs.declared.status.Status.TheVariants.{Done, Usage, Config, HostFault, Damaged, NoMemory, Strayed, JobFailed}
use Rattle.searchd_top.specs.Openings.{AreOpenedFrom, IsOpenedFrom, Leaves}
use Rattle.searchd_top.specs.Checks.{AreOpen, ChecksIndexes, HasFiles, Holdings, IsOpen, SaysUngiven, SaysUnopened, Stops, StopsAt, check_lines}
use Rattle.searchd_top.specs.Deeds.{Deeds, Does}
use Rattle.searchd_top.specs.Output.{SaysLines}
use Rattle.searchd_top.specs.Requests.{store_requests}
use Rattle.searchd_top.specs.declared.opening.Stop.{Stop}
use Rattle.searchd_top.specs.steps.Openings.{KeepsDoors, OpensAll, OpensStores, SaysFault, StopsOpening, disks_of, holdings_of}
use Rattle.searchd_top.specs.steps.Sides.{DoesBy, HandsBack, KeepsPrints, PrintsOut}
use Rattle.searchd_top.proofs.Doing.{requested_then, then_nothing}

-- ---- what a store has

same_holdings : {documents d chunks c records r : ℕ} → documents ≡ d → chunks ≡ c → records ≡ r
    → ◌≡◌ {A = Holdings} (record { documents = documents; chunks = chunks; records = records }) (record { documents = d; chunks = c; records = r })
same_holdings {documents} {d} {chunks} {c} {records} {r} one two three =
    ap (λ (n : ℕ). record { documents = n; chunks = chunks; records = records }) one
    ∙ ap (λ (n : ℕ). record { documents = d; chunks = n; records = records }) two
    ∙ ap (λ (n : ℕ). record { documents = d; chunks = c; records = n }) three

-- what was found in files is what they hold
pub has_files : {S : Type 0} (opened : Opened S) (schema : Schema) (image : Image) → IsFoundIn schema (arc_value opened.snapshot) opened.records image → HasFiles schema (holdings_of opened) image
has_files opened schema image found = record {
  found = found.found;
  holds = found.holds;
  few = found.few;
  is = same_holdings (ap (λ (rows : Rows). finite.len rows) (sym found.rows)) (ap (λ (chunks : List (List DocRow)). length chunks) (sym found.chunks)) found.records_are;
}

-- ---- lists of stores in hand

abbrev pub lents_of : {S : Type 0} → List S → List (Opened S) → List (Lent S)
lents_of [] opened = []
lents_of (given ∷ stores) [] = []
lents_of (given ∷ stores) (opened ∷ others) = record { given = given; back = opened.disk } ∷ lents_of stores others

module _ {S : Type 0} (store : DiskWords S) where
  held_both : (indexes more : List IndexConf) (given others : List S) (opened last : List (Opened S)) → AreOpenedFrom store indexes given opened → AreOpenedFrom store more others last
      → AreOpenedFrom store (indexes ++ more) (given ++ others) (opened ++ last)
  held_both [] more [] others [] last held then = then
  held_both [] more (g ∷ given) others opened last held then = absurd held
  held_both [] more [] others (o ∷ opened) last held then = absurd held
  held_both (index ∷ indexes) more [] others opened last held then = absurd held
  held_both (index ∷ indexes) more (g ∷ given) others [] last held then = absurd held
  held_both (index ∷ indexes) more (g ∷ given) others (o ∷ opened) last held then = (held.0, held_both indexes more given others opened last held.1 then)

  is_open : (index : IndexConf) (given : S) (opened : Opened S) → IsOpenedFrom store index given opened → IsOpen store index (record { given = given; back = opened.disk }) (holdings_of opened)
  is_open index given opened held = record { files = λ image told. has_files opened index.schema image (held.found image told); leaves = held.leaves }

  held_open : (indexes : List IndexConf) (given : List S) (opened : List (Opened S)) → AreOpenedFrom store indexes given opened → AreOpen store indexes (lents_of given opened) (map holdings_of opened)
  held_open [] [] [] held = tt
  held_open [] (g ∷ given) opened held = absurd held
  held_open [] [] (o ∷ opened) held = absurd held
  held_open (index ∷ indexes) [] opened held = absurd held
  held_open (index ∷ indexes) (g ∷ given) [] held = absurd held
  held_open (index ∷ indexes) (g ∷ given) (o ∷ opened) held = (is_open index g o held.0, held_open indexes given opened held.1)

  held_given : (indexes : List IndexConf) (given : List S) (opened : List (Opened S)) → AreOpenedFrom store indexes given opened → given_of (lents_of given opened) ≡ given
  held_given [] [] [] held = refl
  held_given [] (g ∷ given) opened held = absurd held
  held_given [] [] (o ∷ opened) held = absurd held
  held_given (index ∷ indexes) [] opened held = absurd held
  held_given (index ∷ indexes) (g ∷ given) [] held = absurd held
  held_given (index ∷ indexes) (g ∷ given) (o ∷ opened) held = ap (λ (list : List S). g ∷ list) (held_given indexes given opened held.1)

  held_back : (indexes : List IndexConf) (given : List S) (opened : List (Opened S)) → AreOpenedFrom store indexes given opened → back_of (lents_of given opened) ≡ disks_of opened
  held_back [] [] [] held = refl
  held_back [] (g ∷ given) opened held = absurd held
  held_back [] [] (o ∷ opened) held = absurd held
  held_back (index ∷ indexes) [] opened held = absurd held
  held_back (index ∷ indexes) (g ∷ given) [] held = absurd held
  held_back (index ∷ indexes) (g ∷ given) (o ∷ opened) held = ap (λ (list : List S). o.disk ∷ list) (held_back indexes given opened held.1)

  pub held_count : (indexes : List IndexConf) (given : List S) (opened : List (Opened S)) → AreOpenedFrom store indexes given opened → length given ≡ length opened
  held_count [] [] [] held = refl
  held_count [] (g ∷ given) opened held = absurd held
  held_count [] [] (o ∷ opened) held = absurd held
  held_count (index ∷ indexes) [] opened held = absurd held
  held_count (index ∷ indexes) (g ∷ given) [] held = absurd held
  held_count (index ∷ indexes) (g ∷ given) (o ∷ opened) held = ap suc (held_count indexes given opened held.1)

-- ---- opening

pub no_index : (indexes : List IndexConf) → length indexes ≡ 0 → indexes ≡ []
no_index [] none = refl
no_index (index ∷ indexes) none = absurd (omega (arith, none))

-- what is said of a host that gave no store
pub says_ungiven : (fault : OpenFault) (before now : ℕ) → CountsOpening {T = ℕ} (Err fault) before now → SaysUngiven (status_of fault) (record { before = before; now = now })
says_ungiven opening.NoMemory before now cause = cause
says_ungiven opening.Failed before now cause = cause.1

-- what is said of a store that can't be opened
pub says_unopened : {S : Type 0} (store : DiskWords S) (index : IndexConf) (given back : S) (fault : StoreFault) (status : Status) → SaysFault index.schema.name fault status
    → SaysDamage index.schema (store.told given) fault → HasStoreCause {T = S} (store.faults given) (store.faults back) (Err fault) → SaysUnopened store index (record { given = given; back = back }) status
says_unopened store index given back faults.NoMemory status says damage cause = subst (λ (s : Status). SaysUnopened store index (record { given = given; back = back }) s) (sym says) tt
says_unopened store index given back faults.DiskFault status says damage cause = subst (λ (s : Status). SaysUnopened store index (record { given = given; back = back }) s) (sym says) cause.1
says_unopened store index given back (faults.Damaged found) status says damage cause = by status says
  where
    by : (status : Status) → SaysFault index.schema.name (faults.Damaged found) status → SaysUnopened store index (record { given = given; back = back }) status
    by NoMemory is = tt
    by Done is = subst (λ (s : Status). SaysUnopened store index (record { given = given; back = back }) s) (sym is) (refl, damage)
    by Usage is = subst (λ (s : Status). SaysUnopened store index (record { given = given; back = back }) s) (sym is) (refl, damage)
    by (Config line kind) is = subst (λ (s : Status). SaysUnopened store index (record { given = given; back = back }) s) (sym is) (refl, damage)
    by HostFault is = subst (λ (s : Status). SaysUnopened store index (record { given = given; back = back }) s) (sym is) (refl, damage)
    by (Damaged name file place kind) is = subst (λ (s : Status). SaysUnopened store index (record { given = given; back = back }) s) (sym is) (refl, damage)
    by (Strayed name strayed) is = subst (λ (s : Status). SaysUnopened store index (record { given = given; back = back }) s) (sym is) (refl, damage)
    by JobFailed is = subst (λ (s : Status). SaysUnopened store index (record { given = given; back = back }) s) (sym is) (refl, damage)

module _ {H S D K : Type 0} (host : HostWords H S D K) (store : DiskWords S) where
  -- one was opened, and then the others
  pub opens_then : (index : IndexConf) (others : List IndexConf) (result : Result (Unit {0}) (Stop S)) (before between after : List (Opened S)) (old mid new : H)
      → OpensAll host store (index ∷ []) before between old mid → OpensStores host store others result between after mid new → OpensStores host store (index ∷ others) result before after old new
  opens_then index others (Ok done) before between after old mid new first then = record {
    given = first.given ++ then.given;
    opened = first.opened ++ then.opened;
    gives = then.gives ∙ ap (λ (list : List S). list ++ then.given) first.gives ∙ append_assoc (host.stores_given old) first.given then.given;
    holds = then.holds ∙ ap (λ (list : List (Opened S)). list ++ then.opened) first.holds ∙ append_assoc before first.opened then.opened;
    held = held_both store (index ∷ []) others first.given then.given first.opened then.opened first.held then.held;
    asked = requested_then (host.requests old) (host.requests mid) (host.requests new) (store_requests (index ∷ [])) (store_requests others) first.asked then.asked;
    still = then.still ∙ first.still;
  }
  opens_then index others (Err stop) before between after old mid new first then = record {
    front = index ∷ then.front;
    index = then.index;
    rest = then.rest;
    are = ap (λ (list : List IndexConf). index ∷ list) then.are;
    given = first.given ++ then.given;
    opened = first.opened ++ then.opened;
    holds = then.holds ∙ ap (λ (list : List (Opened S)). list ++ then.opened) first.holds ∙ append_assoc before first.opened then.opened;
    held = held_both store (index ∷ []) then.front first.given then.given first.opened then.opened first.held then.held;
    last = then.last;
    hands = then.hands;
    gives =
        then.gives ∙ ap (λ (list : List S). list ++ (then.given ++ given_of then.last)) first.gives
        ∙ append_assoc (host.stores_given old) first.given (then.given ++ given_of then.last)
        ∙ ap (λ (list : List S). host.stores_given old ++ list) (sym (append_assoc first.given then.given (given_of then.last)));
    stops = subst (λ (n : ℕ). Stops store then.index then.last stop.status (record { before = n; now = host.faults new })) first.still then.stops;
    asked = requested_then (host.requests old) (host.requests mid) (host.requests new) (store_requests (index ∷ [])) (take (suc (length then.front)) (store_requests others)) first.asked then.asked;
  }

  -- the first wasn't opened
  pub stops_first : (index : IndexConf) (others : List IndexConf) (stop : Stop S) (before after : List (Opened S)) (old new : H)
      → StopsOpening host store (index ∷ []) stop before after old new → StopsOpening host store (index ∷ others) stop before after old new
  stops_first index others stop before after old new stops = record {
    front = stops.front;
    index = stops.index;
    rest = stops.rest ++ others;
    are = ap (λ (list : List IndexConf). list ++ others) stops.are ∙ append_assoc stops.front (stops.index ∷ stops.rest) others;
    given = stops.given;
    opened = stops.opened;
    holds = stops.holds;
    held = stops.held;
    last = stops.last;
    hands = stops.hands;
    gives = stops.gives;
    stops = stops.stops;
    asked = subst (λ (list : List Request). Requested (host.requests old) (host.requests new) list) (first_of stops.front stops.rest stops.index stops.are) stops.asked;
  }
    where
      first_of : (front rest : List IndexConf) (at : IndexConf) → index ∷ [] ≡ front ++ at ∷ rest
          → take (suc (length front)) (store_requests (index ∷ [])) ≡ take (suc (length front)) (store_requests (index ∷ others))
      first_of [] rest at are = refl
      first_of (x ∷ front) rest at are = absurd (omega (arith, ap length are, length-append front (at ∷ rest)))

  -- the host gave no store for an index
  pub stops_ungiven : (index : IndexConf) (status : Status) (before : List (Opened S)) (old new : H) → host.stores_given new ≡ host.stores_given old
      → SaysUngiven status (record { before = host.faults old; now = host.faults new }) → Requested (host.requests old) (host.requests new) (OpenStore index.path ∷ [])
      → StopsOpening host store (index ∷ []) (record { status = status; store = None }) before before old new
  stops_ungiven index status before old new same says asked = record {
    front = [];
    index = index;
    rest = [];
    are = refl;
    given = [];
    opened = [];
    holds = sym (append-nil before);
    held = tt;
    last = [];
    hands = refl;
    gives = same ∙ sym (append-nil (host.stores_given old));
    stops = says;
    asked = asked;
  }

  -- the store that it gave isn't opened
  pub stops_unopened : (index : IndexConf) (status : Status) (given back : S) (before : List (Opened S)) (old new : H) → host.stores_given new ≡ host.stores_given old ++ given ∷ []
      → Leaves store index (record { given = given; back = back }) → SaysUnopened store index (record { given = given; back = back }) status → host.faults new ≡ host.faults old
      → Requested (host.requests old) (host.requests new) (OpenStore index.path ∷ []) → StopsOpening host store (index ∷ []) (record { status = status; store = Some back }) before before old new
  stops_unopened index status given back before old new gives leaves says still asked = record {
    front = [];
    index = index;
    rest = [];
    are = refl;
    given = [];
    opened = [];
    holds = sym (append-nil before);
    held = tt;
    last = record { given = given; back = back } ∷ [];
    hands = refl;
    gives = gives;
    stops = (leaves, says, still);
    asked = asked;
  }

  -- it was opened
  pub opens_one : (index : IndexConf) (given : S) (opened : Opened S) (before after : List (Opened S)) (old new : H) → host.stores_given new ≡ host.stores_given old ++ given ∷ []
      → after ≡ before ++ opened ∷ [] → Told (IsFoundIn index.schema (arc_value opened.snapshot) opened.records) (store.told given) → Leaves store index (record { given = given; back = opened.disk }) → IsOpened store index.schema opened
      → host.faults new ≡ host.faults old → Requested (host.requests old) (host.requests new) (OpenStore index.path ∷ []) → OpensAll host store (index ∷ []) before after old new
  opens_one index given opened before after old new gives holds found leaves kept still asked = record {
    given = given ∷ [];
    opened = opened ∷ [];
    gives = gives;
    holds = holds;
    held = (record { found = found; leaves = leaves; is = kept }, tt);
    asked = asked;
    still = still;
  }

  -- none was to be opened
  pub opens_none : (before : List (Opened S)) (old : H) → Requested (host.requests old) (host.requests old) [] → OpensAll host store [] before before old old
  opens_none before old asked = record {
    given = [];
    opened = [];
    gives = sym (append-nil (host.stores_given old));
    holds = sym (append-nil before);
    held = tt;
    asked = asked;
    still = refl;
  }

  -- no store was open before
  pub opens_first : (indexes list : List IndexConf) (before after : List (Opened S)) (old mid : H) → list ≡ indexes → before ≡ [] → OpensAll host store list before after old mid → OpensAll host store indexes [] after old mid
  opens_first indexes list before after old mid same none opens =
      subst (λ (l : List IndexConf). OpensAll host store l [] after old mid) same (subst (λ (b : List (Opened S)). OpensAll host store list b after old mid) none opens)

  pub stops_from : (indexes list : List IndexConf) (stop : Stop S) (before after : List (Opened S)) (old mid : H) → list ≡ indexes → before ≡ [] → StopsOpening host store list stop before after old mid
      → StopsOpening host store indexes stop [] after old mid
  stops_from indexes list stop before after old mid same none stops =
      subst (λ (l : List IndexConf). StopsOpening host store l stop [] after old mid) same (subst (λ (b : List (Opened S)). StopsOpening host store list stop b after old mid) none stops)

  -- as many stores were given as are in hand
  pub room_all : (indexes : List IndexConf) (after : List (Opened S)) (old mid : H) → OpensAll host store indexes [] after old mid → KeepsDoors host old mid → length (host.stores_back old) ≤ length (host.stores_given old)
      → length (host.stores_back mid) + length after ≤ length (host.stores_given mid)
  room_all indexes after old mid opens doors within =
      omega (arith, within, ap length doors.takes_stores, ap length opens.gives, length-append (host.stores_given old) opens.given, ap length opens.holds, held_count store indexes opens.given opens.opened opens.held)

  pub room_stopped : (indexes : List IndexConf) (stop : Stop S) (after : List (Opened S)) (old mid : H) → StopsOpening host store indexes stop [] after old mid → KeepsDoors host old mid
      → length (host.stores_back old) ≤ length (host.stores_given old) → length (host.stores_back mid) + length after + length (option_to_list stop.store) ≤ length (host.stores_given mid)
  room_stopped indexes stop after old mid stops doors within =
      omega (
        arith,
        within,
        ap length doors.takes_stores,
        ap length stops.gives,
        length-append (host.stores_given old) (stops.given ++ given_of stops.last),
        length-append stops.given (given_of stops.last),
        length-map stops.last (λ (lent : Lent S). lent.given),
        length-map stops.last (λ (lent : Lent S). lent.back),
        ap length stops.hands,
        ap length stops.holds,
        held_count store stops.front stops.given stops.opened stops.held,
      )

  both_given : (xs ys : List (Lent S)) → given_of (xs ++ ys) ≡ given_of xs ++ given_of ys
  both_given xs ys = map-append (λ (lent : Lent S). lent.given) xs ys

  both_back : (xs ys : List (Lent S)) → back_of (xs ++ ys) ≡ back_of xs ++ back_of ys
  both_back xs ys = map-append (λ (lent : Lent S). lent.back) xs ys

  -- all were opened, handed back, and their lines printed
  pub checks_all : (indexes : List IndexConf) (status : Status) (after : List (Opened S)) (old mid new : H) → OpensAll host store indexes [] after old mid → KeepsDoors host old mid → KeepsPrints host old mid
      → HandsBack host (disks_of after) mid new → PrintsOut host status (check_lines indexes (map holdings_of after)) mid new
      → DoesBy host old new (ChecksIndexes store indexes (store_requests indexes) status)
  checks_all indexes status after old mid new opens doors prints hands (output, printed, says) =
      let held : AreOpenedFrom store indexes opens.given after = subst (λ (list : List (Opened S)). AreOpenedFrom store indexes opens.given list) (sym opens.holds) opens.held in
      let lent : List (Lent S) = lents_of opens.given after in
      let deeds : Deeds S D = record {
        requests = store_requests indexes;
        stores = lent;
        doors = [];
        output = output;
        faults = record { before = host.faults old; now = host.faults new };
        print_faults = record { before = host.print_faults old Out; now = host.print_faults new Out };
      } in
      let does : Does host old new deeds = record {
        asks = subst (λ (told : Option (List Request)). Requested (host.requests old) told (store_requests indexes)) (sym hands.asks) opens.asked;
        lends_stores = record {
          gives = hands.gives_stores ∙ opens.gives ∙ ap (λ (list : List S). host.stores_given old ++ list) (sym (held_given store indexes opens.given after held));
          takes = hands.takes_stores ∙ ap (λ (list : List S). list ++ disks_of after) doors.takes_stores ∙ ap (λ (list : List S). host.stores_back old ++ list) (sym (held_back store indexes opens.given after held));
        };
        lends_doors = record { gives = hands.gives_doors ∙ doors.gives_doors ∙ sym (append-nil (host.doors_given old)); takes = hands.takes_doors ∙ doors.takes_doors ∙ sym (append-nil (host.doors_back old)) };
        prints = printed ∙ ap (λ (told : _). then_bytes (told Out) output) prints.prints;
        counts = refl;
        counts_prints = refl;
      } in (
        deeds,
        does,
        record {
          doors = refl;
          checks = inl (record {
            holdings = map holdings_of after;
            opens = held_open store indexes opens.given after held;
            asked = refl;
            faults = hands.count ∙ opens.still;
            says = subst (λ (n : ℕ). SaysLines status (check_lines indexes (map holdings_of after)) output (record { before = n; now = host.print_faults new Out }))
                (ap (λ (counts : _). counts Out) prints.print_count) says;
          });
        },
      )

  -- opening stopped, and all stores were handed back
  pub stopped : (indexes : List IndexConf) (stop : Stop S) (after : List (Opened S)) (old mid new : H) → StopsOpening host store indexes stop [] after old mid → KeepsDoors host old mid → KeepsPrints host old mid
      → HandsBack host (disks_of after ++ option_to_list stop.store) mid new → KeepsPrints host mid new
      → DoesBy host old new (λ deeds. (deeds.doors ≡ []) × StopsAt store indexes (store_requests indexes) stop.status deeds)
  stopped indexes stop after old mid new stops doors prints hands silent =
      let held : AreOpenedFrom store stops.front stops.given after = subst (λ (list : List (Opened S)). AreOpenedFrom store stops.front stops.given list) (sym stops.holds) stops.held in
      let lent : List (Lent S) = lents_of stops.given after in
      let deeds : Deeds S D = record {
        requests = take (suc (length stops.front)) (store_requests indexes);
        stores = lent ++ stops.last;
        doors = [];
        output = [];
        faults = record { before = host.faults old; now = host.faults new };
        print_faults = record { before = host.print_faults old Out; now = host.print_faults new Out };
      } in
      let given : given_of (lent ++ stops.last) ≡ stops.given ++ given_of stops.last = both_given lent stops.last ∙ ap (λ (list : List S). list ++ given_of stops.last) (held_given store stops.front stops.given after held) in
      let back : back_of (lent ++ stops.last) ≡ disks_of after ++ option_to_list stop.store =
      both_back lent stops.last ∙ ap (λ (list : List S). list ++ back_of stops.last) (held_back store stops.front stops.given after held) ∙ ap (λ (list : List S). disks_of after ++ list) stops.hands in
      let does : Does host old new deeds = record {
        asks = subst (λ (told : Option (List Request)). Requested (host.requests old) told (take (suc (length stops.front)) (store_requests indexes))) (sym hands.asks) stops.asked;
        lends_stores = record {
          gives = hands.gives_stores ∙ stops.gives ∙ ap (λ (list : List S). host.stores_given old ++ list) (sym given);
          takes = hands.takes_stores ∙ ap (λ (list : List S). list ++ (disks_of after ++ option_to_list stop.store)) doors.takes_stores ∙ ap (λ (list : List S). host.stores_back old ++ list) (sym back);
        };
        lends_doors = record { gives = hands.gives_doors ∙ doors.gives_doors ∙ sym (append-nil (host.doors_given old)); takes = hands.takes_doors ∙ doors.takes_doors ∙ sym (append-nil (host.doors_back old)) };
        prints = ap (λ (told : _). told Out) silent.prints ∙ ap (λ (told : _). told Out) prints.prints ∙ sym (then_nothing (host.printed old Out));
        counts = refl;
        counts_prints = refl;
      } in (
        deeds,
        does,
        (
          refl,
          record {
            before = stops.front;
            index = stops.index;
            after = stops.rest;
            are = stops.are;
            opened = lent;
            holdings = map holdings_of after;
            opens = held_open store stops.front stops.given after held;
            last = stops.last;
            stores = refl;
            stops = subst (λ (n : ℕ). Stops store stops.index stops.last stop.status (record { before = host.faults old; now = n })) (sym hands.count) stops.stops;
            asked = refl;
            output = refl;
            print_faults = ap (λ (counts : _). counts Out) silent.print_count ∙ ap (λ (counts : _). counts Out) prints.print_count;
          },
        ),
      )

  pub checks_stopped : (indexes : List IndexConf) (stop : Stop S) (after : List (Opened S)) (old mid new : H) → StopsOpening host store indexes stop [] after old mid → KeepsDoors host old mid → KeepsPrints host old mid
      → HandsBack host (disks_of after ++ option_to_list stop.store) mid new → KeepsPrints host mid new → DoesBy host old new (ChecksIndexes store indexes (store_requests indexes) stop.status)
  checks_stopped indexes stop after old mid new stops doors prints hands silent =
      let (deeds, does, (none, stops)) = stopped indexes stop after old mid new stops doors prints hands silent in
      (deeds, does, record { doors = none; checks = inr stops })
