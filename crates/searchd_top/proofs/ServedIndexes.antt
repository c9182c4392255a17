-- Serving: what is done over stores in hand, and with the opening of the stores before it.
use Rattle.std.proofs.Common.{◌≡◌, inl, inr, ⊎_elim, ℕ, zero, suc, ◌+◌, List, [], ◌∷◌, ◌++◌, All, refl, sym, ap, subst, ◌∙◌, arith, length, map, take, append-nil, length-append}
use Rattle.std.proofs.lemmas.List.{length-map, map-append}
use Rattle.std.proofs.lemmas.List.Elements.{All-map}
use Rattle.std.specs.Prelude.{Bool, true, false, Option, Some, Result, Ok, Err, option_to_list, slice_get}
use Rattle.chunk_store.specs.declared.disk.Disk.{Ghosts as DiskWords}
use Rattle.commit_outcomes.specs.declared.strayed.Strayed.{Strayed as AnyStrayed}
use Rattle.doc_types.specs.declared.schema.Schema.{Schema}
use Rattle.engine_tables.specs.Endings.{ComeBack}
use Rattle.engine_tables.specs.Names.{AreServed}
use Rattle.engine_tables.specs.Tokens.{TokensValue}
use Rattle.index_conf.specs.Soundness.{IsSound}
use Rattle.index_conf.specs.declared.conf.Conf.{Conf}
use Rattle.index_conf.specs.declared.conf.IndexConf.{IndexConf}
use Rattle.line_workers.specs.Lines.{Service}
use Rattle.line_workers.specs.Workers.{AllWork}
use Rattle.served_stores.specs.Serving.{AnyEnded, AnySeat, HasNone, HasServed, Serves, end_of, outcome_of, some_failed}
use Rattle.served_stores.specs.Stores.{AreStores}
use Rattle.served_stores.specs.steps.Picks.{base_at, opening_at, schema_at}
use Rattle.served_stores.proofs.Nameless.{unserved_back, unserved_of}
use Rattle.served_stores.proofs.Naming.{names_of}
use Rattle.served_stores.specs.declared.ends.IndexEnd.{IndexEnd}
use Rattle.served_stores.specs.declared.serving.Outcome.{Outcome}
use Rattle.served_stores.specs.declared.serving.Outcome.TheVariants as outcomes
use Rattle.served_stores.specs.declared.serving.Served.{Served}
use Rattle.srch_base.specs.declared.door.Door.{Ghosts as DoorWords}
use Rattle.srch_base.specs.declared.faults.OpenFault.{OpenFault}
use Rattle.srch_base.specs.declared.faults.OpenFault.TheVariants as opening
use Rattle.srch_base.specs.declared.faults.Or.{Or}
use Rattle.srch_base.specs.declared.faults.Or.TheVariants as causes
use Rattle.srch_base.specs.declared.link.Link.{Ghosts as LinkWords}
use Rattle.step_book.specs.Fronts.{FrontValue}
use Rattle.step_history.specs.History.{Base}
use Rattle.store_keep.specs.Opens.{IsOpened}
use Rattle.store_keep.specs.declared.opening.Opened.{Opened}
use Rattle.program_host.specs.Lending.{CountsOpening, Lent, back_of, given_of}
use Rattle.program_host.specs.Requests.{Requested}
use Rattle.program_host.specs.Statuses.{status_of}
use Rattle.program_host.specs.declared.host.Host.{Ghosts as HostWords}
use Rattle.program_host.specs.declared.host.Stream.TheVariants.{Out}
use Rattle.program_host.specs.declared.requests.Request.{Request}
use Rattle.program_host.specs.declared.status.Status.{Status}
use Rattle.program_host.specs.declared.status.Status.TheVariants.{Done, NoMemory}
use Rattle.searchd_top.specs.Deeds.{Count, Deeds, Does, HasRisen}
use Rattle.searchd_top.specs.Openings.{AreOpenedFrom}
use Rattle.searchd_top.specs.Plans.{Plan}
use Rattle.searchd_top.specs.Requests.{door_requests, store_requests}
use Rattle.searchd_top.specs.Sessions.{AreIdle, HaveWorked, SaysIdle, ServesIndexes, status_after, status_of_ends, unless_decided}
use Rattle.searchd_top.specs.declared.opening.Stop.{Stop}
use Rattle.searchd_top.specs.steps.Openings.{KeepsDoors, OpensAll, StopsOpening, disks_of}
use Rattle.searchd_top.specs.steps.Servings.{Answers, AreNames, HandsAllBack, IsShort, SaysOutcome, ServesOpened, after_end, after_ends}
use Rattle.searchd_top.specs.steps.Sides.{DoesBy, HandsBack, KeepsPrints}
use Rattle.searchd_top.proofs.Doing.{requested_none, requested_then, then_nothing}
use Rattle.searchd_top.proofs.Held.{stopped}

-- ---- things that were given, beside how they came back

abbrev pub lents : {X : Type 0} → List X → List X → List (Lent X)
lents [] back = []
lents (given ∷ things) [] = []
lents (given ∷ things) (back ∷ others) = record { given = given; back = back } ∷ lents things others

lents_given : {X : Type 0} (given back : List X) → length back ≡ length given → given_of (lents given back) ≡ given
lents_given [] back same = refl
lents_given (g ∷ given) [] same = absurd (omega (arith, same))
lents_given {X} (g ∷ given) (b ∷ back) same = ap (λ (list : List X). g ∷ list) (lents_given given back (omega (arith, same)))

lents_back : {X : Type 0} (given back : List X) → length back ≡ length given → back_of (lents given back) ≡ back
lents_back [] [] same = refl
lents_back [] (b ∷ back) same = absurd (omega (arith, same))
lents_back (g ∷ given) [] same = absurd (omega (arith, same))
lents_back {X} (g ∷ given) (b ∷ back) same = ap (λ (list : List X). b ∷ list) (lents_back given back (omega (arith, same)))

pub take_front : {X : Type 0} (xs ys : List X) → take (length xs) (xs ++ ys) ≡ xs
take_front [] ys = refl
take_front {X} (x ∷ xs) ys = ap (λ (list : List X). x ∷ list) (take_front xs ys)

pub take_whole : {X : Type 0} (xs : List X) → take (length xs) xs ≡ xs
take_whole [] = refl
take_whole {X} (x ∷ xs) = ap (λ (list : List X). x ∷ list) (take_whole xs)

-- ---- stores that came back as they were opened

unserved_disks : {S : Type 0} (opened : List (Opened S)) → map (λ (end : AnyEnded S). end.disk) (map unserved_of opened) ≡ disks_of opened
unserved_disks [] = refl
unserved_disks {S} (store ∷ opened) = ap (λ (list : List S). store.disk ∷ list) (unserved_disks opened)

-- ---- what a status says

-- as many seats are left as there were
seats_left : {E K : Type 0} (door : DoorWords E K) (link : LinkWords K) (schema : ℕ → Schema) (base : ℕ → Base) (confs : List IndexConf) (workers sessions worker : ℕ) (services : List (List (Service K FrontValue))) (lefts : List TokensValue) (olds news : List (AnySeat E K))
    → AllWork door link schema base confs workers sessions worker services lefts olds news → length news ≡ length olds
seats_left door link schema base confs workers sessions worker [] [] [] [] work = refl
seats_left door link schema base confs workers sessions worker [] [] [] (n ∷ news) work = absurd work
seats_left door link schema base confs workers sessions worker [] [] (o ∷ olds) news work = absurd work
seats_left door link schema base confs workers sessions worker [] (l ∷ lefts) olds news work = absurd work
seats_left door link schema base confs workers sessions worker (s ∷ services) [] olds news work = absurd work
seats_left door link schema base confs workers sessions worker (s ∷ services) (l ∷ lefts) [] news work = absurd work
seats_left door link schema base confs workers sessions worker (s ∷ services) (l ∷ lefts) (o ∷ olds) [] work = absurd work
seats_left door link schema base confs workers sessions worker (s ∷ services) (l ∷ lefts) (o ∷ olds) (n ∷ news) work = ap suc (seats_left door link schema base confs workers sessions (worker + 1) services lefts olds news work.1)

ends_answers : {S : Type 0} (ended : List (AnyEnded S)) → map (λ (end : IndexEnd S). end.answer) (map end_of ended) ≡ map (λ (end : AnyEnded S). end.answer) ended
ends_answers [] = refl
ends_answers (end ∷ ended) = ap (λ (list : Answers). end.answer ∷ list) (ends_answers ended)

ends_disks : {S : Type 0} (ended : List (AnyEnded S)) → map (λ (end : IndexEnd S). end.disk) (map end_of ended) ≡ map (λ (end : AnyEnded S). end.disk) ended
ends_disks [] = refl
ends_disks {S} (end ∷ ended) = ap (λ (list : List S). end.disk ∷ list) (ends_disks ended)

-- the status by the names of indexes is that by the indexes
ends_alike : (indexes : List IndexConf) (answers : Answers) → after_ends (map (λ (index : IndexConf). index.schema.name) indexes) answers Done ≡ status_of_ends indexes answers
ends_alike [] answers = refl
ends_alike (index ∷ indexes) [] = refl
ends_alike (index ∷ indexes) (Ok done ∷ answers) = ends_alike indexes answers
ends_alike (index ∷ indexes) (Err (causes.Fault strayed) ∷ answers) = refl
ends_alike (index ∷ indexes) (Err causes.NoMemory ∷ answers) = ap unless_decided (ends_alike indexes answers)

says_worked : (indexes : List IndexConf) (names : List (List ℕ)) (answers : Answers) (failed : Bool) (status : Status) → AreNames indexes names → SaysOutcome names answers (outcome_of failed) status
    → status ≡ status_after failed (status_of_ends indexes answers)
says_worked indexes names answers true status are says = says
says_worked indexes names answers false status are says = says ∙ ap (λ (list : List (List ℕ)). after_ends list answers Done) are ∙ ends_alike indexes answers

-- one index more, behind the others
pub after_last : (names : List (List ℕ)) (answers : Answers) (name : List ℕ) (answer : Result (Unit {0}) (Or AnyStrayed)) (later : Status) → length names ≡ length answers
    → after_ends (names ++ name ∷ []) (answers ++ answer ∷ []) later ≡ after_ends names answers (after_end name answer later)
after_last [] [] name answer later same = refl
after_last [] (a ∷ answers) name answer later same = absurd (omega (arith, same))
after_last (n ∷ names) [] name answer later same = absurd (omega (arith, same))
after_last (n ∷ names) (a ∷ answers) name answer later same = ap (after_end n a) (after_last names answers name answer later (omega (arith, same)))

-- and the end of its store
pub after_last_end : {S : Type 0} (names all : List (List ℕ)) (name : List ℕ) (ends every : List (IndexEnd S)) (end : IndexEnd S) (later : Status) → all ≡ names ++ name ∷ [] → every ≡ ends ++ end ∷ [] → length all ≡ length every
    → after_ends all (map (λ (end : IndexEnd S). end.answer) every) later ≡ after_ends names (map (λ (end : IndexEnd S). end.answer) ends) (after_end name end.answer later)
after_last_end {S} names all name ends every end later are were many =
    let answer : IndexEnd S → Result (Unit {0}) (Or AnyStrayed) = λ end. end.answer in
    let same : length names ≡ length (map answer ends) =
    omega (arith, many, ap length are, ap length were, length-append names (name ∷ []), length-append ends (end ∷ []), length-map ends answer) in
    ap (λ (list : List (List ℕ)). after_ends list (map answer every) later) are
    ∙ ap (λ (list : List (IndexEnd S)). after_ends (names ++ name ∷ []) (map answer list) later) were
    ∙ ap (λ (list : Answers). after_ends (names ++ name ∷ []) list later) (map-append answer ends (end ∷ []))
    ∙ after_last names (map answer ends) name end.answer later same

-- the names of indexes are within their limit
pub short_names : (indexes : List IndexConf) (names : List (List ℕ)) → AreServed indexes → AreNames indexes names → All IsShort names
short_names indexes names served are =
    let short : All (λ (index : IndexConf). IsShort index.schema.name) indexes = λ k index within. (served.schemas k index within).name.short in
    subst (All IsShort) (sym are) (All-map IsShort (λ (index : IndexConf). index.schema.name) indexes short)

-- and as many as there are indexes
pub names_long : (indexes : List IndexConf) (names : List (List ℕ)) → AreNames indexes names → length names ≡ length indexes
names_long indexes names are = ap length are ∙ length-map indexes (λ (index : IndexConf). index.schema.name)

-- ---- stores in hand

module _ {H S D K : Type 0} (host : HostWords H S D K) (store : DiskWords S) (door : DoorWords D K) (link : LinkWords K) (indexes : List IndexConf) (plan : Plan) (opened : List (Opened S)) where
  abbrev all_requests : List Request
  all_requests = store_requests indexes ++ door_requests plan

  idle_so : (status : Status) (deeds : Deeds S D) → back_of deeds.stores ≡ disks_of opened → deeds.doors ≡ [] → SaysIdle all_requests status deeds → AreIdle store indexes plan all_requests opened status deeds
  idle_so status deeds back none says = record {
    schema = schema_at indexes;
    base = base_at opened;
    openings = opening_at store opened;
    names = names_of store indexes opened;
    ended = map unserved_of opened;
    many = inl none;
    same = ap (λ (doors : List (Lent D)). back_of doors) none ∙ sym (ap (λ (doors : List (Lent D)). given_of doors) none);
    disks = unserved_disks opened ∙ sym back;
    back = unserved_back store (schema_at indexes) (base_at opened) (opening_at store opened) (length deeds.doors) opened;
    says = says;
  }

  -- there was no room for what would be left
  pub serves_no_room : (old new : H) → HandsBack host (disks_of opened) old new → ServesOpened host store door link indexes plan opened NoMemory old new
  serves_no_room old new hands = record {
    back = disks_of opened;
    doors = [];
    requests = [];
    asks = requested_none (host.requests old) (host.requests new) hands.asks;
    gives_stores = hands.gives_stores;
    takes_stores = hands.takes_stores;
    lends_doors = record { gives = hands.gives_doors ∙ sym (append-nil (host.doors_given old)); takes = hands.takes_doors ∙ sym (append-nil (host.doors_back old)) };
    many = length-map opened (λ (store : Opened S). store.disk);
    comes = λ deeds back none asked faults. inr (idle_so NoMemory deeds back none (
      (length (store_requests indexes), asked ∙ append-nil (store_requests indexes) ∙ sym (take_front (store_requests indexes) (door_requests plan))),
      ap (λ (c : Count). c.now) faults ∙ hands.count ∙ sym (ap (λ (c : Count). c.before) faults),
    ));
  }

  says_refused : (fault : OpenFault) (deeds : Deeds S D) (before now : ℕ) → CountsOpening {T = List D} (Err fault) before now → deeds.doors ≡ [] → deeds.requests ≡ all_requests → deeds.faults ≡ record { before = before; now = now }
      → SaysIdle all_requests (status_of fault) deeds
  says_refused opening.NoMemory deeds before now cause none asked faults = (
    (length all_requests, asked ∙ sym (take_whole all_requests)),
    ap (λ (c : Count). c.now) faults ∙ cause ∙ sym (ap (λ (c : Count). c.before) faults),
  )
  says_refused opening.Failed deeds before now cause none asked faults = (asked, subst (λ (c : Count). HasRisen c) (sym faults) cause.1, none)

  -- the host gave no doors
  pub serves_refused : (fault : OpenFault) (old mid new : H) → CountsOpening {T = List D} (Err fault) (host.faults old) (host.faults mid) → Requested (host.requests old) (host.requests mid) (door_requests plan)
      → host.stores_given mid ≡ host.stores_given old → host.stores_back mid ≡ host.stores_back old → host.doors_given mid ≡ host.doors_given old → host.doors_back mid ≡ host.doors_back old
      → HandsBack host (disks_of opened) mid new → ServesOpened host store door link indexes plan opened (status_of fault) old new
  serves_refused fault old mid new cause asked gives_stores takes_stores gives_doors takes_doors hands = record {
    back = disks_of opened;
    doors = [];
    requests = door_requests plan;
    asks = subst (λ (told : Option (List Request)). Requested (host.requests old) told (door_requests plan)) (sym hands.asks) asked;
    gives_stores = hands.gives_stores ∙ gives_stores;
    takes_stores = hands.takes_stores ∙ ap (λ (list : List S). list ++ disks_of opened) takes_stores;
    lends_doors = record {
      gives = hands.gives_doors ∙ gives_doors ∙ sym (append-nil (host.doors_given old));
      takes = hands.takes_doors ∙ takes_doors ∙ sym (append-nil (host.doors_back old));
    };
    many = length-map opened (λ (store : Opened S). store.disk);
    comes = λ deeds back none asked faults.
        let counts : deeds.faults ≡ record { before = host.faults old; now = host.faults mid } = faults ∙ ap (λ (n : ℕ). record { before = host.faults old; now = n }) hands.count in
        inr (idle_so (status_of fault) deeds back none (says_refused fault deeds (host.faults old) (host.faults mid) cause none asked counts));
  }

  -- as many doors are left as were given
  pub doors_long : (given : List D) (served : Served S D) → Serves store door link indexes opened plan.sessions given served → length served.doors.items ≡ length given
  doors_long given served serves = ⊎_elim worked (λ has. ap length has.same) serves.comes
    where
      worked : HasServed store door link serves.schema serves.base serves.opened indexes plan.sessions given served → length served.doors.items ≡ length given
      worked has =
          ap length (sym has.stood) ∙ length-map has.left (λ (seat : AnySeat D K). seat.door)
          ∙ seats_left door link serves.schema serves.base indexes (length has.seats) plan.sessions 1 has.is.services has.is.left has.seats has.left has.is.works
          ∙ sym (length-map has.seats (λ (seat : AnySeat D K). seat.door)) ∙ ap length has.sat

  -- and as many stores
  pub ends_long : (given : List D) (served : Served S D) → length opened ≡ length indexes → Serves store door link indexes opened plan.sessions given served → length served.ends.items ≡ length opened
  ends_long given served long serves =
      ⊎_elim (λ has. ap length (sym has.ends) ∙ length-map has.ended end_of ∙ has.is.ended.many ∙ sym long) (λ has. ap length (sym has.ends) ∙ length-map has.ended end_of ∙ has.back.many) serves.comes

  -- the doors' lines were served, or memory was refused before
  pub serves_all : (names : List (List ℕ)) (given : List D) (served : Served S D) (status : Status) (old mid new : H) → AreNames indexes names → length given ≡ plan.workers
      → length opened ≡ length indexes → Serves store door link indexes opened plan.sessions given served
      → host.faults mid ≡ host.faults old → Requested (host.requests old) (host.requests mid) (door_requests plan)
      → host.stores_given mid ≡ host.stores_given old → host.stores_back mid ≡ host.stores_back old → host.doors_given mid ≡ host.doors_given old ++ given → host.doors_back mid ≡ host.doors_back old
      → HandsAllBack host names served status mid new → ServesOpened host store door link indexes plan opened status old new
  serves_all names given served status old mid new are workers long serves still asked gives_stores takes_stores gives_doors takes_doors hands = record {
    back = map (λ (end : IndexEnd S). end.disk) served.ends.items;
    doors = lents given served.doors.items;
    requests = door_requests plan;
    asks = subst (λ (told : Option (List Request)). Requested (host.requests old) told (door_requests plan)) (sym hands.asks) asked;
    gives_stores = hands.gives_stores ∙ gives_stores;
    takes_stores = hands.takes_stores ∙ ap (λ (list : List S). list ++ map (λ (end : IndexEnd S). end.disk) served.ends.items) takes_stores;
    lends_doors = record {
      gives = hands.gives_doors ∙ gives_doors ∙ ap (λ (list : List D). host.doors_given old ++ list) (sym (lents_given given served.doors.items same));
      takes = hands.takes_doors ∙ ap (λ (list : List D). list ++ served.doors.items) takes_doors ∙ ap (λ (list : List D). host.doors_back old ++ list) (sym (lents_back given served.doors.items same));
    };
    many = length-map served.ends.items (λ (end : IndexEnd S). end.disk) ∙ ends_long given served long serves;
    comes = λ deeds back doors asked faults. ⊎_elim (λ has. inl (worked has deeds back doors asked faults)) (λ has. inr (none has deeds back doors asked faults)) serves.comes;
  }
    where
      same : length served.doors.items ≡ length given
      same = doors_long given served serves

      its_outcome : (outcome : Outcome) → served.outcome ≡ outcome → SaysOutcome names (map (λ (end : IndexEnd S). end.answer) served.ends.items) outcome status
      its_outcome outcome is = subst (λ (o : Outcome). SaysOutcome names (map (λ (end : IndexEnd S). end.answer) served.ends.items) o status) is hands.says

      worked : HasServed store door link serves.schema serves.base serves.opened indexes plan.sessions given served → (deeds : Deeds S D) → back_of deeds.stores ≡ map (λ (end : IndexEnd S). end.disk) served.ends.items → deeds.doors ≡ lents given served.doors.items
          → deeds.requests ≡ all_requests → deeds.faults ≡ record { before = host.faults old; now = host.faults new } → HaveWorked store door link indexes plan all_requests opened status deeds
      worked has deeds back doors asked faults = record {
        schema = serves.schema;
        base = serves.base;
        openings = serves.opened;
        names = serves.of;
        seats = has.seats;
        left = has.left;
        ended = has.ended;
        many = ap length doors ∙ sym (length-map (lents given served.doors.items) (λ (lent : Lent D). lent.given)) ∙ ap length (lents_given given served.doors.items same) ∙ workers;
        sat = has.sat ∙ sym (ap (λ (list : List (Lent D)). given_of list) doors ∙ lents_given given served.doors.items same);
        stood = has.stood ∙ sym (ap (λ (list : List (Lent D)). back_of list) doors ∙ lents_back given served.doors.items same);
        disks = sym (ends_disks has.ended) ∙ ap (λ (list : List (IndexEnd S)). map (λ (end : IndexEnd S). end.disk) list) has.ends ∙ sym back;
        served = has.is;
        says = subst (λ (answers : Answers). status ≡ status_after (some_failed has.left) (status_of_ends indexes answers))
            (ap (λ (list : List (IndexEnd S)). map (λ (end : IndexEnd S). end.answer) list) (sym has.ends) ∙ ends_answers has.ended)
            (says_worked indexes names (map (λ (end : IndexEnd S). end.answer) served.ends.items) (some_failed has.left) status are (its_outcome (outcome_of (some_failed has.left)) has.outcome));
        asked = asked;
        faults = ap (λ (c : Count). c.now) faults ∙ hands.count ∙ still ∙ sym (ap (λ (c : Count). c.before) faults);
      }

      none : HasNone store serves.schema serves.base serves.opened opened given served → (deeds : Deeds S D) → back_of deeds.stores ≡ map (λ (end : IndexEnd S). end.disk) served.ends.items → deeds.doors ≡ lents given served.doors.items
          → deeds.requests ≡ all_requests → deeds.faults ≡ record { before = host.faults old; now = host.faults new } → AreIdle store indexes plan all_requests opened status deeds
      none has deeds back doors asked faults =
          let counted : length deeds.doors ≡ length given =
          ap length doors ∙ sym (length-map (lents given served.doors.items) (λ (lent : Lent D). lent.given)) ∙ ap length (lents_given given served.doors.items same) in
          let is : status ≡ NoMemory = its_outcome outcomes.NoMemory has.outcome in
          record {
            schema = serves.schema;
            base = serves.base;
            openings = serves.opened;
            names = serves.of;
            ended = has.ended;
            many = inr (counted ∙ workers);
            same = ap (λ (list : List (Lent D)). back_of list) doors ∙ lents_back given served.doors.items same ∙ has.same
                ∙ sym (ap (λ (list : List (Lent D)). given_of list) doors ∙ lents_given given served.doors.items same);
            disks = sym (ends_disks has.ended) ∙ ap (λ (list : List (IndexEnd S)). map (λ (end : IndexEnd S). end.disk) list) has.ends ∙ sym back;
            back = subst (λ (n : ℕ). ComeBack store serves.schema serves.base serves.opened n opened has.ended) (sym counted) has.back;
            says = subst (λ (s : Status). SaysIdle all_requests s deeds) (sym is) (
              (length all_requests, asked ∙ sym (take_whole all_requests)),
              ap (λ (c : Count). c.now) faults ∙ hands.count ∙ still ∙ sym (ap (λ (c : Count). c.before) faults),
            );
          }

-- ---- the whole

module _ {H S D K : Type 0} (host : HostWords H S D K) (store : DiskWords S) (door : DoorWords D K) (link : LinkWords K) where
  held_many : (indexes : List IndexConf) (given : List S) (opened : List (Opened S)) → AreOpenedFrom store indexes given opened → length opened ≡ length given
  held_many [] [] [] held = refl
  held_many [] (g ∷ given) opened held = absurd held
  held_many [] [] (o ∷ opened) held = absurd held
  held_many (index ∷ indexes) [] opened held = absurd held
  held_many (index ∷ indexes) (g ∷ given) [] held = absurd held
  held_many (index ∷ indexes) (g ∷ given) (o ∷ opened) held = ap suc (held_many indexes given opened held.1)

  opened_at : (indexes : List IndexConf) (given : List S) (opened : List (Opened S)) → AreOpenedFrom store indexes given opened → (place : ℕ) (conf : IndexConf) (its : Opened S) → slice_get indexes place ≡ Some conf → slice_get opened place ≡ Some its
      → IsOpened store conf.schema its
  opened_at [] given opened held place conf its of at = absurd (cc of)
  opened_at (index ∷ indexes) [] opened held place conf its of at = absurd held
  opened_at (index ∷ indexes) (g ∷ given) [] held place conf its of at = absurd held
  opened_at (index ∷ indexes) (g ∷ given) (o ∷ opened) held zero conf its of at =
      let same : index ≡ conf = cc of in
      let own : o ≡ its = cc at in
      subst (λ (c : IndexConf). IsOpened store c.schema its) same (subst (λ (s : Opened S). IsOpened store index.schema s) own held.0.is)
  opened_at (index ∷ indexes) (g ∷ given) (o ∷ opened) held (suc place) conf its of at = opened_at indexes given opened held.1 place conf its of at

  as_many : (indexes : List IndexConf) (given : List S) (opened : List (Opened S)) → AreOpenedFrom store indexes given opened → length opened ≡ length indexes
  as_many [] [] [] held = refl
  as_many [] (g ∷ given) opened held = absurd held
  as_many [] [] (o ∷ opened) held = absurd held
  as_many (index ∷ indexes) [] opened held = absurd held
  as_many (index ∷ indexes) (g ∷ given) [] held = absurd held
  as_many (index ∷ indexes) (g ∷ given) (o ∷ opened) held = ap suc (as_many indexes given opened held.1)

  -- the stores that were opened can be served
  pub are_stores : (indexes : List IndexConf) (after : List (Opened S)) (old new : H) → OpensAll host store indexes [] after old new → AreStores store indexes after
  are_stores indexes after old new opens =
      let held : AreOpenedFrom store indexes opens.given after = subst (λ (list : List (Opened S)). AreOpenedFrom store indexes opens.given list) (sym opens.holds) opens.held in
      record { many = as_many indexes opens.given after held; opened = opened_at indexes opens.given after held }

  -- and so can the configuration
  pub are_served : (conf : Conf) → IsSound conf → AreServed conf.indexes
  are_served conf sound = record { few = omega (arith, sound.few); schemas = sound.schemas; zones = sound.zones }

  -- the stores of all indexes were opened, and then served
  pub serves_opened : (indexes : List IndexConf) (plan : Plan) (after : List (Opened S)) (status : Status) (old mid new : H) → OpensAll host store indexes [] after old mid → KeepsDoors host old mid → KeepsPrints host old mid
      → ServesOpened host store door link indexes plan after status mid new → KeepsPrints host mid new
      → DoesBy host old new (ServesIndexes store door link indexes plan (store_requests indexes ++ door_requests plan) status)
  serves_opened indexes plan after status old mid new opens doors prints serves silent =
      let held : AreOpenedFrom store indexes opens.given after = subst (λ (list : List (Opened S)). AreOpenedFrom store indexes opens.given list) (sym opens.holds) opens.held in
      let long : length serves.back ≡ length opens.given = serves.many ∙ held_many indexes opens.given after held in
      let deeds : Deeds S D = record {
        requests = store_requests indexes ++ serves.requests;
        stores = lents opens.given serves.back;
        doors = serves.doors;
        output = [];
        faults = record { before = host.faults old; now = host.faults new };
        print_faults = record { before = host.print_faults old Out; now = host.print_faults new Out };
      } in
      let does : Does host old new deeds = record {
        asks = requested_then (host.requests old) (host.requests mid) (host.requests new) (store_requests indexes) serves.requests opens.asked serves.asks;
        lends_stores = record {
          gives = serves.gives_stores ∙ opens.gives ∙ ap (λ (list : List S). host.stores_given old ++ list) (sym (lents_given opens.given serves.back long));
          takes = serves.takes_stores ∙ ap (λ (list : List S). list ++ serves.back) doors.takes_stores ∙ ap (λ (list : List S). host.stores_back old ++ list) (sym (lents_back opens.given serves.back long));
        };
        lends_doors = record {
          gives = serves.lends_doors.gives ∙ ap (λ (list : List D). list ++ given_of serves.doors) doors.gives_doors;
          takes = serves.lends_doors.takes ∙ ap (λ (list : List D). list ++ back_of serves.doors) doors.takes_doors;
        };
        prints = ap (λ (told : _). told Out) silent.prints ∙ ap (λ (told : _). told Out) prints.prints ∙ sym (then_nothing (host.printed old Out));
        counts = refl;
        counts_prints = refl;
      } in (
        deeds,
        does,
        record {
          output = refl;
          print_faults = ap (λ (counts : _). counts Out) silent.print_count ∙ ap (λ (counts : _). counts Out) prints.print_count;
          serves = inl (record {
            opened = after;
            are = subst (λ (list : List S). AreOpenedFrom store indexes list after) (sym (lents_given opens.given serves.back long)) held;
            goes = serves.comes deeds (lents_back opens.given serves.back long) refl refl (ap (λ (n : ℕ). record { before = n; now = host.faults new }) (sym opens.still));
          });
        },
      )

  -- opening stopped
  pub serves_stopped : (indexes : List IndexConf) (plan : Plan) (stop : Stop S) (after : List (Opened S)) (old mid new : H) → StopsOpening host store indexes stop [] after old mid → KeepsDoors host old mid → KeepsPrints host old mid
      → HandsBack host (disks_of after ++ option_to_list stop.store) mid new → KeepsPrints host mid new
      → DoesBy host old new (ServesIndexes store door link indexes plan (store_requests indexes ++ door_requests plan) stop.status)
  serves_stopped indexes plan stop after old mid new stops doors prints hands silent =
      let (deeds, does, (none, stops)) = stopped host store indexes stop after old mid new stops doors prints hands silent in
      (deeds, does, record { output = stops.output; print_faults = stops.print_faults; serves = inr (record { doors = none; stops = stops }) })
