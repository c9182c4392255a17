-- All engines from those of the stores before the last one, and what comes back where it stops.
use Rattle.std.proofs.Common.{◌≡◌, inl, inr, ⊎_elim, ℕ, ◌+◌, ◌<◌, ◌≤◌, ◌^◌, List, [], ◌∷◌, ◌++◌, All, Some, length, map, slice_get, ap, sym, subst, ◌∙◌, arith, length-append, vec_capacity, Vec, Global}
use Rattle.std.proofs.lemmas.List.{length-map, map-append}
use Rattle.std.proofs.lemmas.Option.{slice_get-map, slice_get_within}
use Rattle.std.specs.List.{enumerate_from}
use Rattle.std.specs.Option.{option_map}
use Rattle.chunk_store.specs.declared.disk.Disk.{Ghosts as DiskWords}
use Rattle.doc_types.specs.declared.schema.Schema.{Schema}
use Rattle.logbook.specs.Pages.{Book}
use Rattle.index_conf.specs.declared.conf.IndexConf.{IndexConf}
use Rattle.commit_outcomes.specs.declared.strayed.Strayed.{Strayed}
use Rattle.step_book.specs.Fronts.{FrontValue}
use Rattle.step_book.specs.Tellings.{AtOpening}
use Rattle.step_history.specs.History.{Base}
use Rattle.step_tokens.specs.Tokens.{TokenValue}
use Rattle.store_keep.specs.Names.{first_tokens}
use Rattle.store_keep.specs.declared.opening.Opened.{Opened}
use Rattle.snap_share.specs.Closings.{Closes}
use Rattle.snap_share.specs.Engines.{EngineValue}
use Rattle.engine_tables.specs.Endings.{ComeBack, EndingValue, HasEnded, HaveEnded}
use Rattle.engine_tables.specs.Engines.{ArePlaced, TableValue, engine_over}
use Rattle.engine_tables.specs.Names.{AreNamed, AreServed, IsRoomFor}
use Rattle.engine_tables.specs.Tokens.{AreOf, new_seats, told_at}
use Rattle.engine_tables.specs.declared.ended.Ended.{Ended}
use Rattle.engine_tables.specs.declared.making.Made.{Made}
use Rattle.engine_tables.specs.declared.making.Making.{Making}
use Rattle.engine_tables.specs.declared.making.Making.TheVariants.{Going, Stopped}
use Rattle.engine_tables.specs.steps.Makings.{CanBeMade, CanGoOn, IsMadeOf, IsNamedAt, IsNext, IsNone, HaveAllEnded, Makes, MakesOne, StopsAt}
use Rattle.engine_tables.proofs.Makings.{as_long, engines_more, named_before, named_last, placed_more, placed_over, seats_sit, served_before}
use Rattle.engine_tables.proofs.Numbering.{first_tokens_at, none_told_at}
use Rattle.engine_tables.proofs.Places.{get_end, get_more_cases}

module _ {D J : Type 0} (confs : List IndexConf) (stores : List (Opened D)) (none made : Made D J) (of : IsMadeOf confs stores none made) where
  -- as many as there are configurations
  pub as_many : length made.tables.items ≡ length confs
  as_many = sym (length-map made.tables.items (λ (table : TableValue). table.conf)) ∙ ap length of.confs_are

  -- each stands at its place
  pub placed_all : ArePlaced made.workers (map (λ (table : TableValue). table.engine) made.tables.items)
  placed_all =
      subst (λ (w : ℕ). ArePlaced w (map (λ (table : TableValue). table.engine) made.tables.items)) (sym of.workers_are)
      (subst (λ (engines : List EngineValue). ArePlaced none.workers engines) (sym of.engines_are) (placed_over none.workers stores))

  -- each worker has tokens of all
  pub all_sit : All (AreOf (length (map (λ (table : TableValue). table.conf) made.tables.items)) made.workers) made.seats.items
  all_sit =
      let sit : All (AreOf (length confs) none.workers) made.seats.items = subst (All (AreOf (length confs) none.workers)) (sym of.seats_are) (seats_sit (length confs) none.workers none.workers (omega arith)) in
      subst (λ (w : ℕ). All (AreOf (length (map (λ (table : TableValue). table.conf) made.tables.items)) w) made.seats.items) (sym of.workers_are)
      (subst (λ (cs : List IndexConf). All (AreOf (length cs) none.workers) made.seats.items) (sym of.confs_are) sit)

  -- there is room for one more
  pub can_go_on : (indexes : ℕ) → IsNone indexes none → length confs + 1 ≤ indexes → indexes < 2 ^ 16 → CanGoOn made
  can_go_on indexes nothing more few =
      let many = as_many in
      let room : IsRoomFor indexes made.workers made.ending =
      subst (λ (w : ℕ). IsRoomFor indexes w made.ending) (sym of.workers_are) (subst (λ (e : EndingValue). IsRoomFor indexes none.workers e) (sym of.ending_is) nothing.room) in
      record {
        placed = placed_all;
        seats_are = of.seats_are ∙ ap (λ (n : ℕ). new_seats n none.workers) (sym many) ∙ ap (λ (w : ℕ). new_seats (length made.tables.items) w) (sym of.workers_are);
        some = subst (λ (w : ℕ). 0 < w) (sym of.workers_are) nothing.some;
        few = omega (arith, many);
        fits = omega (arith, many, nothing.fits, of.fits);
        room = record { indexes_fit = omega (arith, many, room.indexes_fit); workers_fit = room.workers_fit; none = room.none };
      }

  -- one more was made
  pub made_more : (conf : IndexConf) (store : Opened D) (next : Made D J) → length stores ≡ length confs → IsNext made conf store next → IsMadeOf (confs ++ conf ∷ []) (stores ++ store ∷ []) none next
  made_more conf store next long is =
      let many : length made.tables.items ≡ length stores = as_many ∙ sym long in
      record {
        confs_are = is.confs_are ∙ ap (λ (cs : List IndexConf). cs ++ conf ∷ []) of.confs_are;
        engines_are =
            is.engines_are
            ∙ ap (λ (es : List EngineValue). es ++ engine_over made.workers (length made.tables.items) store ∷ []) of.engines_are
            ∙ ap (λ (w : ℕ). map (λ e. engine_over none.workers e.0 e.1) (enumerate_from 0 stores) ++ engine_over w (length made.tables.items) store ∷ []) of.workers_are
            ∙ ap (λ (k : ℕ). map (λ e. engine_over none.workers e.0 e.1) (enumerate_from 0 stores) ++ engine_over none.workers k store ∷ []) many
            ∙ sym (engines_more none.workers stores store);
        workers_are = is.workers_are ∙ of.workers_are;
        seats_are =
            is.seats_are ∙ ap (λ (n : ℕ). new_seats n made.workers) (let n : length made.tables.items + 1 ≡ length (confs ++ conf ∷ []) = omega (arith, as_many, length-append confs (conf ∷ [])) in n)
            ∙ ap (λ (w : ℕ). new_seats (length (confs ++ conf ∷ [])) w) of.workers_are;
        ending_is = is.ending_is ∙ of.ending_is;
        fits = is.fits ∙ of.fits;
      }

  -- it stopped at the last store
  pub stops_back : (words : DiskWords D) (schema : ℕ → Schema) (base : ℕ → Base) (opened : ℕ → AtOpening) (store : Opened D) (all : List (Ended D J)) → length stores ≡ length confs → StopsAt words schema base opened made store all → ComeBack words schema base opened none.workers (stores ++ store ∷ []) all
  stops_back words schema base opened store all long stops =
      let many : length made.tables.items ≡ length stores = as_many ∙ sym long in
      record {
        many = omega (arith, stops.many, many, length-append stores (store ∷ []));
        each = λ place one ended at got.
            ⊎_elim
            (λ (has : HasEnded words schema base opened place made.workers [] (first_tokens place made.workers) ended). inr (subst (λ (w : ℕ). HasEnded words schema base opened place w [] (first_tokens place w) ended) of.workers_are has))
            (λ (here : (place ≡ length made.tables.items) × (ended.disk ≡ store.disk)).
            let last : slice_get (stores ++ store ∷ []) place ≡ Some store = get_end stores store place (here.0 ∙ many) in
            let same : store ≡ one = cc (last, at) in
            inl (here.1 ∙ ap (λ (s : Opened D). s.disk) same))
            (stops.each place ended got);
      }

-- one more stands at its place
pub placed_with : (workers : ℕ) (tables all : List TableValue) (table : TableValue) (engine : EngineValue) → ArePlaced workers (map (λ table. table.engine) tables) → all ≡ tables ++ table ∷ [] → table.engine ≡ engine → engine.index ≡ length tables → engine.workers ≡ workers → ArePlaced workers (map (λ table. table.engine) all)
placed_with workers tables all table engine placed is same index own =
    let more : map (λ (t : TableValue). t.engine) all ≡ map (λ (t : TableValue). t.engine) tables ++ engine ∷ [] =
    ap (map (λ (t : TableValue). t.engine)) is ∙ map-append (λ (t : TableValue). t.engine) tables (table ∷ []) ∙ ap (λ (e : EngineValue). map (λ (t : TableValue). t.engine) tables ++ e ∷ []) same in
    subst (ArePlaced workers) (sym more) (placed_more workers (map (λ (t : TableValue). t.engine) tables) engine placed (index ∙ sym (length-map tables (λ (t : TableValue). t.engine))) own)

-- what comes of one more
pub is_next : {D J : Type 0} (made next : Made D J) (conf : IndexConf) (store : Opened D) (table : TableValue) (place : ℕ) → next.tables.items ≡ made.tables.items ++ table ∷ [] → table ≡ record { conf = conf; engine = engine_over made.workers place store } → place ≡ length made.tables.items → next.workers ≡ made.workers → next.seats.items ≡ new_seats (place + 1) made.workers → next.ending ≡ made.ending → vec_capacity next.tables ≡ vec_capacity made.tables → IsNext made conf store next
is_next made next conf store table place is same at workers seats ending fits = record {
  confs_are = ap (map (λ (t : TableValue). t.conf)) is ∙ map-append (λ (t : TableValue). t.conf) made.tables.items (table ∷ []) ∙ ap (λ (t : TableValue). map (λ (t : TableValue). t.conf) made.tables.items ++ t.conf ∷ []) same;
  engines_are =
      ap (map (λ (t : TableValue). t.engine)) is ∙ map-append (λ (t : TableValue). t.engine) made.tables.items (table ∷ [])
      ∙ ap (λ (t : TableValue). map (λ (t : TableValue). t.engine) made.tables.items ++ t.engine ∷ []) same
      ∙ ap (λ (k : ℕ). map (λ (t : TableValue). t.engine) made.tables.items ++ engine_over made.workers k store ∷ []) at;
  workers_are = workers;
  seats_are = seats ∙ ap (λ (k : ℕ). new_seats (k + 1) made.workers) at;
  ending_is = ending;
  fits = fits;
}

module _ {D J : Type 0} (words : DiskWords D) (schema : ℕ → Schema) (base : ℕ → Base) (opened : ℕ → AtOpening) (workers : ℕ) where
  -- one disk more came back
  pub back_more : (stores : List (Opened D)) (store : Opened D) (all : List (Ended D J)) (ended : Ended D J) → ended.disk ≡ store.disk → ComeBack words schema base opened workers stores all → ComeBack words schema base opened workers (stores ++ store ∷ []) (all ++ ended ∷ [])
  back_more stores store all ended is back = record {
    many = omega (arith, back.many, length-append all (ended ∷ []), length-append stores (store ∷ []));
    each = λ place one its at got.
        ⊎_elim
        (λ (last : (place ≡ length all) × (its ≡ ended)).
        let here : slice_get (stores ++ store ∷ []) place ≡ Some store = get_end stores store place (last.0 ∙ back.many) in
        let same : store ≡ one = cc (here, at) in
        inl (ap (λ (e : Ended D J). e.disk) last.1 ∙ is ∙ ap (λ (s : Opened D). s.disk) same))
        (λ (earlier : slice_get all place ≡ Some its).
        ⊎_elim
        (λ (end : (place ≡ length stores) × (one ≡ store)). absurd (omega (arith, end.0, back.many, slice_get_within all place its earlier)))
        (λ (before : slice_get stores place ≡ Some one). back.each place one its before earlier)
        (get_more_cases stores store one place at))
        (get_more_cases all ended its place got);
  }

  -- the disks of all stores came back as they were
  pub disks_back : (stores : List (Opened D)) (all : List (Ended D J)) → map (λ (e : Ended D J). e.disk) all ≡ map (λ (s : Opened D). s.disk) stores → ComeBack words schema base opened workers stores all
  disks_back stores all same = record {
    many = sym (length-map all (λ (e : Ended D J). e.disk)) ∙ ap length same ∙ length-map stores (λ (s : Opened D). s.disk);
    each = λ place one ended at got.
        let first : slice_get (map (λ (e : Ended D J). e.disk) all) place ≡ Some ended.disk = slice_get-map (λ (e : Ended D J). e.disk) all place ∙ ap (option_map (λ (e : Ended D J). e.disk)) got in
        let two : slice_get (map (λ (s : Opened D). s.disk) stores) place ≡ Some one.disk = slice_get-map (λ (s : Opened D). s.disk) stores place ∙ ap (option_map (λ (s : Opened D). s.disk)) at in
        let both : Some ended.disk ≡ Some one.disk = sym first ∙ ap (λ (ds : List D). slice_get ds place) same ∙ two in
        inl (cc (both));
  }

module _ {D J : Type 0} (words : DiskWords D) (schema : ℕ → Schema) (base : ℕ → Base) (opened : ℕ → AtOpening) where
  -- all engines that were made ended, that of the last store too
  pub all_ended : (made : Made D J) (store : Opened D) (all : List (Ended D J)) → HaveAllEnded words schema base opened (length made.tables.items + 1) made.workers all → StopsAt words schema base opened made store all
  all_ended made store all have = record { many = have.many; each = λ place ended at. inl (have.each place ended at) }

  -- or all but that of the last store, whose disk came back as it was
  pub but_one : (made : Made D J) (store : Opened D) (all : List (Ended D J)) (ended : Ended D J) → ended.disk ≡ store.disk → HaveAllEnded words schema base opened (length made.tables.items) made.workers all → StopsAt words schema base opened made store (all ++ ended ∷ [])
  but_one made store all ended is have = record {
    many = omega (arith, have.many, length-append all (ended ∷ []));
    each = λ place its at.
        ⊎_elim
        (λ (last : (place ≡ length all) × (its ≡ ended)). inr (last.0 ∙ have.many, ap (λ (e : Ended D J). e.disk) last.1 ∙ is))
        (λ (earlier : slice_get all place ≡ Some its). inl (have.each place its earlier))
        (get_more_cases all ended its place at);
  }

  -- engines that end with seats that nobody has worked with
  pub with_first : (indexes workers : ℕ) (all : List (Ended D J)) → HaveEnded words schema base opened indexes workers (new_seats indexes workers) all → HaveAllEnded words schema base opened indexes workers all
  with_first indexes workers all have = record {
    many = have.many;
    each = λ place ended at.
        let within : place < indexes = omega (arith, have.many, slice_get_within all place ended at) in
        subst (λ (told : List Strayed). HasEnded words schema base opened place workers told (first_tokens place workers) ended) (none_told_at place indexes workers within)
        (subst (λ (tokens : List TokenValue). HasEnded words schema base opened place workers (told_at place (new_seats indexes workers)) tokens ended) (first_tokens_at place indexes workers within) (have.each place ended at));
  }

  -- and one more behind them
  pub one_more_ended : (indexes workers index own : ℕ) (all : List (Ended D J)) (ended : Ended D J) (note : FrontValue) (told : List Strayed) (tokens given new : List TokenValue) → HaveAllEnded words schema base opened indexes workers all → index ≡ indexes → own ≡ workers → told ≡ [] → given ≡ tokens → tokens ≡ first_tokens index workers → ended.note ≡ Some note
      → Closes words schema base opened index own told given ended.disk note ended.answer new → HaveAllEnded words schema base opened (indexes + 1) workers (all ++ ended ∷ [])
  one_more_ended indexes workers index own all ended note told tokens given new have index_is own_is told_is given_is tokens_are note_is closes =
      let given' : Closes words schema base opened index workers [] (first_tokens index workers) ended.disk note ended.answer new =
      subst (λ (n : List Strayed). Closes words schema base opened index workers n (first_tokens index workers) ended.disk note ended.answer new) told_is
      (subst (λ (ts : List TokenValue). Closes words schema base opened index workers told ts ended.disk note ended.answer new) (given_is ∙ tokens_are)
      (subst (λ (w : ℕ). Closes words schema base opened index w told given ended.disk note ended.answer new) own_is closes)) in
      record {
        many = omega (arith, have.many, length-append all (ended ∷ []));
        each = λ place its at.
            ⊎_elim
            (λ (last : (place ≡ length all) × (its ≡ ended)).
            let here : index ≡ place = omega (arith, index_is, last.0, have.many) in
            subst (λ (e : Ended D J). HasEnded words schema base opened place workers [] (first_tokens place workers) e) (sym last.1)
            (subst (λ (i : ℕ). HasEnded words schema base opened i workers [] (first_tokens i workers) ended) here (note, note_is, new, given')))
            (λ (earlier : slice_get all place ≡ Some its). have.each place its earlier)
            (get_more_cases all ended its place at);
      }

-- room for fewer
none_less : {D J : Type 0} (none : Made D J) (indexes fewer : ℕ) → fewer ≤ indexes → IsNone indexes none → IsNone fewer none
none_less none indexes fewer less is = record {
  tables_are = is.tables_are;
  seats_are = is.seats_are;
  some = is.some;
  fits = omega (arith, is.fits);
  room = record { indexes_fit = omega (arith, is.room.indexes_fit); workers_fit = is.room.workers_fit; none = is.room.none };
}

module _ {D J : Type 0} (words : DiskWords D) (book faults stops : ℕ → Book) (schema : ℕ → Schema) (base : ℕ → Base) (opened : ℕ → AtOpening) (confs before : List IndexConf) (conf : IndexConf) (stores earlier : List (Opened D)) (store : Opened D) (none : Made D J) (confs_is : confs ≡ before ++ conf ∷ []) (stores_is : stores ≡ earlier ++ store ∷ []) (can : CanBeMade words book faults stops schema base opened confs stores none) where
  named_all : AreNamed words book faults stops schema base opened (before ++ conf ∷ []) (earlier ++ store ∷ [])
  named_all =
      subst (λ (cs : List IndexConf). AreNamed words book faults stops schema base opened cs (earlier ++ store ∷ [])) confs_is
      (subst (λ (ss : List (Opened D)). AreNamed words book faults stops schema base opened confs ss) stores_is can.named)

  served_all : AreServed (before ++ conf ∷ [])
  served_all = subst AreServed confs_is can.served

  one_less : length before + 1 ≡ length confs
  one_less = omega (arith, ap length confs_is, length-append before (conf ∷ []))

  -- those before the last one can be made
  pub fewer_can_be_made : CanBeMade words book faults stops schema base opened before earlier none
  fewer_can_be_made = record {
    nothing = none_less none (length confs) (length before) (omega (arith, one_less)) can.nothing;
    named = named_before words book faults stops schema base opened before earlier conf store named_all;
    served = served_before words book faults stops schema base opened before earlier conf store served_all;
  }

  -- as many stores as configurations are left
  pub left_alike : length earlier ≡ length before
  left_alike = as_long words book faults stops schema base opened before earlier conf store named_all

  -- the last one is named, behind those that were made
  pub last_is_named : (made : Made D J) → IsMadeOf before earlier none made → IsNamedAt words book faults stops schema base opened (length made.tables.items) conf store
  last_is_named made of =
      subst (λ (k : ℕ). IsNamedAt words book faults stops schema base opened k conf store) (sym (as_many before earlier none made of)) (named_last words book faults stops schema base opened before earlier conf store named_all served_all)

  -- and there is room for it
  pub room_for_last : (made : Made D J) → IsMadeOf before earlier none made → CanGoOn made
  room_for_last made of = can_go_on before earlier none made of (length confs) can.nothing (omega (arith, one_less)) can.served.few

module _ {D J : Type 0} (words : DiskWords D) (schema : ℕ → Schema) (base : ℕ → Base) (opened : ℕ → AtOpening) (confs before : List IndexConf) (conf : IndexConf) (stores earlier : List (Opened D)) (store : Opened D) (none : Made D J) (confs_is : confs ≡ before ++ conf ∷ []) (stores_is : stores ≡ earlier ++ store ∷ []) where
  as_given : (result : Making D J) → Makes words schema base opened (before ++ conf ∷ []) (earlier ++ store ∷ []) none result → Makes words schema base opened confs stores none result
  as_given result makes =
      subst (λ (cs : List IndexConf). Makes words schema base opened cs stores none result) (sym confs_is) (subst (λ (ss : List (Opened D)). Makes words schema base opened (before ++ conf ∷ []) ss none result) (sym stores_is) makes)

  -- all are made with the last one
  pub makes_all : (made : Made D J) (result : Making D J) → length earlier ≡ length before → IsMadeOf before earlier none made → MakesOne words schema base opened made conf store result → Makes words schema base opened confs stores none result
  makes_all made (Going next) long of one = as_given (Going next) (made_more before earlier none made of conf store next long one)
  makes_all made (Stopped ended) long of one =
      as_given (Stopped ended) (stops_back before earlier none made of words schema base opened store ended.items long one.0, omega (arith, one.1, ap (λ (e : EndingValue). e.indexes) of.ending_is))

  -- it had stopped before the last one
  pub makes_back : (ended left : Vec (Ended D J) Global) (last : Ended D J) → last.disk ≡ store.disk → left.items ≡ ended.items ++ last ∷ [] → vec_capacity left ≡ vec_capacity ended → ComeBack words schema base opened none.workers earlier ended.items × (none.ending.indexes ≤ vec_capacity ended) → Makes words schema base opened confs stores none (Stopped left)
  makes_back ended left last is items capacity back =
      as_given (Stopped left) (
        subst (λ (es : List (Ended D J)). ComeBack words schema base opened none.workers (earlier ++ store ∷ []) es) (sym items) (back_more words schema base opened none.workers earlier store ended.items last is back.0),
        omega (arith, back.1, capacity),
      )
