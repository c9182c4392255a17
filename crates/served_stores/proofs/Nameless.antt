-- What is said of seats and of what is left of engines depends on no names.
use Rattle.std.proofs.Common.{◌≡◌, inl, inr, ℕ, zero, suc, ◌+◌, List, [], ◌∷◌, Some, refl, sym, ap, subst, ◌∙◌, length, map, slice_get}
use Rattle.std.specs.Prelude.{Bool, Err, None, ◌||◌}
use Rattle.std.proofs.lemmas.List.{length-map}
use Rattle.chunk_store.specs.declared.disk.Disk.{Ghosts as DiskWords}
use Rattle.doc_types.specs.declared.schema.Schema.{Schema}
use Rattle.engine_tables.specs.Endings.{ComeBack, ComesBack, HasEnded, HaveEnded}
use Rattle.engine_tables.specs.Tokens.{TokensValue, told_at, tokens_at}
use Rattle.engine_tables.specs.declared.ended.Ended.{Ended}
use Rattle.index_conf.specs.declared.conf.IndexConf.{IndexConf}
use Rattle.line_workers.specs.Attempts.{events_of}
use Rattle.line_workers.specs.Lines.{Service}
use Rattle.line_workers.specs.Served.{IsServed}
use Rattle.line_workers.specs.Faults.{FaultsFit, StopsFit}
use Rattle.line_workers.specs.Strayings.{IsUnstrayed, RestsOn}
use Rattle.line_workers.specs.Workers.{AllWork}
use Rattle.line_workers.specs.declared.seat.Seat.{Seat}
use Rattle.srch_base.specs.declared.door.Door.{Ghosts as DoorWords}
use Rattle.srch_base.specs.declared.faults.Or.{Or}
use Rattle.srch_base.specs.declared.link.Link.{Ghosts as LinkWords}
use Rattle.step_book.specs.Fronts.{FrontValue}
use Rattle.step_book.specs.Tellings.{AtOpening}
use Rattle.step_history.specs.History.{Base}
use Rattle.store_keep.specs.declared.opening.Opened.{Opened}
use Rattle.served_stores.specs.Serving.{AnyEnded, AnySeat, end_of, is_failed, some_failed}

-- a seat, and what is left of an engine, without their names
abbrev pub any_seat : {E K J : Type 0} → Seat E J K → AnySeat E K
any_seat seat = record { door = seat.door; tokens = seat.tokens; end = seat.end }

abbrev pub any_ended : {D J : Type 0} → Ended D J → AnyEnded D
any_ended ended = record { disk = ended.disk; note = ended.note; answer = ended.answer }

-- what stands at a place of a list that is a map of another one
pub mapped_at : {A B : Type 0} (f : A → B) (xs : List A) (place : ℕ) (y : B) → slice_get (map f xs) place ≡ Some y → (x : A) × (slice_get xs place ≡ Some x) × (f x ≡ y)
mapped_at f [] place y at = absurd (cc at)
mapped_at f (x ∷ xs) zero y at = (x, refl, cc at)
mapped_at f (x ∷ xs) (suc place) y at = mapped_at f xs place y at

-- seats have the same doors, whatever the names are
pub same_doors : {E K J : Type 0} (seats : List (Seat E J K)) → map (λ (seat : AnySeat E K). seat.door) (map any_seat seats) ≡ map (λ (seat : Seat E J K). seat.door) seats
same_doors [] = refl
same_doors (seat ∷ seats) = ap (λ (list : List _). seat.door ∷ list) (same_doors seats)

-- and ends are the same
pub same_ends : {D J : Type 0} (ended : List (Ended D J)) → map end_of (map any_ended ended) ≡ map end_of ended
same_ends [] = refl
same_ends (e ∷ ended) = ap (λ (list : List _). end_of e ∷ list) (same_ends ended)

-- and the same doors failed
pub same_failed : {E K J : Type 0} (seats : List (Seat E J K)) → some_failed (map any_seat seats) ≡ some_failed seats
same_failed [] = refl
same_failed (seat ∷ seats) = ap (λ (rest : Bool). is_failed seat.end || rest) (same_failed seats)

module _ {E K J : Type 0} (door : DoorWords E K) (link : LinkWords K) (schema : ℕ → Schema) (base : ℕ → Base) (confs : List IndexConf) where
  -- Workers worked the same, whatever the names are.
  all_work_any : (workers sessions worker : ℕ) (services : List (List (Service K FrontValue))) (lefts : List TokensValue) (olds news : List (Seat E J K)) → AllWork door link schema base confs workers sessions worker services lefts olds news
      → AllWork door link schema base confs workers sessions worker services lefts (map any_seat olds) (map any_seat news)
  all_work_any workers sessions worker [] [] [] [] work = tt
  all_work_any workers sessions worker [] [] [] (n ∷ news) work = absurd work
  all_work_any workers sessions worker [] [] (o ∷ olds) news work = absurd work
  all_work_any workers sessions worker [] (l ∷ lefts) olds news work = absurd work
  all_work_any workers sessions worker (s ∷ services) [] olds news work = absurd work
  all_work_any workers sessions worker (s ∷ services) (l ∷ lefts) [] news work = absurd work
  all_work_any workers sessions worker (s ∷ services) (l ∷ lefts) (o ∷ olds) [] work = absurd work
  all_work_any workers sessions worker (s ∷ services) (l ∷ lefts) (o ∷ olds) (n ∷ news) work = (
    record { serves = work.0.serves; fronts = work.0.fronts; counts = work.0.counts; told = work.0.told },
    all_work_any workers sessions (worker + 1) services lefts olds news work.1,
  )

  -- All were served, whatever the names are.
  pub served_any : {D : Type 0} (disk : DiskWords D) (opened : ℕ → AtOpening) (sessions : ℕ) (olds news : List (Seat E J K)) (ends : List (Ended D J)) → IsServed disk door link schema base opened confs sessions olds news ends
      → IsServed disk door link schema base opened confs sessions (map any_seat olds) (map any_seat news) (map any_ended ends)
  served_any {D} disk opened sessions olds news ends is =
      let many : length (map any_seat olds) ≡ length olds = length-map olds any_seat in
      let each : (n : ℕ) → HaveEnded disk schema base opened (length confs) n is.left ends → HaveEnded disk schema base opened (length confs) n is.left (map any_ended ends) = λ n ended. record {
        many = length-map ends any_ended ∙ ended.many;
        each = λ place end at.
            let found = mapped_at any_ended ends place end at in
            subst (λ (e : AnyEnded D). HasEnded disk schema base opened place n (told_at place is.left) (tokens_at place is.left) e) found.2 (ended.each place found.0 found.1);
      } in
      record {
        services = is.services;
        left = is.left;
        works = subst (λ (n : ℕ). AllWork door link schema base confs n sessions 1 is.services is.left (map any_seat olds) (map any_seat news)) (sym many)
            (all_work_any (length olds) sessions 1 is.services is.left olds news is.works);
        ended = subst (λ (n : ℕ). HaveEnded disk schema base opened (length confs) n is.left (map any_ended ends)) (sym many) (each (length olds) is.ended);
        histories = λ index end note at noted well.
            let found = mapped_at any_ended ends index end at in
            is.histories index found.0 note found.1 (ap (λ (e : AnyEnded D). e.note) found.2 ∙ noted) (subst (λ (e : AnyEnded D). IsUnstrayed e.answer) (sym found.2) well);
        settled = λ index end note at noted.
            let found = mapped_at any_ended ends index end at in
            is.settled index found.0 note found.1 (ap (λ (e : AnyEnded D). e.note) found.2 ∙ noted);
        strays = λ index end at.
            let found = mapped_at any_ended ends index end at in
            subst (λ (n : ℕ). RestsOn disk (schema index) (base index) index n (tokens_at index is.left) (map events_of is.services) end.disk end.note end.answer) (sym many)
            (subst (λ (e : AnyEnded D). RestsOn disk (schema index) (base index) index (length olds) (tokens_at index is.left) (map events_of is.services) e.disk e.note e.answer) found.2 (is.strays index found.0 found.1));
        faults = λ index end at.
            let found = mapped_at any_ended ends index end at in
            subst (λ (e : AnyEnded D). FaultsFit (opened index) index (map events_of is.services) (disk.faults e.disk)) found.2 (is.faults index found.0 found.1);
        stops = λ index end note at noted answered.
            let found = mapped_at any_ended ends index end at in
            subst (λ (e : AnyEnded D). StopsFit (opened index) index note.steps (map events_of is.services) (disk.faults e.disk)) found.2
            (is.stops index found.0 note found.1 (ap (λ (e : AnyEnded D). e.note) found.2 ∙ noted) (ap (λ (e : AnyEnded D). e.answer) found.2 ∙ answered));
      }

-- What came back did, whatever the names are.
pub back_any : {D J : Type 0} (disk : DiskWords D) (schema : ℕ → Schema) (base : ℕ → Base) (opened : ℕ → AtOpening) (workers : ℕ) (stores : List (Opened D)) (all : List (Ended D J)) → ComeBack disk schema base opened workers stores all
    → ComeBack disk schema base opened workers stores (map any_ended all)
back_any {D} {J} disk schema base opened workers stores all back = record {
  many = length-map all any_ended ∙ back.many;
  each = λ place store ended of at.
      let found = mapped_at any_ended all place ended at in
      subst (λ (e : AnyEnded D). ComesBack disk schema base opened workers place store e) found.2 (come place store found.0 (back.each place store found.0 of found.1));
}
  where
    come : (place : ℕ) (store : Opened D) (ended : Ended D J) → ComesBack disk schema base opened workers place store ended → ComesBack disk schema base opened workers place store (any_ended ended)
    come place store ended (inl same) = inl same
    come place store ended (inr closed) = inr closed

-- the disk of a store that wasn't served
abbrev pub unserved_of : {D : Type 0} → Opened D → AnyEnded D
unserved_of store = record { disk = store.disk; note = None; answer = Err Or.NoMemory }

-- these are what is left of such stores
pub unserved_ends : {D : Type 0} (stores : List (Opened D)) → map end_of (map unserved_of stores) ≡ map (λ (store : Opened D). record { disk = store.disk; answer = Err Or.NoMemory }) stores
unserved_ends [] = refl
unserved_ends (store ∷ stores) = ap (λ (list : List _). end_of (unserved_of store) ∷ list) (unserved_ends stores)

-- each of these disks came back as it was opened
pub unserved_back : {D : Type 0} (disk : DiskWords D) (schema : ℕ → Schema) (base : ℕ → Base) (opened : ℕ → AtOpening) (workers : ℕ) (stores : List (Opened D)) → ComeBack disk schema base opened workers stores (map unserved_of stores)
unserved_back {D} disk schema base opened workers stores = record {
  many = length-map stores unserved_of;
  each = λ place store ended of at.
      let found = mapped_at unserved_of stores place ended at in
      let same : found.0 ≡ store = cc (found.1, of) in
      inl (ap (λ (e : AnyEnded D). e.disk) (sym found.2) ∙ ap (λ (o : Opened D). o.disk) same);
}
