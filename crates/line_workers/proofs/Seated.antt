-- Seats before the workers begin, once they have ended, and once their tokens were collected.
use Rattle.std.proofs.Common.{◌≡◌, ⊎_elim, ℕ, zero, suc, ◌+◌, ◌≤◌, ◌<◌, ◌==◌, false, List, [], ◌∷◌, ◌++◌, length, map, Option, Some, get_or, slice_get, refl, sym, ap, subst, ◌∙◌, arith, length-append}
use Rattle.std.specs.Prelude.{All}
use Rattle.std.specs.List.{AllByRecursion, AllZip, IsDistinct}
use Rattle.std.specs.Option.{option_map, option_to_list}
use Rattle.std.proofs.lemmas.Bool.{cases_lt, ne_eqb}
use Rattle.std.proofs.lemmas.List.{length-map}
use Rattle.std.proofs.lemmas.List.Elements.{All-from_recursion}
use Rattle.std.proofs.lemmas.Option.{get_or_from_slice_get, slice_get-get_or, slice_get-map, slice_get_within}
use Rattle.srch_base.specs.declared.door.Door.{Ghosts as DoorWords}
use Rattle.srch_base.specs.declared.link.Link.{Ghosts as LinkWords}
use Rattle.chunk_store.specs.declared.disk.Disk.{Ghosts as DiskWords}
use Rattle.doc_types.specs.declared.schema.Schema.{Schema}
use Rattle.step_book.specs.Fronts.{FrontValue}
use Rattle.step_book.proofs.Prefixes.{prefix_get}
use Rattle.step_book.specs.Tellings.{AtOpening}
use Rattle.step_history.specs.History.{Base}
use Rattle.engine_tables.specs.Endings.{HaveEnded}
use Rattle.engine_tables.specs.Engines.{EnginesValue}
use Rattle.engine_tables.specs.Tokens.{SeatsDiffer, SitsAt, TokensValue, new_seat, new_seats, tokens_at}
use Rattle.engine_tables.specs.Workers.{by_tokens}
use Rattle.engine_tables.specs.declared.ended.Ended.{Ended}
use Rattle.line_workers.specs.Lines.{Service, ServesDoor}
use Rattle.line_workers.specs.Seats.{AreReady}
use Rattle.line_workers.specs.Attempts.{events_of}
use Rattle.line_workers.specs.Served.{IsServed}
use Rattle.line_workers.specs.Strayings.{RestsOn}
use Rattle.line_workers.specs.Workers.{AllWork, Works, first_tokens}
use Rattle.line_workers.specs.declared.seat.Seat.{Seat}
use Rattle.line_workers.specs.declared.serving.SeatEnd.{SeatEnd}
use Rattle.line_workers.specs.steps.Working.{CanWork, HasWorked, IsSameSeat, collected}
use Rattle.line_workers.proofs.Places.{get_last, some_is}
use Rattle.line_workers.proofs.Doubting.{all_settle}
use Rattle.line_workers.proofs.Fitting.{all_fit, all_stop}
use Rattle.line_workers.proofs.Resting.{all_rest}
use Rattle.line_workers.proofs.Whole.{many_tokens, one_history}

many_seats : (indexes workers : ℕ) → length (new_seats indexes workers) ≡ workers
many_seats indexes zero = refl
many_seats indexes (suc workers) =
    let m = many_seats indexes workers in
    omega (arith, m, length-append (new_seats indexes workers) (new_seat indexes (suc workers) ∷ []))

abbrev tokens_of : ℕ → ℕ → TokensValue
tokens_of indexes worker = new_seat indexes worker

-- the first tokens of the worker at a place
seat_at : (indexes workers place : ℕ) → place < workers → slice_get (new_seats indexes workers) place ≡ Some (tokens_of indexes (place + 1))
seat_at indexes zero place below = absurd (omega arith)
seat_at indexes (suc workers) place below =
    ⊎_elim
    (λ (less : place < workers).
    prefix_get (new_seats indexes workers) (new_seats indexes (suc workers)) place (tokens_of indexes (place + 1)) (tokens_of indexes (suc workers) ∷ [], refl) (seat_at indexes workers place less))
    (λ (up : workers ≤ place).
    let here : place ≡ workers = omega arith in
    let next : suc workers ≡ place + 1 = omega (arith, here) in
    let size : length (new_seats indexes workers) ≡ place = many_seats indexes workers ∙ sym here in
    subst (λ (w : ℕ). slice_get (new_seats indexes (suc workers)) place ≡ Some (tokens_of indexes w)) next
    (subst (λ (k : ℕ). slice_get (new_seats indexes (suc workers)) k ≡ Some (tokens_of indexes (suc workers))) size (get_last (new_seats indexes workers) (tokens_of indexes (suc workers)))))
    (cases_lt place workers)

all_by_places : {X : Type 0} (P : X → Type 0) (xs : List X) → ((place : ℕ) (x : X) → slice_get xs place ≡ Some x → P x) → All P xs
all_by_places P xs each = λ k d below. each k (get_or xs k d) (slice_get-get_or xs k d below)

place_of_all : {X : Type 0} (P : X → Type 0) (xs : List X) (place : ℕ) (x : X) → All P xs → slice_get xs place ≡ Some x → P x
place_of_all {X} P xs place x all at = subst (λ (y : X). P y) (get_or_from_slice_get xs place x x at) (all place x (slice_get_within xs place x at))

-- so many numbers from this one on
up_from : ℕ → ℕ → List ℕ
up_from first zero = []
up_from first (suc count) = first ∷ up_from (first + 1) count

all_above : (low first count : ℕ) → low < first → AllByRecursion (λ (n : ℕ). (low == n) ≡ false) (up_from first count)
unfolding up_from
all_above low first zero less = tt
all_above low first (suc count) less = (ne_eqb low first (λ same. absurd (omega (arith, less, same))), all_above low (first + 1) count (omega (arith, less)))

up_differ : (first count : ℕ) → IsDistinct (λ (one other : ℕ). one == other) (up_from first count)
unfolding up_from IsDistinct
up_differ first zero = tt
up_differ first (suc count) = (all_above first (first + 1) count (omega arith), up_differ (first + 1) count)

module _ {E K J : Type 0} (door : DoorWords E K) (link : LinkWords K) (schema : ℕ → Schema) (base : ℕ → Base) (engines : EnginesValue) (sessions : ℕ) where
  pub all_seated : (seats : List (Seat E J K)) → AreReady door engines sessions seats → length seats ≡ engines.workers
  all_seated seats ready =
      sym (length-map seats (λ (seat : Seat E J K). seat.tokens)) ∙ ap length ready.tokens ∙ length-map (new_seats (length engines.confs) engines.workers) Some ∙ many_seats (length engines.confs) engines.workers

  -- the worker at a place has its first tokens
  begins_with : (seats : List (Seat E J K)) → AreReady door engines sessions seats → (place : ℕ) (seat : Seat E J K) → slice_get seats place ≡ Some seat → seat.tokens ≡ Some (first_tokens engines.confs (place + 1))
  begins_with seats ready place seat at =
      let news = new_seats (length engines.confs) engines.workers in
      let below : place < engines.workers = omega (arith, slice_get_within seats place seat at, all_seated seats ready) in
      let left : slice_get (map (λ (s : Seat E J K). s.tokens) seats) place ≡ Some (seat.tokens) = slice_get-map (λ (s : Seat E J K). s.tokens) seats place ∙ ap (option_map (λ (s : Seat E J K). s.tokens)) at in
      let right : slice_get (map Some news) place ≡ Some (Some (first_tokens engines.confs (place + 1))) =
      slice_get-map Some news place ∙ ap (option_map Some) (seat_at (length engines.confs) engines.workers place below) in
      some_is (seat.tokens) (Some (first_tokens engines.confs (place + 1))) (sym left ∙ ap (λ (ts : List (Option TokensValue)). slice_get ts place) ready.tokens ∙ right)

  pub can_work : (seats : List (Seat E J K)) → AreReady door engines sessions seats → All (CanWork door engines) seats
  can_work seats ready = all_by_places (CanWork door engines) seats (λ place seat at.
      let below : place < engines.workers = omega (arith, slice_get_within seats place seat at, all_seated seats ready) in
      record {
        had = first_tokens engines.confs (place + 1);
        is = begins_with seats ready place seat at;
        sits = record { many = many_tokens (place + 1) (length engines.confs); above = omega arith; within = omega arith };
        within = place_of_all (λ (s : Seat E J K). length (door.returned s.door) ≤ length (door.given s.door)) seats place seat ready.doors at;
      })

  abbrev Worked : Seat E J K → Seat E J K → Type 0
  Worked = HasWorked door link schema base engines sessions

  services_of : (olds mids : List (Seat E J K)) → AllZip Worked olds mids → List (List (Service K FrontValue))
  services_of [] mids all = []
  services_of (old ∷ olds) [] all = []
  services_of (old ∷ olds) (mid ∷ mids) all = all.0.services ∷ services_of olds mids all.1

  lefts_of : (olds mids : List (Seat E J K)) → AllZip Worked olds mids → List TokensValue
  lefts_of [] mids all = []
  lefts_of (old ∷ olds) [] all = []
  lefts_of (old ∷ olds) (mid ∷ mids) all = all.0.left ∷ lefts_of olds mids all.1

  collects : (olds mids : List (Seat E J K)) (all : AllZip Worked olds mids) → collected mids ≡ lefts_of olds mids all
  unfolding lefts_of
  collects [] [] all = refl
  collects [] (mid ∷ mids) all = absurd all
  collects (old ∷ olds) [] all = absurd all
  collects (old ∷ olds) (mid ∷ mids) all =
      ap (λ (o : Option TokensValue). option_to_list o ++ collected mids) all.0.leaves ∙ ap (λ (ls : List TokensValue). all.0.left ∷ ls) (collects olds mids all.1)

  sit_left : (olds mids : List (Seat E J K)) (all : AllZip Worked olds mids) → AllByRecursion (SitsAt engines) (lefts_of olds mids all)
  unfolding lefts_of
  sit_left [] mids all = tt
  sit_left (old ∷ olds) [] all = tt
  sit_left (old ∷ olds) (mid ∷ mids) all = (all.0.sits, sit_left olds mids all.1)

  pub sit_all : (olds mids : List (Seat E J K)) → AllZip Worked olds mids → All (SitsAt engines) (collected mids)
  sit_all olds mids all = subst (λ (ls : List TokensValue). All (SitsAt engines) ls) (sym (collects olds mids all)) (All-from_recursion (SitsAt engines) (lefts_of olds mids all) (sit_left olds mids all))

  -- each is another worker's: they are numbered in their order
  numbered : (worker : ℕ) (olds mids : List (Seat E J K)) (all : AllZip Worked olds mids) → ((place : ℕ) (seat : Seat E J K) → slice_get olds place ≡ Some seat → seat.tokens ≡ Some (first_tokens engines.confs (worker + place)))
      → map (λ (t : TokensValue). t.worker) (lefts_of olds mids all) ≡ up_from worker (length olds)
  unfolding lefts_of up_from
  numbered worker [] [] all first = refl
  numbered worker [] (mid ∷ mids) all first = absurd all
  numbered worker (old ∷ olds) [] all first = absurd all
  numbered worker (old ∷ olds) (mid ∷ mids) all first =
      let had : all.0.had ≡ first_tokens engines.confs (worker + 0) = some_is all.0.had (first_tokens engines.confs (worker + 0)) (sym all.0.is ∙ first 0 old refl) in
      let own : all.0.left.worker ≡ worker = all.0.own ∙ ap (λ (t : TokensValue). t.worker) had ∙ omega arith in
      ap (λ (w : ℕ). w ∷ map (λ (t : TokensValue). t.worker) (lefts_of olds mids all.1)) own
      ∙ ap (λ (ws : List ℕ). worker ∷ ws) (numbered (worker + 1) olds mids all.1 (λ place seat at. subst (λ (w : ℕ). seat.tokens ≡ Some (first_tokens engines.confs w)) (omega arith) (first (suc place) seat at)))

  pub differ_all : (olds mids : List (Seat E J K)) → AreReady door engines sessions olds → AllZip Worked olds mids → SeatsDiffer (collected mids)
  differ_all olds mids ready all =
      subst SeatsDiffer (sym (collects olds mids all)) (record {
        apart = subst (λ (ws : List ℕ). IsDistinct (λ (one other : ℕ). one == other) ws)
            (sym (numbered 1 olds mids all (λ place seat at. subst (λ (w : ℕ). seat.tokens ≡ Some (first_tokens engines.confs w)) (omega arith) (begins_with olds ready place seat at)))) (up_differ 1 (length olds));
      })

  -- a worker that began with its first tokens, once these were taken away
  works_first : (worker : ℕ) (old mid new : Seat E J K) (worked : Worked old mid) → IsSameSeat mid new → old.tokens ≡ Some (first_tokens engines.confs worker)
      → Works door link schema base engines.confs engines.workers sessions worked.services (first_tokens engines.confs worker) worked.left old new
  works_first worker old mid new worked same first =
      let had : worked.had ≡ first_tokens engines.confs worker = some_is worked.had (first_tokens engines.confs worker) (sym worked.is ∙ first) in
      let works : Works door link schema base engines.confs engines.workers sessions worked.services (first_tokens engines.confs worker) worked.left old mid =
      subst (λ (t : TokensValue). Works door link schema base engines.confs engines.workers sessions worked.services t worked.left old mid) had worked.works in
      record {
        serves = subst (λ (d : E). ServesDoor door link (λ tables. tables.confs) (by_tokens schema base) engines.workers worker sessions worked.services old.door d new.end (record { confs = engines.confs; tokens = first_tokens engines.confs worker }) (record { confs = engines.confs; tokens = worked.left })) (sym same.door)
            (subst (λ (e : SeatEnd). ServesDoor door link (λ tables. tables.confs) (by_tokens schema base) engines.workers worker sessions worked.services old.door mid.door e (record { confs = engines.confs; tokens = first_tokens engines.confs worker }) (record { confs = engines.confs; tokens = worked.left })) (sym same.end) works.serves);
        fronts = works.fronts;
        counts = works.counts;
        told = works.told;
      }

  all_work : (worker : ℕ) (olds mids news : List (Seat E J K)) (all : AllZip Worked olds mids) → AllZip IsSameSeat mids news → ((place : ℕ) (seat : Seat E J K) → slice_get olds place ≡ Some seat → seat.tokens ≡ Some (first_tokens engines.confs (worker + place)))
      → AllWork door link schema base engines.confs engines.workers sessions worker (services_of olds mids all) (lefts_of olds mids all) olds news
  unfolding services_of lefts_of
  all_work worker [] [] [] all same first = tt
  all_work worker [] [] (new ∷ news) all same first = absurd same
  all_work worker [] (mid ∷ mids) news all same first = absurd all
  all_work worker (old ∷ olds) [] news all same first = absurd all
  all_work worker (old ∷ olds) (mid ∷ mids) [] all same first = absurd same
  all_work worker (old ∷ olds) (mid ∷ mids) (new ∷ news) all same first = (
    works_first worker old mid new all.0 same.0 (subst (λ (w : ℕ). old.tokens ≡ Some (first_tokens engines.confs w)) (omega arith) (first 0 old refl)),
    all_work (worker + 1) olds mids news all.1 same.1 (λ place seat at. subst (λ (w : ℕ). seat.tokens ≡ Some (first_tokens engines.confs w)) (omega arith) (first (suc place) seat at)),
  )

  -- All workers have worked, their tokens were collected, and each engine has ended with them.
  pub served_so : {D : Type 0} (disk : DiskWords D) (opened : ℕ → AtOpening) (olds mids news : List (Seat E J K)) (ends : List (Ended D J)) → AreReady door engines sessions olds → AllZip Worked olds mids → AllZip IsSameSeat mids news
      → HaveEnded disk schema base opened (length engines.confs) engines.workers (collected mids) ends → IsServed disk door link schema base opened engines.confs sessions olds news ends
  served_so disk opened olds mids news ends ready all same ended =
      let many : length olds ≡ engines.workers = all_seated olds ready in
      let lefts : List TokensValue = lefts_of olds mids all in
      let works : AllWork door link schema base engines.confs engines.workers sessions 1 (services_of olds mids all) lefts olds news =
      all_work 1 olds mids news all same (λ place seat at. subst (λ (w : ℕ). seat.tokens ≡ Some (first_tokens engines.confs w)) (omega arith) (begins_with olds ready place seat at)) in
      let over : HaveEnded disk schema base opened (length engines.confs) engines.workers lefts ends = subst (λ (ls : List TokensValue). HaveEnded disk schema base opened (length engines.confs) engines.workers ls ends) (collects olds mids all) ended in
      record {
        services = services_of olds mids all;
        left = lefts;
        works = subst (λ (n : ℕ). AllWork door link schema base engines.confs n sessions 1 (services_of olds mids all) lefts olds news) (sym many) works;
        ended = subst (λ (n : ℕ). HaveEnded disk schema base opened (length engines.confs) n lefts ends) (sym many) over;
        histories = λ index end note at told unstrayed. one_history J door link schema base engines.confs engines.workers sessions disk opened (services_of olds mids all) lefts olds news ends many works over index end note at told unstrayed;
        strays = λ index end at.
            subst (λ (n : ℕ). RestsOn disk (schema index) (base index) index n (tokens_at index lefts) (map events_of (services_of olds mids all)) end.disk end.note end.answer) (sym many)
            (all_rest disk door link schema base opened engines.confs engines.workers sessions (services_of olds mids all) lefts olds news ends works over index end at);
        settled = λ index end note at told. all_settle disk door link schema base opened engines.confs engines.workers sessions (services_of olds mids all) lefts olds news ends works over index end note at told;
        faults = λ index end at. all_fit disk door link schema base opened engines.confs engines.workers sessions (services_of olds mids all) lefts olds news ends works over index end at;
        stops = λ index end note at told answered. all_stop disk door link schema base opened engines.confs engines.workers sessions (services_of olds mids all) lefts olds news ends works over index end note at told answered;
      }
