-- What it rests on that the history of an index strayed: what its workers were told is what the events of their lines tell.
use Rattle.std.proofs.Common.{◌≡◌, inl, inr, ⊎_elim, ℕ, zero, suc, ◌+◌, ◌≤◌, ◌<◌, List, [], ◌∷◌, ◌++◌, length, map, Option, Some, None, Result, Ok, Err, slice_get, refl, sym, ap, subst, ◌∙◌, arith, length-append}
use Rattle.std.specs.List.{Contains, flat_map}
use Rattle.std.specs.Option.{option_to_list}
use Rattle.std.proofs.lemmas.Bool.{cases_lt}
use Rattle.std.proofs.lemmas.List.Elements.{All-cons, All-nil, Contains-append_cases}
use Rattle.std.proofs.lemmas.Option.{slice_get_within}
use Rattle.srch_base.specs.declared.door.Door.{Ghosts as DoorWords}
use Rattle.srch_base.specs.declared.faults.Or.{Or}
use Rattle.srch_base.specs.declared.faults.Or.TheVariants as causes
use Rattle.srch_base.specs.declared.link.Link.{Ghosts as LinkWords}
use Rattle.chunk_store.specs.declared.disk.Disk.{Ghosts as DiskWords}
use Rattle.commit_outcomes.specs.declared.strayed.Strayed.{Strayed}
use Rattle.doc_types.specs.declared.schema.Schema.{Schema}
use Rattle.index_conf.specs.declared.conf.IndexConf.{IndexConf}
use Rattle.snap_share.specs.Closings.{Closes}
use Rattle.store_keep.specs.Tellings.{first_stray}
use Rattle.step_book.specs.Fronts.{FrontValue}
use Rattle.step_book.proofs.Prefixes.{prefix_get}
use Rattle.step_book.specs.Tellings.{AtOpening}
use Rattle.step_history.specs.History.{Base}
use Rattle.step_line.specs.Lines.{LineValue}
use Rattle.step_tokens.specs.Tokens.{TokenValue}
use Rattle.ql_session.specs.Events.{Event}
use Rattle.engine_tables.specs.Endings.{HaveEnded}
use Rattle.engine_tables.specs.Tokens.{TokensValue, none_told, told_at, told_of, tokens_at}
use Rattle.engine_tables.specs.declared.ended.Ended.{Ended}
use Rattle.line_workers.specs.Attempts.{events_of, told_by}
use Rattle.line_workers.specs.Lines.{Service}
use Rattle.line_workers.specs.Strayings.{IsTold, NoneTold, RestsOn}
use Rattle.line_workers.specs.Workers.{AllWork, Works, first_tokens}
use Rattle.line_workers.specs.declared.seat.Seat.{Seat}
use Rattle.line_workers.proofs.Places.{get_last}
use Rattle.line_workers.proofs.Telling.{events_tell}
use Rattle.line_workers.proofs.Whole.{worker_follows}

many_told : (n : ℕ) → length (none_told n) ≡ n
many_told zero = refl
many_told (suc n) = let m = many_told n in omega (arith, m, length-append (none_told n) (None ∷ []))

-- nothing was told of an index that is there
first_told : (n i : ℕ) → i < n → slice_get (none_told n) i ≡ Some None
first_told zero i below = absurd (omega arith)
first_told (suc n) i below =
    ⊎_elim
    (λ (less : i < n). prefix_get (none_told n) (none_told (suc n)) i None (None ∷ [], refl) (first_told n i less))
    (λ (up : n ≤ i).
    let same : i ≡ n = omega arith in
    subst (λ (k : ℕ). slice_get (none_told (suc n)) k ≡ Some None) (sym same)
    (subst (λ (k : ℕ). slice_get (none_told (suc n)) k ≡ Some None) (many_told n) (get_last (none_told n) None)))
    (cases_lt i n)

of_some : (told : Option Strayed) → told_of (Some told) ≡ option_to_list told
of_some None = refl
of_some (Some numbers) = refl

-- nothing at all was told
none_first : (told : Option Strayed) (rest : List Strayed) → option_to_list told ++ rest ≡ [] → (told ≡ None) × (rest ≡ [])
none_first None rest none = (refl, none)
none_first (Some numbers) rest none = absurd (cc none)

-- what is there is all there is
one_has : (told : Option Strayed) (numbers : Strayed) → Contains (option_to_list told) numbers → told ≡ Some numbers
one_has None numbers (k, below, is) = absurd (omega (arith, below))
one_has (Some one) numbers (zero, below, is) = ap (λ (n : Strayed). Some n) is
one_has (Some one) numbers (suc k, below, is) = absurd (omega (arith, below))

-- one worker more stands before it
later : (index : ℕ) (numbers : Strayed) (own : List (Event FrontValue)) (others : List (List (Event FrontValue))) → IsTold index numbers others → IsTold index numbers (own ∷ others)
later index numbers own others is = record { place = suc is.place; own = is.own; at = is.at; told = is.told }

module _ {K : Type 0} (index : ℕ) where
  -- what the events of each worker's lines tell first
  abbrev pub tells : List (List (Service K FrontValue)) → List Strayed
  tells services = flat_map (λ own. option_to_list (told_by index (events_of own))) services

  none_tells : (services : List (List (Service K FrontValue))) → tells services ≡ [] → NoneTold index (map events_of services)
  none_tells [] none = All-nil (λ (own : List (Event FrontValue)). told_by index own ≡ None)
  none_tells (own ∷ services) none =
      let both = none_first (told_by index (events_of own)) (tells services) none in
      All-cons (λ (own : List (Event FrontValue)). told_by index own ≡ None) (events_of own) (map events_of services) both.0 (none_tells services both.1)

  some_tells : (numbers : Strayed) (services : List (List (Service K FrontValue))) → Contains (tells services) numbers → IsTold index numbers (map events_of services)
  some_tells numbers [] (k, below, is) = absurd (omega (arith, below))
  some_tells numbers (own ∷ services) has =
      ⊎_elim
      (λ (here : Contains (option_to_list (told_by index (events_of own))) numbers). record { place = zero; own = events_of own; at = refl; told = one_has (told_by index (events_of own)) numbers here })
      (λ (there : Contains (tells services) numbers). later index numbers (events_of own) (map events_of services) (some_tells numbers services there))
      (Contains-append_cases (option_to_list (told_by index (events_of own))) (tells services) numbers has)

module _ {E K J : Type 0} (door : DoorWords E K) (link : LinkWords K) (schema : ℕ → Schema) (base : ℕ → Base) (confs : List IndexConf) (workers sessions : ℕ) (index : ℕ) (below : index < length confs) where
  -- what one worker was told
  worker_told : (worker : ℕ) (own : List (Service K FrontValue)) (left : TokensValue) (old new : Seat E J K) → Works door link schema base confs workers sessions own (first_tokens confs worker) left old new
      → told_of (slice_get left.told index) ≡ option_to_list (told_by index (events_of own))
  worker_told worker own left old new works =
      let follows = worker_follows door link schema base confs workers worker sessions own old.door new.door new.end (first_tokens confs worker) left works.serves in
      ap told_of (events_tell schema base index (record { confs = confs; tokens = first_tokens confs worker }) (record { confs = confs; tokens = left }) (events_of own) None (first_told (length confs) index below) follows)
      ∙ of_some (told_by index (events_of own))

  -- and all
  all_told : (worker : ℕ) (services : List (List (Service K FrontValue))) (lefts : List TokensValue) (olds news : List (Seat E J K)) → AllWork door link schema base confs workers sessions worker services lefts olds news
      → told_at index lefts ≡ tells index services
  all_told worker [] [] [] [] work = refl
  all_told worker [] [] [] (n ∷ news) work = absurd work
  all_told worker [] [] (o ∷ olds) news work = absurd work
  all_told worker [] (l ∷ lefts) olds news work = absurd work
  all_told worker (s ∷ services) [] olds news work = absurd work
  all_told worker (s ∷ services) (l ∷ lefts) [] news work = absurd work
  all_told worker (s ∷ services) (l ∷ lefts) (o ∷ olds) [] work = absurd work
  all_told worker (s ∷ services) (l ∷ lefts) (o ∷ olds) (n ∷ news) work =
      ap (λ (first : List Strayed). first ++ told_at index lefts) (worker_told worker s l o n work.0)
      ∙ ap (λ (rest : List Strayed). option_to_list (told_by index (events_of s)) ++ rest) (all_told (worker + 1) services lefts olds news work.1)

-- what the end of the index rests on
rests_so : {D K : Type 0} (disk : DiskWords D) (schema : ℕ → Schema) (base : ℕ → Base) (opened : ℕ → AtOpening) (index workers : ℕ) (services : List (List (Service K FrontValue))) (tokens new : List TokenValue) (told : List Strayed) (left : D) (noted : Option FrontValue) (note : FrontValue)
    (answer : Result (Unit {0}) (Or Strayed)) → told ≡ tells index services → noted ≡ Some note → Closes disk schema base opened index workers told tokens left note answer new
    → RestsOn disk (schema index) (base index) index workers tokens (map events_of services) left noted answer
rests_so disk schema base opened index workers services tokens new told left noted note (Ok done) are is closes = none_tells index services (sym are ∙ closes.2.0)
rests_so disk schema base opened index workers services tokens new told left noted note (Err (causes.Fault numbers)) are is closes =
    let line : LineValue = closes.0 in
    ⊎_elim
    (λ (has : Contains told numbers). inl (some_tells index numbers services (subst (λ (ns : List Strayed). Contains ns numbers) are has)))
    (λ (found : first_stray (base index) line tokens ≡ Some numbers). inr (record { line = line; kept = closes.1.left; told = is ∙ ap (λ (n : FrontValue). Some n) closes.1.note_is; first = found }))
    closes.2
rests_so disk schema base opened index workers services tokens new told left noted note (Err causes.NoMemory) are is closes = tt

-- So does each index, once all have worked and each engine has ended with their tokens.
pub all_rest : {D E K J : Type 0} (disk : DiskWords D) (door : DoorWords E K) (link : LinkWords K) (schema : ℕ → Schema) (base : ℕ → Base) (opened : ℕ → AtOpening) (confs : List IndexConf) (workers sessions : ℕ) (services : List (List (Service K FrontValue))) (lefts : List TokensValue)
    (olds news : List (Seat E J K)) (ends : List (Ended D J)) → AllWork door link schema base confs workers sessions 1 services lefts olds news → HaveEnded disk schema base opened (length confs) workers lefts ends → (index : ℕ) (end : Ended D J) → slice_get ends index ≡ Some end
    → RestsOn disk (schema index) (base index) index workers (tokens_at index lefts) (map events_of services) end.disk end.note end.answer
all_rest {D} {E} {K} {J} disk door link schema base opened confs workers sessions services lefts olds news ends work ended index end at =
    let (note, is, new, closes) = ended.each index end at in
    let below : index < length confs = omega (arith, slice_get_within ends index end at, ended.many) in
    rests_so disk schema base opened index workers services (tokens_at index lefts) new (told_at index lefts) end.disk end.note note end.answer
    (all_told {E = E} {K = K} {J = J} door link schema base confs workers sessions index below 1 services lefts olds news work) is closes
