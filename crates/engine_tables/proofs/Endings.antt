-- How engines end: the last tokens of all workers are taken, and what each end leaves stands at the place of its index.
use Rattle.std.proofs.Common.{◌≡◌, ⊎_elim, ℕ, ◌+◌, ◌-◌, ◌<◌, ◌≤◌, List, [], ◌∷◌, ◌++◌, All, Option, Some, None, Result, length, map, slice_get, refl, ap, sym, subst, ◌∙◌, arith, length-append, length-take}
use Rattle.std.proofs.lemmas.List.{length-map, map-append}
use Rattle.std.proofs.lemmas.List.Elements.{All-cons, All-head, All-nil, All-tail}
use Rattle.std.proofs.lemmas.Option.{slice_get_within}
use Rattle.std.specs.List.{flat_map}
use Rattle.std.specs.Option.{option_to_list}
use Rattle.srch_base.specs.declared.faults.Or.{Or}
use Rattle.chunk_store.specs.declared.disk.Disk.{Ghosts as DiskWords}
use Rattle.commit_outcomes.specs.declared.strayed.Strayed.{Strayed}
use Rattle.doc_types.specs.declared.schema.Schema.{Schema}
use Rattle.step_book.specs.Fronts.{FrontValue}
use Rattle.step_book.specs.Tellings.{AtOpening}
use Rattle.step_history.specs.History.{Base}
use Rattle.step_line.specs.Lines.{new_line}
use Rattle.step_tokens.specs.Tokens.{TokenValue}
use Rattle.store_keep.specs.Tellings.{AreTokensOf}
use Rattle.snap_share.specs.Closings.{Closes}
use Rattle.engine_tables.specs.Endings.{EndingValue, HasEnded, HaveEnded}
use Rattle.engine_tables.specs.Engines.{ArePlaced, EnginesValue, TableValue}
use Rattle.engine_tables.specs.Tokens.{AreOf, SeatsDiffer, SitsAt, TokensValue, told_at, told_of, tokens_at}
use Rattle.engine_tables.specs.declared.ended.Ended.{Ended}
use Rattle.engine_tables.specs.steps.Lasts.{last_told, last_token, shortened}
use Rattle.engine_tables.proofs.Looking.{engines_in}
use Rattle.engine_tables.proofs.Makings.{placed_before}
use Rattle.engine_tables.proofs.Places.{get_end, get_more_cases, get_taken}

-- one index less
pub of_before : (indexes workers : ℕ) (tokens : TokensValue) → AreOf (indexes + 1) workers tokens → AreOf indexes workers (shortened tokens)
of_before indexes workers tokens of =
    record { many = omega (arith, length-take (length tokens.list - 1) tokens.list, of.many); above = of.above; within = of.within }

pub all_before : (indexes workers : ℕ) (seats : List TokensValue) → All (AreOf (indexes + 1) workers) seats → All (AreOf indexes workers) (map shortened seats)
all_before indexes workers [] all = All-nil (AreOf indexes workers)
all_before indexes workers (seat ∷ seats) all =
    All-cons (AreOf indexes workers) (shortened seat) (map shortened seats) (of_before indexes workers seat (All-head (AreOf (indexes + 1) workers) seat seats all))
    (all_before indexes workers seats (All-tail (AreOf (indexes + 1) workers) seat seats all))

-- the last tokens are those of the last index
pub lasts_are : (place workers : ℕ) (seats : List TokensValue) → All (AreOf (place + 1) workers) seats → flat_map last_token seats ≡ tokens_at place seats
lasts_are place workers [] all = refl
lasts_are place workers (seat ∷ seats) all =
    let last : length seat.list - 1 ≡ place = omega (arith, (All-head (AreOf (place + 1) workers) seat seats all).many) in
    ap (λ (k : ℕ). option_to_list (slice_get seat.list k) ++ flat_map last_token seats) last
    ∙ ap (λ (rest : List TokenValue). option_to_list (slice_get seat.list place) ++ rest) (lasts_are place workers seats (All-tail (AreOf (place + 1) workers) seat seats all))

-- and so is what was told
pub told_are : (place workers : ℕ) (seats : List TokensValue) → All (AreOf (place + 1) workers) seats → flat_map last_told seats ≡ told_at place seats
told_are place workers [] all = refl
told_are place workers (seat ∷ seats) all =
    let last : length seat.list - 1 ≡ place = omega (arith, (All-head (AreOf (place + 1) workers) seat seats all).many) in
    ap (λ (k : ℕ). told_of (slice_get seat.told k) ++ flat_map last_told seats) last
    ∙ ap (λ (rest : List Strayed). told_of (slice_get seat.told place) ++ rest) (told_are place workers seats (All-tail (AreOf (place + 1) workers) seat seats all))

-- and those of earlier indexes stay
pub earlier_stay : (place last workers : ℕ) (seats : List TokensValue) → place < last → All (AreOf (last + 1) workers) seats → tokens_at place (map shortened seats) ≡ tokens_at place seats
earlier_stay place last workers [] before all = refl
earlier_stay place last workers (seat ∷ seats) before all =
    let within : place < length seat.list - 1 = omega (arith, (All-head (AreOf (last + 1) workers) seat seats all).many) in
    ap (λ found. option_to_list found ++ tokens_at place (map shortened seats)) (get_taken seat.list (length seat.list - 1) place within)
    ∙ ap (λ (rest : List TokenValue). option_to_list (slice_get seat.list place) ++ rest) (earlier_stay place last workers seats before (All-tail (AreOf (last + 1) workers) seat seats all))

pub told_stay : (place last workers : ℕ) (seats : List TokensValue) → place < last → All (AreOf (last + 1) workers) seats → told_at place (map shortened seats) ≡ told_at place seats
told_stay place last workers [] before all = refl
told_stay place last workers (seat ∷ seats) before all =
    let within : place < length seat.list - 1 = omega (arith, (All-head (AreOf (last + 1) workers) seat seats all).many) in
    ap (λ found. told_of found ++ told_at place (map shortened seats)) (get_taken seat.told (length seat.list - 1) place within)
    ∙ ap (λ (rest : List Strayed). told_of (slice_get seat.told place) ++ rest) (told_stay place last workers seats before (All-tail (AreOf (last + 1) workers) seat seats all))

-- an option has one element at most
pub at_most_one : {A : Type 0} (one : Option A) → length (option_to_list one) ≤ 1
at_most_one None = omega arith
at_most_one (Some x) = omega arith

-- tokens of a line, and then others
pub tokens_more : (index workers : ℕ) (xs ys : List TokenValue) → AreTokensOf (new_line index workers) xs → AreTokensOf (new_line index workers) ys → AreTokensOf (new_line index workers) (xs ++ ys)
tokens_more index workers [] ys of more = more
tokens_more index workers (x ∷ xs) ys of more = (of.0, of.1, of.2, tokens_more index workers xs ys of.3 more)

module _ {D J : Type 0} (words : DiskWords D) (schema : ℕ → Schema) (base : ℕ → Base) (opened : ℕ → AtOpening) (workers : ℕ) where
  -- none has ended
  pub none_ended : (seats : List TokensValue) → HaveEnded {J = J} words schema base opened 0 workers seats []
  none_ended seats = record { many = refl; each = λ place ended at. absurd (cc (at)) }

  -- the earlier ones ended, with what was left of the tokens, and then the last one
  pub last_ended : (last : ℕ) (seats : List TokensValue) (all : List (Ended D J)) (ended : Ended D J) → All (AreOf (last + 1) workers) seats
      → HaveEnded words schema base opened last workers (map shortened seats) all
      → HasEnded words schema base opened last workers (told_at last seats) (tokens_at last seats) ended
      → HaveEnded words schema base opened (last + 1) workers seats (all ++ ended ∷ [])
  last_ended last seats all ended of have has = record {
    many = omega (arith, length-append all (ended ∷ []), have.many);
    each = λ place its at.
        ⊎_elim
        (λ (same : (place ≡ length all) × (its ≡ ended)).
        let here : place ≡ last = same.0 ∙ have.many in
        subst (λ (e : Ended D J). HasEnded words schema base opened place workers (told_at place seats) (tokens_at place seats) e) (sym same.1)
        (subst (λ (k : ℕ). HasEnded words schema base opened k workers (told_at k seats) (tokens_at k seats) ended) (sym here) has))
        (λ (earlier : slice_get all place ≡ Some its).
        let before : place < last = omega (arith, slice_get_within all place its earlier, have.many) in
        subst (λ (told : List Strayed). HasEnded words schema base opened place workers told (tokens_at place seats) its) (told_stay place last workers seats before of)
        (subst (λ (tokens : List TokenValue). HasEnded words schema base opened place workers (told_at place (map shortened seats)) tokens its) (earlier_stay place last workers seats before of) (have.each place its earlier)))
        (get_more_cases all ended its place at);
  }

-- the last one of the engines that are left
pub record IsLast (workers : ℕ) (tables front : List TableValue) (last : TableValue) : Type 0 where
  pub index : last.engine.index ≡ length front
  pub own : last.engine.workers ≡ workers
  pub before : ArePlaced workers (map (λ table. table.engine) front)
  pub many : length tables ≡ length front + 1

pub is_last : (workers : ℕ) (tables front : List TableValue) (last : TableValue) → tables ≡ front ++ last ∷ [] → ArePlaced workers (map (λ table. table.engine) tables) → IsLast workers tables front last
is_last workers tables front last is placed =
    let same : map (λ (t : TableValue). t.engine) tables ≡ map (λ (t : TableValue). t.engine) front ++ last.engine ∷ [] = ap (map (λ (t : TableValue). t.engine)) is ∙ map-append (λ (t : TableValue). t.engine) front (last ∷ []) in
    let all : ArePlaced workers (map (λ (t : TableValue). t.engine) front ++ last.engine ∷ []) = subst (ArePlaced workers) same placed in
    let here = all.each (length front) last.engine (get_end (map (λ (t : TableValue). t.engine) front) last.engine (length front) (sym (length-map front (λ (t : TableValue). t.engine)))) in
    record { index = here.0; own = here.1; before = placed_before workers (map (λ (t : TableValue). t.engine) front) last.engine all; many = omega (arith, ap length is, length-append front (last ∷ [])) }

-- an engine's end, by what it was given
pub closed_as : {D : Type 0} (J : Type 0) (words : DiskWords D) (schema : ℕ → Schema) (base : ℕ → Base) (opened : ℕ → AtOpening) (index place own workers : ℕ) (given told : List Strayed) (lent tokens : List TokenValue) (disk : D) (note : FrontValue) (answer : Result (Unit {0}) (Or Strayed)) (new : List TokenValue)
    → index ≡ place → own ≡ workers → given ≡ told → lent ≡ tokens → Closes words schema base opened index own given lent disk note answer new → HasEnded {J = J} words schema base opened place workers told tokens (record { disk = disk; note = Some note; answer = answer })
closed_as J words schema base opened index place own workers given told lent tokens disk note answer new index_is own_is given_is lent_is closes = (
  note,
  refl,
  new,
  subst (λ (i : ℕ). Closes words schema base opened i workers told tokens disk note answer new) index_is
      (subst (λ (w : ℕ). Closes words schema base opened index w told tokens disk note answer new) own_is
      (subst (λ (n : List Strayed). Closes words schema base opened index own n tokens disk note answer new) given_is
      (subst (λ (ts : List TokenValue). Closes words schema base opened index own given ts disk note answer new) lent_is closes))),
)

-- the earlier engines have ended, and then the last one
pub end_one : {D J : Type 0} (words : DiskWords D) (schema : ℕ → Schema) (base : ℕ → Base) (opened : ℕ → AtOpening) (workers count last place : ℕ) (seats left : List TokensValue) (before all : List (Ended D J)) (ended : Ended D J) (told : List Strayed) (tokens : List TokenValue)
    → count ≡ last + 1
    → All (AreOf count workers) seats
    → left ≡ map shortened seats
    → told ≡ flat_map last_told seats
    → tokens ≡ flat_map last_token seats
    → place ≡ last
    → HaveEnded words schema base opened last workers left before
    → HasEnded words schema base opened place workers told tokens ended
    → all ≡ before ++ ended ∷ []
    → HaveEnded words schema base opened count workers seats all
end_one {D} {J} words schema base opened workers count last place seats left before all ended told tokens count_is of left_is told_is tokens_are place_is have has all_is =
    let of' : All (AreOf (last + 1) workers) seats = subst (λ (n : ℕ). All (AreOf n workers) seats) count_is of in
    let here : HasEnded words schema base opened last workers (told_at last seats) (tokens_at last seats) ended =
    subst (λ (ns : List Strayed). HasEnded words schema base opened last workers ns (tokens_at last seats) ended) (told_is ∙ told_are last workers seats of')
    (subst (λ (ts : List TokenValue). HasEnded words schema base opened last workers told ts ended) (tokens_are ∙ lasts_are last workers seats of')
    (subst (λ (i : ℕ). HasEnded words schema base opened i workers told tokens ended) place_is has)) in
    let whole : HaveEnded words schema base opened (last + 1) workers seats (before ++ ended ∷ []) =
    last_ended {D = D} {J = J} words schema base opened workers last seats before ended of' (subst (λ (s : List TokensValue). HaveEnded words schema base opened last workers s before) left_is have) here in
    subst (λ (n : ℕ). HaveEnded words schema base opened n workers seats all) (sym count_is) (subst (λ (es : List (Ended D J)). HaveEnded words schema base opened (last + 1) workers seats es) (sym all_is) whole)

-- tokens of engines that end are of their indexes and workers
pub all_sit : (tables : List TableValue) (workers : ℕ) (engines : EnginesValue) (inside : List TokensValue) (indexes most : ℕ) (ending : EndingValue) → engines_in tables workers ≡ engines → record { indexes = indexes; workers = most; seats = inside } ≡ ending → All (SitsAt engines) ending.seats → All (AreOf (length tables) workers) inside
all_sit tables workers engines inside indexes most ending is ending_is sit =
    let here : All (SitsAt engines) inside = subst (λ (e : EndingValue). All (SitsAt engines) e.seats) (sym ending_is) sit in
    let of : All (AreOf (length (map (λ (t : TableValue). t.conf) tables)) workers) inside = subst (λ (v : EnginesValue). All (SitsAt v) inside) (sym is) here in
    subst (λ (n : ℕ). All (AreOf n workers) inside) (length-map tables (λ (t : TableValue). t.conf)) of

-- and no two of them of one worker
pub all_differ : (inside : List TokensValue) (indexes most : ℕ) (ending : EndingValue) → record { indexes = indexes; workers = most; seats = inside } ≡ ending → SeatsDiffer ending.seats → SeatsDiffer inside
all_differ inside indexes most ending is differ = subst (λ (e : EndingValue). SeatsDiffer e.seats) (sym is) differ
