-- How many faults and stops the lines of all workers were answered on an index: what its tokens count, all together.
use Rattle.std.proofs.Common.{◌≡◌, ◌⊎◌, inl, inr, ⊎_elim, ℕ, ◌+◌, ◌≤◌, ◌<◌, List, [], ◌∷◌, ◌++◌, length, map, Option, Some, Result, Ok, slice_get, refl, sym, ap, subst, ◌∙◌, arith}
use Rattle.std.specs.Prelude.{All}
use Rattle.std.specs.List.{AllByRecursion, sum_by}
use Rattle.std.specs.Option.{option_to_list}
use Rattle.std.proofs.lemmas.List.Elements.{recursion_from_All}
use Rattle.std.proofs.lemmas.List.Sums.{sum_by-cons}
use Rattle.std.proofs.lemmas.Option.{slice_get_within}
use Rattle.srch_base.specs.declared.door.Door.{Ghosts as DoorWords}
use Rattle.srch_base.specs.declared.faults.Or.{Or}
use Rattle.srch_base.specs.declared.link.Link.{Ghosts as LinkWords}
use Rattle.chunk_store.specs.declared.disk.Disk.{Ghosts as DiskWords}
use Rattle.commit_outcomes.specs.declared.strayed.Strayed.{Strayed}
use Rattle.doc_types.specs.declared.schema.Schema.{Schema}
use Rattle.index_conf.specs.declared.conf.IndexConf.{IndexConf}
use Rattle.ql_session.specs.Events.{Event}
use Rattle.snap_share.specs.Closings.{IsStoppedByNumbers, Says}
use Rattle.step_book.specs.Fronts.{FrontValue}
use Rattle.step_book.specs.Tellings.{AtOpening}
use Rattle.step_history.specs.History.{Base, Step}
use Rattle.step_line.specs.Lines.{LineValue, new_token}
use Rattle.step_tokens.specs.Tokens.{TokenValue, faults_of, stops_of}
use Rattle.store_keep.specs.Charges.{HasEnded as MayHaveEnded, IsAtEnd}
use Rattle.engine_tables.specs.Endings.{HaveEnded}
use Rattle.engine_tables.specs.Tokens.{TokensValue, told_at, tokens_at}
use Rattle.engine_tables.specs.declared.ended.Ended.{Ended}
use Rattle.line_workers.specs.Attempts.{Kind, all_of, count_all, events_of, faults, stops}
use Rattle.line_workers.specs.Faults.{FaultsFit, StopsFit}
use Rattle.line_workers.specs.Lines.{Service}
use Rattle.line_workers.specs.Workers.{AllWork, CountsThem, Works, first_tokens}
use Rattle.line_workers.specs.declared.seat.Seat.{Seat}
use Rattle.line_workers.proofs.Places.{get_within, some_is}
use Rattle.line_workers.proofs.Whole.{first_token, worker_shape}

-- the token of the index that a worker left, and what it counts of its lines' events
record IsLeftBy (index : ℕ) (events : List (Event FrontValue)) (left : TokensValue) : Type 0 where
  pub token : TokenValue
  pub at : slice_get left.list index ≡ Some token
  pub counts : CountsThem index events (new_token index 0 []) token

-- a new token counts nothing
none_before : {m n : ℕ} → m ≡ 0 + n → m ≡ n
none_before is = omega (arith, is)

-- one token stands at the place of the index
one_more : (count : TokenValue → ℕ) (index : ℕ) (left : TokensValue) (lefts : List TokensValue) (token : TokenValue) → slice_get left.list index ≡ Some token
    → sum_by count (tokens_at index (left ∷ lefts)) ≡ count token + sum_by count (tokens_at index lefts)
one_more count index left lefts token at = ap (λ (o : Option TokenValue). sum_by count (option_to_list o ++ tokens_at index lefts)) at ∙ sum_by-cons count token (tokens_at index lefts)

module _ {E K J : Type 0} (door : DoorWords E K) (link : LinkWords K) (schema : ℕ → Schema) (base : ℕ → Base) (confs : List IndexConf) (workers sessions : ℕ) (index : ℕ) (below : index < length confs) where
  left_by : (worker : ℕ) (own : List (Service K FrontValue)) (left : TokensValue) (old new : Seat E J K) → Works door link schema base confs workers sessions own (first_tokens confs worker) left old new → IsLeftBy index (events_of own) left
  left_by worker own left old new works =
      let long = worker_shape door link schema base confs workers worker sessions own old.door new.door new.end left works.serves in
      let there = get_within left.list index (omega (arith, long, below)) in
      let them = works.counts index (new_token index worker []) there.0 (first_token worker (length confs) index below) there.1 in
      record { token = there.0; at = there.1; counts = record { made = them.made; faults = them.faults; stops = them.stops } }

  module _ (kind : Kind) (count : TokenValue → ℕ) (counts : (events : List (Event FrontValue)) (token : TokenValue) → CountsThem index events (new_token index 0 []) token → count token ≡ length (all_of kind index events)) where
    -- all together count the events of all lines
    pub all_count : (worker : ℕ) (services : List (List (Service K FrontValue))) (lefts : List TokensValue) (olds news : List (Seat E J K)) → AllWork door link schema base confs workers sessions worker services lefts olds news
        → sum_by count (tokens_at index lefts) ≡ count_all kind index (map events_of services)
    all_count worker [] [] [] [] work = refl
    all_count worker [] [] [] (n ∷ news) work = absurd work
    all_count worker [] [] (o ∷ olds) news work = absurd work
    all_count worker [] (l ∷ lefts) olds news work = absurd work
    all_count worker (s ∷ services) [] olds news work = absurd work
    all_count worker (s ∷ services) (l ∷ lefts) [] news work = absurd work
    all_count worker (s ∷ services) (l ∷ lefts) (o ∷ olds) [] work = absurd work
    all_count worker (s ∷ services) (l ∷ lefts) (o ∷ olds) (n ∷ news) work =
        let left = left_by worker s l o n work.0 in
        let here = counts (events_of s) left.token left.counts in
        let more = one_more count index l lefts left.token left.at in
        let all = sum_by-cons (λ (own : List (Event FrontValue)). length (all_of kind index own)) (events_of s) (map events_of services) in
        let rest = all_count (worker + 1) services lefts olds news work.1 in
        omega (arith, more, here, rest, all)

-- all tokens count no stop, or numbers may have ended
none_stopped : (opened : AtOpening) (line : LineValue) (now : ℕ) (tokens : List TokenValue) → AllByRecursion (IsStoppedByNumbers opened line now) tokens → (sum_by stops_of tokens ≡ 0) ⊎ MayHaveEnded opened line.history now
none_stopped opened line now [] all = inl refl
none_stopped opened line now (token ∷ tokens) all =
    ⊎_elim
    (λ (none : stops_of token ≡ 0).
    ⊎_elim (λ (others : sum_by stops_of tokens ≡ 0). inl (let all = sum_by-cons stops_of token tokens in omega (arith, none, others, all))) (λ (ended : MayHaveEnded opened line.history now). inr ended) (none_stopped opened line now tokens all.1))
    (λ (ended : MayHaveEnded opened line.history now). inr ended)
    all.0

module _ {D E K J : Type 0} (disk : DiskWords D) (door : DoorWords E K) (link : LinkWords K) (schema : ℕ → Schema) (base : ℕ → Base) (opened : ℕ → AtOpening) (confs : List IndexConf) (workers sessions : ℕ) (services : List (List (Service K FrontValue))) (lefts : List TokensValue) (olds news : List (Seat E J K))
    (ends : List (Ended D J)) (work : AllWork door link schema base confs workers sessions 1 services lefts olds news) (ended : HaveEnded disk schema base opened (length confs) workers lefts ends) where
  within : (index : ℕ) (end : Ended D J) → slice_get ends index ≡ Some end → index < length confs
  within index end at = omega (arith, slice_get_within ends index end at, ended.many)

  -- the faults of all lines on an index are no more than its disk's count rose by
  pub all_fit : (index : ℕ) (end : Ended D J) → slice_get ends index ≡ Some end → FaultsFit (opened index) index (map events_of services) (disk.faults end.disk)
  all_fit index end at =
      let (note, is, new, closes) = ended.each index end at in
      let (line, left, says) = closes in
      let same = all_count door link schema base confs workers sessions index (within index end at) faults faults_of (λ events token them. none_before them.faults) 1 services lefts olds news work in
      subst (λ (n : ℕ). ((opened index).faults + n ≤ disk.faults end.disk) ⊎ IsAtEnd (disk.faults end.disk)) same left.shares

  says_stops : (base : Base) (opened : AtOpening) (told : List Strayed) (old : List TokenValue) (line : LineValue) (now : ℕ) (answer : Result (Unit {0}) (Or Strayed)) (new : List TokenValue) → answer ≡ Ok tt → Says base opened told old line now answer new
      → All (IsStoppedByNumbers opened line now) old
  says_stops base opened told old line now answer new is says = (subst (λ (a : Result (Unit {0}) (Or Strayed)). Says base opened told old line now a new) is says).2

  -- and there are stops only where numbers may have ended
  pub all_stop : (index : ℕ) (end : Ended D J) (note : FrontValue) → slice_get ends index ≡ Some end → end.note ≡ Some note → end.answer ≡ Ok tt → StopsFit (opened index) index note.steps (map events_of services) (disk.faults end.disk)
  all_stop index end note at noted answered =
      let (its, is, new, closes) = ended.each index end at in
      let (line, left, says) = closes in
      let now : ℕ = disk.faults end.disk in
      let steps : note.steps ≡ line.history = ap (λ (f : FrontValue). f.steps) (some_is note its (sym noted ∙ is) ∙ left.note_is) in
      let same = all_count door link schema base confs workers sessions index (within index end at) stops stops_of (λ events token them. none_before them.stops) 1 services lefts olds news work in
      let all = says_stops (base index) (opened index) (told_at index lefts) (tokens_at index lefts) line now end.answer new answered says in
      subst (λ (s : List Step). StopsFit (opened index) index s (map events_of services) now) (sym steps)
      (subst (λ (n : ℕ). (n ≡ 0) ⊎ MayHaveEnded (opened index) line.history now) same
      (none_stopped (opened index) line now (tokens_at index lefts) (recursion_from_All (IsStoppedByNumbers (opened index) line now) (tokens_at index lefts) all)))
