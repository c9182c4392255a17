-- What all workers' lines were shown and told of an index, and its history.
use Rattle.std.proofs.Common.{◌≡◌, ⊎_elim, ℕ, zero, suc, ◌+◌, ◌≤◌, ◌<◌, List, [], ◌∷◌, ◌++◌, length, map, Option, Some, None, Result, Ok, Err, slice_get, refl, sym, ap, subst, ◌∙◌, arith, length-append}
use Rattle.std.specs.Prelude.{All}
use Rattle.std.specs.List.{AllByRecursion, AllZip}
use Rattle.std.specs.Option.{option_or}
use Rattle.std.proofs.lemmas.Bool.{cases_lt}
use Rattle.std.proofs.lemmas.List.{length-map}
use Rattle.std.proofs.lemmas.List.Elements.{All-from_recursion, recursion_from_All}
use Rattle.std.proofs.lemmas.Option.{slice_get_within}
use mathlib.Core.List.{IsPrefix}
use Rattle.srch_base.specs.declared.door.Door.{Ghosts as DoorWords}
use Rattle.srch_base.specs.declared.link.Link.{Ghosts as LinkWords}
use Rattle.chunk_store.specs.declared.disk.Disk.{Ghosts as DiskWords}
use Rattle.doc_types.specs.declared.schema.Schema.{Schema}
use Rattle.doc_types.specs.Commits.{Entry}
use Rattle.index_conf.specs.declared.conf.IndexConf.{IndexConf}
use Rattle.step_book.specs.Fronts.{FrontValue}
use Rattle.step_book.proofs.Prefixes.{prefix_get, prefix_self}
use Rattle.step_book.specs.Tellings.{AtOpening}
use Rattle.step_history.specs.History.{Base, Step, Commit, Reshape, commits, made_by}
use Rattle.step_line.specs.Lines.{IsBy, LineValue, entered, with_waiting}
use Rattle.step_tokens.specs.Tokens.{TokenValue}
use Rattle.srch_base.specs.declared.faults.Or.{Or}
use Rattle.srch_base.specs.declared.faults.Or.TheVariants as causes
use Rattle.commit_outcomes.specs.declared.strayed.Strayed.{Strayed}
use Rattle.snap_share.specs.Closings.{Says}
use Rattle.step_line.specs.Lines.{new_token}
use Rattle.store_keep.specs.Tellings.{HasSeenAll}
use Rattle.ql_session.specs.Events.{Event, Follows}
use Rattle.ql_session.specs.Machines.{FollowAll}
use Rattle.engine_tables.specs.Endings.{HaveEnded}
use Rattle.engine_tables.specs.Tokens.{TokensValue, new_tokens, told_at, tokens_at}
use Rattle.engine_tables.specs.Workers.{WorkerValue, by_tokens}
use Rattle.engine_tables.specs.declared.ended.Ended.{Ended}
use Rattle.line_workers.specs.Attempts.{OnFront, events_of, told_by}
use Rattle.line_workers.specs.Histories.{IsOfHistory, IsOneHistory}
use Rattle.line_workers.specs.Lines.{Service, ServesDoor}
use Rattle.line_workers.specs.Strayings.{IsUnstrayed}
use Rattle.line_workers.specs.Workers.{AllWork, Works, first_tokens}
use Rattle.line_workers.specs.declared.seat.Seat.{Seat}
use Rattle.line_workers.specs.declared.serving.SeatEnd.{SeatEnd}
use Rattle.line_workers.proofs.Counting.{made_up}
use Rattle.line_workers.proofs.Entries.{begun, counted, of_history}
use Rattle.line_workers.proofs.Moving.{Leads, events_move, lines_follow, same_shape}
use Rattle.line_workers.proofs.Places.{get_last, get_within, some_is, zip_kept}
use Rattle.line_workers.proofs.Sharing.{all_counted}
use Rattle.line_workers.proofs.Telling.{events_tell}

-- what a worker's lines lead its tokens to
pub worker_follows : {E K : Type 0} (door : DoorWords E K) (link : LinkWords K) (schema : ℕ → Schema) (base : ℕ → Base) (confs : List IndexConf) (workers worker sessions : ℕ) (services : List (Service K FrontValue)) (old new : E) (end : SeatEnd) (had left : TokensValue)
    → ServesDoor door link (λ tables. tables.confs) (by_tokens schema base) workers worker sessions services old new end (record { confs = confs; tokens = had }) (record { confs = confs; tokens = left })
    → FollowAll (Follows (λ tables. tables.confs) (by_tokens schema base)) (record { confs = confs; tokens = had }) (events_of services) (record { confs = confs; tokens = left })
worker_follows door link schema base confs workers worker sessions services old new end had left serves =
    lines_follow link (λ (tables : WorkerValue). tables.confs) (by_tokens schema base) workers worker 1 services (record { confs = confs; tokens = had }) (record { confs = confs; tokens = left }) serves.serves

-- A worker has seen its fronts, and counts its commits.
pub works_so : {E K J : Type 0} (door : DoorWords E K) (link : LinkWords K) (schema : ℕ → Schema) (base : ℕ → Base) (confs : List IndexConf) (workers sessions : ℕ) (services : List (Service K FrontValue)) (had left : TokensValue) (old new : Seat E J K)
    → ServesDoor door link (λ tables. tables.confs) (by_tokens schema base) workers had.worker sessions services old.door new.door new.end (record { confs = confs; tokens = had }) (record { confs = confs; tokens = left })
    → Works door link schema base confs workers sessions services had left old new
works_so door link schema base confs workers sessions services had left old new serves =
    let before : WorkerValue = record { confs = confs; tokens = had } in
    let after : WorkerValue = record { confs = confs; tokens = left } in
    let events = events_of services in
    let follows : FollowAll (Leads schema base 0) before events after = worker_follows door link schema base confs workers had.worker sessions services old.door new.door new.end had left serves in
    record {
      serves = serves;
      fronts = λ index token at.
          let long = (same_shape schema base index before after events follows).1 in
          let first = get_within had.list index (omega (arith, long, slice_get_within left.list index token at)) in
          let moved = events_move schema base index before after events first.0 first.1 follows in
          subst (λ (t : TokenValue). All (OnFront index (λ front. IsPrefix front.steps t.seen)) events) (some_is moved.new token (sym moved.at ∙ at)) (begun (base index) index first.0 moved.new events moved.moves);
      counts = λ index t u at at'. all_counted schema base index before after events t u at at' follows;
      told = λ index b a at at'. some_is a (option_or b (told_by index events)) (sym at' ∙ events_tell schema base index before after events b at follows);
    }

pub many_tokens : (worker n : ℕ) → length (new_tokens worker n) ≡ n
many_tokens worker zero = refl
many_tokens worker (suc n) = let m = many_tokens worker n in omega (arith, m, length-append (new_tokens worker n) (new_token n worker [] ∷ []))

-- the first token of an index
pub first_token : (worker n i : ℕ) → i < n → slice_get (new_tokens worker n) i ≡ Some (new_token i worker [])
first_token worker zero i below = absurd (omega arith)
first_token worker (suc n) i below =
    ⊎_elim
    (λ (less : i < n). prefix_get (new_tokens worker n) (new_tokens worker (suc n)) i (new_token i worker []) (new_token n worker [] ∷ [], refl) (first_token worker n i less))
    (λ (up : n ≤ i).
    let same : i ≡ n = omega arith in
    subst (λ (k : ℕ). slice_get (new_tokens worker (suc n)) k ≡ Some (new_token k worker [])) (sym same)
    (subst (λ (k : ℕ). slice_get (new_tokens worker (suc n)) k ≡ Some (new_token n worker [])) (many_tokens worker n) (get_last (new_tokens worker n) (new_token n worker []))))
    (cases_lt i n)

-- a worker has a token of each index in the end
pub worker_shape : {E K : Type 0} (door : DoorWords E K) (link : LinkWords K) (schema : ℕ → Schema) (base : ℕ → Base) (confs : List IndexConf) (workers worker sessions : ℕ) (services : List (Service K FrontValue)) (old new : E) (end : SeatEnd) (left : TokensValue)
    → ServesDoor door link (λ tables. tables.confs) (by_tokens schema base) workers worker sessions services old new end (record { confs = confs; tokens = first_tokens confs worker }) (record { confs = confs; tokens = left }) → length left.list ≡ length confs
worker_shape door link schema base confs workers worker sessions services old new end left serves =
    let had : TokensValue = first_tokens confs worker in
    let follows = worker_follows door link schema base confs workers worker sessions services old new end had left serves in
    (same_shape schema base 0 (record { confs = confs; tokens = had }) (record { confs = confs; tokens = left }) (events_of services) follows).1 ∙ many_tokens worker (length confs)

-- the published history begins all that was entered
published : (steps : List Step) (waiting : Option Step) → IsPrefix steps (with_waiting steps waiting)
published steps None = prefix_self steps
published steps (Some step) = (step ∷ [], refl)

-- each entry of the first steps is by one of so many workers
by_workers : (workers : ℕ) (steps more : List Step) → AllByRecursion (IsBy workers) (steps ++ more) → AllByRecursion (λ (entry : Entry). (0 < entry.worker) × (entry.worker ≤ workers)) (commits steps)
by_workers workers [] more all = tt
by_workers workers (Commit entry s ∷ steps) more all = (all.0, by_workers workers steps more all.1)
by_workers workers (Reshape job through s ∷ steps) more all = by_workers workers steps more all.1

-- the lines of a worker whose events these are
pub services_at : {K : Type 0} (services : List (List (Service K FrontValue))) (place : ℕ) (own : List (Event FrontValue)) → slice_get (map events_of services) place ≡ Some own → (s : List (Service K FrontValue)) × (slice_get services place ≡ Some s) × (events_of s ≡ own)
services_at [] place own at = absurd (cc at)
services_at (s ∷ services) zero own at = (s, refl, some_is (events_of s) own at)
services_at (s ∷ services) (suc place) own at = services_at services place own at

module _ {E K : Type 0} (J : Type 0) (door : DoorWords E K) (link : LinkWords K) (schema : ℕ → Schema) (base : ℕ → Base) (confs : List IndexConf) (workers sessions : ℕ) where
  -- what the worker of a place did
  pub record AtPlace (worker : ℕ) (services : List (Service K FrontValue)) (lefts : List TokensValue) (place : ℕ) : Type 0 where
    pub left : TokensValue
    pub at : slice_get lefts place ≡ Some left
    pub old : Seat E J K
    pub new : Seat E J K
    pub works : Works door link schema base confs workers sessions services (first_tokens confs worker) left old new

  pub at_place : (worker : ℕ) (services : List (List (Service K FrontValue))) (lefts : List TokensValue) (olds news : List (Seat E J K)) (place : ℕ) (own : List (Service K FrontValue)) → AllWork door link schema base confs workers sessions worker services lefts olds news
      → slice_get services place ≡ Some own → AtPlace (worker + place) own lefts place
  at_place worker [] lefts olds news place own work at = absurd (cc at)
  at_place worker (s ∷ services) [] olds news place own work at = absurd work
  at_place worker (s ∷ services) (l ∷ lefts) [] news place own work at = absurd work
  at_place worker (s ∷ services) (l ∷ lefts) (o ∷ olds) [] place own work at = absurd work
  at_place worker (s ∷ services) (l ∷ lefts) (o ∷ olds) (n ∷ news) zero own work at = record {
    left = l;
    at = refl;
    old = o;
    new = n;
    works = subst (λ (w : ℕ). Works door link schema base confs workers sessions own (first_tokens confs w) l o n) (omega arith)
        (subst (λ (own : List (Service K FrontValue)). Works door link schema base confs workers sessions own (first_tokens confs worker) l o n) (some_is s own at) work.0);
  }
  at_place worker (s ∷ services) (l ∷ lefts) (o ∷ olds) (n ∷ news) (suc place) own work at =
      let later = at_place (worker + 1) services lefts olds news place own work.1 at in
      record {
        left = later.left;
        at = later.at;
        old = later.old;
        new = later.new;
        works = subst (λ (w : ℕ). Works door link schema base confs workers sessions own (first_tokens confs w) later.left later.old later.new) (omega arith) later.works;
      }

  all_served : (worker : ℕ) (services : List (List (Service K FrontValue))) (lefts : List TokensValue) (olds news : List (Seat E J K)) → AllWork door link schema base confs workers sessions worker services lefts olds news → length services ≡ length olds
  all_served worker [] [] [] [] work = refl
  all_served worker [] [] [] (n ∷ news) work = absurd work
  all_served worker [] [] (o ∷ olds) news work = absurd work
  all_served worker [] (l ∷ lefts) olds news work = absurd work
  all_served worker (s ∷ services) [] olds news work = absurd work
  all_served worker (s ∷ services) (l ∷ lefts) [] news work = absurd work
  all_served worker (s ∷ services) (l ∷ lefts) (o ∷ olds) [] work = absurd work
  all_served worker (s ∷ services) (l ∷ lefts) (o ∷ olds) (n ∷ news) work = ap suc (all_served (worker + 1) services lefts olds news work.1)

  -- what a worker was shown and told is of the history of a line that its token has seen whole
  of_line : (index worker : ℕ) (line : LineValue) (services : List (Service K FrontValue)) (lefts : List TokensValue) (place : ℕ) (after : List TokenValue) → index < length confs → AllZip (HasSeenAll line) (tokens_at index lefts) after
      → AtPlace worker services lefts place → IsOfHistory (base index) index line.history worker (events_of services)
  of_line index worker line services lefts place after below told work =
      let had : TokensValue = first_tokens confs worker in
      let events = events_of services in
      let follows = worker_follows door link schema base confs workers worker sessions services work.old.door work.new.door work.new.end had work.left work.works.serves in
      let moved = events_move schema base index (record { confs = confs; tokens = had }) (record { confs = confs; tokens = work.left }) events (new_token index worker []) (first_token worker (length confs) index below) follows in
      let seen = zip_kept (HasSeenAll line) (λ (tokens : TokensValue). slice_get tokens.list index) lefts after place work.left moved.new told work.at moved.at in
      let all : HasSeenAll line moved.new seen.0 = seen.1 in
      let goes = counted (base index) index (new_token index worker []) moved.new events moved.moves in
      let own : moved.new.worker ≡ worker = ap (λ (t : TokenValue). t.worker) goes.is in
      let up = made_up worker line.history (entered line) (published line.history line.waiting) in
      let kept : moved.new.made ≡ made_by worker (entered line) = all.counts ∙ ap (λ (w : ℕ). made_by w (entered line)) own in
      of_history (base index) index (new_token index worker []) moved.new events line.history moved.moves refl all.before (omega (arith, up, kept))

  -- each token has seen the whole line, where the history didn't stray
  seen_all : (base : Base) (opened : AtOpening) (told : List Strayed) (old : List TokenValue) (line : LineValue) (now : ℕ) (answer : Result (Unit {0}) (Or Strayed)) (new : List TokenValue) → IsUnstrayed answer → Says base opened told old line now answer new
      → AllZip (HasSeenAll line) old new
  seen_all base opened told old line now (Ok done) new well says = says.1
  seen_all base opened told old line now (Err (causes.Fault numbers)) new well says = absurd well
  seen_all base opened told old line now (Err causes.NoMemory) new well says = says

  -- the one history of an index, as its end gave a note of it
  pub one_history : {D : Type 0} (disk : DiskWords D) (opened : ℕ → AtOpening) (services : List (List (Service K FrontValue))) (lefts : List TokensValue) (olds news : List (Seat E J K)) (ends : List (Ended D J)) → length olds ≡ workers → AllWork door link schema base confs workers sessions 1 services lefts olds news
      → HaveEnded disk schema base opened (length confs) workers lefts ends → (index : ℕ) (end : Ended D J) (note : FrontValue) → slice_get ends index ≡ Some end → end.note ≡ Some note → IsUnstrayed end.answer
      → IsOneHistory (schema index) (base index) index note.steps (map events_of services)
  one_history disk opened services lefts olds news ends many work ended index end note at noted well =
      let (its, is, new, closes) = ended.each index end at in
      let (line, left, says) = closes in
      let told : AllZip (HasSeenAll line) (tokens_at index lefts) new = seen_all (base index) (opened index) (told_at index lefts) (tokens_at index lefts) line (disk.faults end.disk) end.answer new well says in
      let below : index < length confs = omega (arith, slice_get_within ends index end at, ended.many) in
      let size : length services ≡ workers = all_served 1 services lefts olds news work ∙ many in
      let by : AllByRecursion (IsBy workers) (line.history ++ (published line.history line.waiting).0) =
      subst (λ (steps : List Step). AllByRecursion (IsBy workers) steps) (sym (published line.history line.waiting).1)
      (subst (λ (n : ℕ). AllByRecursion (IsBy n) (entered line)) left.left.workers_are (recursion_from_All (IsBy line.workers) (entered line) left.left.is.by)) in
      let steps : note.steps ≡ line.history = ap (λ (f : FrontValue). f.steps) (some_is note its (sym noted ∙ is) ∙ left.note_is) in
      subst (λ (s : List Step). IsOneHistory (schema index) (base index) index s (map events_of services)) (sym steps) (record {
        good = left.left.is.good;
        each = λ place own own_at.
            let found = services_at services place own own_at in
            subst (λ (es : List (Event FrontValue)). IsOfHistory (base index) index line.history (place + 1) es) found.2
            (of_line index (place + 1) line found.0 lefts place new below told
            (subst (λ (w : ℕ). AtPlace w found.0 lefts place) (omega arith) (at_place 1 services lefts olds news place found.0 work found.1)));
        others = subst (λ (n : ℕ). All (λ (entry : Entry). (0 < entry.worker) × (entry.worker ≤ n)) (commits line.history)) (sym (length-map services (events_of {K = K} {F = FrontValue}) ∙ size))
            (All-from_recursion (λ (entry : Entry). (0 < entry.worker) × (entry.worker ≤ workers)) (commits line.history) (by_workers workers line.history (published line.history line.waiting).0 by));
      })
