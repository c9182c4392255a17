-- What a worker's lines left in doubt stands beside its token, and is of the index's history.
use Rattle.std.proofs.Common.{◌≡◌, ◌⊎◌, inl, inr, ℕ, ◌+◌, ◌<◌, ◌==◌, ◌&&◌, zero, suc, Bool, true, false, List, [], ◌∷◌, ◌++◌, length, map, set, Option, Some, None, slice_get, refl, sym, ap, subst, ◌∙◌, arith, append_assoc}
use Rattle.std.specs.List.{AllByRecursion, flat_map}
use Rattle.std.specs.Option.{option_to_list}
use Rattle.std.proofs.lemmas.Bool.{and_left, cases_eq, eq-eqb, ne_eqb}
use Rattle.std.proofs.lemmas.List.Elements.{recursion_from_All}
use Rattle.std.proofs.lemmas.Option.{slice_get_within}
use mathlib.Core.List.{IsPrefix}
use Rattle.srch_base.specs.declared.door.Door.{Ghosts as DoorWords}
use Rattle.srch_base.specs.declared.link.Link.{Ghosts as LinkWords}
use Rattle.chunk_store.specs.declared.disk.Disk.{Ghosts as DiskWords}
use Rattle.commit_outcomes.specs.declared.outcome.CommitOutcome.{CommitOutcome}
use Rattle.doc_types.specs.declared.schema.Schema.{Schema}
use Rattle.doc_types.specs.declared.transactions.TxnOp.{TxnOp}
use Rattle.index_conf.specs.declared.conf.IndexConf.{IndexConf}
use Rattle.ql_session.specs.Events.{Event, Configured, Nothing, NoMemory, Read, Commit, Reshape}
use Rattle.ql_session.specs.JobOutcome.{JobOutcome}
use Rattle.ql_session.specs.Machines.{FollowAll}
use Rattle.snap_share.specs.Answers.{seen_by}
use Rattle.snap_share.specs.Closings.{IsOnLine}
use Rattle.step_book.specs.Fronts.{FrontValue}
use Rattle.step_book.specs.Tellings.{AtOpening}
use Rattle.step_book.proofs.Prefixes.{prefix_self}
use Rattle.step_history.specs.History.{Base, Step}
use Rattle.step_history.specs.declared.job.Job.{Job}
use Rattle.step_line.specs.Lines.{new_token}
use Rattle.step_tokens.specs.Tokens.{Agrees, TokenValue}
use Rattle.engine_tables.specs.Endings.{HaveEnded}
use Rattle.engine_tables.specs.Outcomes.{Tells, TellsJob}
use Rattle.engine_tables.specs.Tokens.{TokensValue, tokens_at}
use Rattle.engine_tables.specs.Workers.{CommitsBy, Grows, ReshapesBy, WorkerValue}
use Rattle.engine_tables.specs.declared.ended.Ended.{Ended}
use Rattle.line_workers.specs.Attempts.{attempts_on, events_of, is_of}
use Rattle.line_workers.specs.Doubts.{AreSettled, IsSettledSo, IsWanted, doubts, is_doubtful, is_doubtful_job}
use Rattle.line_workers.specs.Lines.{Service}
use Rattle.line_workers.specs.Workers.{AllWork, CountsThem, first_tokens}
use Rattle.line_workers.specs.declared.seat.Seat.{Seat}
use Rattle.line_workers.proofs.Keeping.{Does, IsShort, Keeps, commit_does, goes_from, grown_keeps, job_does, keeps_still, keeps_then, line_within, none_same, wanted_as}
use Rattle.line_workers.proofs.Moving.{Leads, follow_cut}
use Rattle.line_workers.proofs.Places.{get_set_other, get_set_same, some_is, zip_at}
use Rattle.line_workers.proofs.Sharing.{all_counted}
use Rattle.line_workers.proofs.Whole.{at_place, first_token, services_at, worker_follows}

module _ (schema : ℕ → Schema) (base : ℕ → Base) (index : ℕ) where
  -- what the token of the index is after an event
  record IsLeftSo (old : TokenValue) (event : Event FrontValue) (after : List TokenValue) : Type 0 where
    pub new : TokenValue
    pub at : slice_get after index ≡ Some new
    pub does : Does (base index) old event (is_of doubts index event) new

  -- and after events
  record IsKeptSo (old : TokenValue) (after : List TokenValue) : Type 0 where
    pub new : TokenValue
    pub at : slice_get after index ≡ Some new
    pub keeps : IsShort old → Keeps old new

  quiet : (old : TokenValue) (event : Event FrontValue) (olds news : List TokenValue) → is_of doubts index event ≡ false → news ≡ olds → slice_get olds index ≡ Some old → IsLeftSo old event news
  quiet old event olds news none is at = record {
    new = old;
    at = ap (λ (l : List TokenValue). slice_get l index) is ∙ at;
    does = subst (λ (b : Bool). Does (base index) old event b old) (sym none) (none_same (base index) old old event refl);
  }

  grown_does : (old new : TokenValue) (event : Event FrontValue) → Grows old new → Does (base index) old event false new
  grown_does old new event grows = record { keeps = grown_keeps old new grows; left = λ is. absurd (cc is) }

  grown : (old : TokenValue) (event : Event FrontValue) (news : List TokenValue) → is_of doubts index event ≡ false → (new : TokenValue) × (slice_get news index ≡ Some new) × Grows old new → IsLeftSo old event news
  grown old event news none found = record {
    new = found.0;
    at = found.1;
    does = subst (λ (b : Bool). Does (base index) old event b found.0) (sym none) (grown_does old found.0 event found.2);
  }

  -- something more before it
  after_growing : (old mid new : TokenValue) (event : Event FrontValue) (doubtful : Bool) → Grows old mid → Does (base index) mid event doubtful new → Does (base index) old event doubtful new
  after_growing old mid new event doubtful grows does = record {
    keeps = λ short. let first = grown_keeps old mid grows short in keeps_then old mid new first (does.keeps first.short);
    left = λ is. let left = does.left is in (left.0, left.1, subst (λ (w : ℕ). IsWanted (base index) w new.made event left.0) (ap (λ (t : TokenValue). t.worker) grows.is) left.2);
  }

  commit_left : (old mid : TokenValue) (mids news : TokensValue) (place : ℕ) (ops : List TxnOp) (outcome : CommitOutcome) (front : FrontValue) → Grows old mid → slice_get mids.list index ≡ Some mid
      → CommitsBy schema base mids place ops outcome front news → (place ≡ index) ⊎ (place ≡ index → ⊥) → IsLeftSo old (Commit place ops outcome front) news.list
  commit_left old mid mids news place ops outcome front grows at made (inl here) =
      let before : made.before ≡ mid = some_is made.before mid (sym (subst (λ (p : ℕ). slice_get mids.list p ≡ Some made.before) here made.at) ∙ at) in
      let tells : Tells (schema index) (base index) mid ops outcome made.after =
      subst (λ (t : TokenValue). Tells (schema index) (base index) t ops outcome made.after) before (subst (λ (p : ℕ). Tells (schema p) (base p) made.before ops outcome made.after) here made.tells) in
      let event : Event FrontValue = Commit place ops outcome front in
      let kind : is_of doubts index event ≡ is_doubtful outcome = ap (λ (b : Bool). b && is_doubtful outcome) (eq-eqb place index here) in
      let does : Does (base index) mid event (is_doubtful outcome) made.after =
      subst (λ (f : FrontValue). Does (base index) mid (Commit place ops outcome f) (is_doubtful outcome) made.after) (sym made.is) (commit_does (schema index) (base index) place mid made.after ops outcome tells) in
      record {
        new = made.after;
        at = ap (λ (t : TokensValue). slice_get t.list index) made.left ∙ ap (λ (p : ℕ). slice_get (set mids.list p made.after) index) here ∙ get_set_same mids.list index mid made.after at;
        does = subst (λ (b : Bool). Does (base index) old event b made.after) (sym kind) (after_growing old mid made.after event (is_doubtful outcome) grows does);
      }
  commit_left old mid mids news place ops outcome front grows at made (inr apart) =
      let event : Event FrontValue = Commit place ops outcome front in
      let kind : is_of doubts index event ≡ false = and_left (place == index) (is_doubtful outcome) (ne_eqb place index apart) in
      record {
        new = mid;
        at = ap (λ (t : TokensValue). slice_get t.list index) made.left ∙ get_set_other mids.list place index made.after apart ∙ at;
        does = subst (λ (b : Bool). Does (base index) old event b mid) (sym kind) (grown_does old mid event grows);
      }

  job_left : (old mid : TokenValue) (mids news : TokensValue) (place : ℕ) (job : Job) (outcome : JobOutcome) (own front : FrontValue) → Grows old mid → slice_get mids.list index ≡ Some mid
      → ReshapesBy schema base mids place job outcome own front news → (place ≡ index) ⊎ (place ≡ index → ⊥) → IsLeftSo old (Reshape place job outcome own front) news.list
  job_left old mid mids news place job outcome own front grows at made (inl here) =
      let before : made.before ≡ mid = some_is made.before mid (sym (subst (λ (p : ℕ). slice_get mids.list p ≡ Some made.before) here made.at) ∙ at) in
      let tells : TellsJob (schema index) (base index) mid job outcome made.after =
      subst (λ (t : TokenValue). TellsJob (schema index) (base index) t job outcome made.after) before (subst (λ (p : ℕ). TellsJob (schema p) (base p) made.before job outcome made.after) here made.tells) in
      let event : Event FrontValue = Reshape place job outcome own front in
      let kind : is_of doubts index event ≡ is_doubtful_job outcome = ap (λ (b : Bool). b && is_doubtful_job outcome) (eq-eqb place index here) in
      let began : own ≡ seen_by mid = made.began ∙ ap seen_by before in
      let does : Does (base index) mid event (is_doubtful_job outcome) made.after =
      subst (λ (o : FrontValue). Does (base index) mid (Reshape place job outcome o front) (is_doubtful_job outcome) made.after) (sym began)
      (subst (λ (f : FrontValue). Does (base index) mid (Reshape place job outcome (seen_by mid) f) (is_doubtful_job outcome) made.after) (sym made.is) (job_does (schema index) (base index) place mid made.after job outcome tells)) in
      record {
        new = made.after;
        at = ap (λ (t : TokensValue). slice_get t.list index) made.left ∙ ap (λ (p : ℕ). slice_get (set mids.list p made.after) index) here ∙ get_set_same mids.list index mid made.after at;
        does = subst (λ (b : Bool). Does (base index) old event b made.after) (sym kind) (after_growing old mid made.after event (is_doubtful_job outcome) grows does);
      }
  job_left old mid mids news place job outcome own front grows at made (inr apart) =
      let event : Event FrontValue = Reshape place job outcome own front in
      let kind : is_of doubts index event ≡ false = and_left (place == index) (is_doubtful_job outcome) (ne_eqb place index apart) in
      record {
        new = mid;
        at = ap (λ (t : TokensValue). slice_get t.list index) made.left ∙ get_set_other mids.list place index made.after apart ∙ at;
        does = subst (λ (b : Bool). Does (base index) old event b mid) (sym kind) (grown_does old mid event grows);
      }

  event_left : (old new : WorkerValue) (event : Event FrontValue) (token : TokenValue) → slice_get old.tokens.list index ≡ Some token → Leads schema base index old event new → IsLeftSo token event new.tokens.list
  event_left old new (Configured confs) token at follows = quiet token (Configured confs) old.tokens.list new.tokens.list refl (ap (λ (w : WorkerValue). w.tokens.list) follows.1) at
  event_left old new Nothing token at follows = quiet token Nothing old.tokens.list new.tokens.list refl (ap (λ (w : WorkerValue). w.tokens.list) follows) at
  event_left old new NoMemory token at follows = grown token NoMemory new.tokens.list refl (zip_at Grows old.tokens.list new.tokens.list index token follows.1.1 at)
  event_left old new (Read place front) token at follows = grown token (Read place front) new.tokens.list refl (zip_at Grows old.tokens.list new.tokens.list index token follows.0.1.1 at)
  event_left old new (Commit place ops outcome front) token at follows =
      let found = zip_at Grows old.tokens.list follows.0.tokens.list index token follows.1.1.1 at in
      commit_left token found.0 follows.0.tokens new.tokens place ops outcome front found.2 found.1 follows.2.1 (cases_eq place index)
  event_left old new (Reshape place job outcome own front) token at follows =
      let found = zip_at Grows old.tokens.list follows.0.tokens.list index token follows.1.1.1 at in
      job_left token found.0 follows.0.tokens new.tokens place job outcome own front found.2 found.1 follows.3.1 (cases_eq place index)

  -- events one after another
  events_kept : (old new : WorkerValue) (events : List (Event FrontValue)) (token : TokenValue) → slice_get old.tokens.list index ≡ Some token → FollowAll (Leads schema base index) old events new → IsKeptSo token new.tokens.list
  events_kept old new [] token at follows = record {
    new = token;
    at = ap (λ (w : WorkerValue). slice_get w.tokens.list index) follows ∙ at;
    keeps = keeps_still token token refl (prefix_self token.seen) refl;
  }
  events_kept old new (event ∷ events) token at follows =
      let first = event_left old follows.0 event token at follows.1 in
      let rest = events_kept follows.0 new events first.new first.at follows.2 in
      record {
        new = rest.new;
        at = rest.at;
        keeps = λ short. let one = first.does.keeps short in keeps_then token first.new rest.new one (rest.keeps one.short);
      }

  -- What the token keeps in the end begins with what a call among the events left in doubt.
  record IsStill (token : TokenValue) (worker number : ℕ) (event : Event FrontValue) (after : List TokenValue) : Type 0 where
    pub new : TokenValue
    pub at : slice_get after index ≡ Some new
    pub wanted : List Step
    pub is : IsWanted (base index) worker number event wanted
    pub entered : List Step
    pub keeps : new.entered ≡ Some entered
    pub begins : IsPrefix wanted entered

  still : (old new : WorkerValue) (before : List (Event FrontValue)) (event : Event FrontValue) (later : List (Event FrontValue)) (token : TokenValue) → slice_get old.tokens.list index ≡ Some token → IsShort token
      → FollowAll (Leads schema base index) old (before ++ event ∷ later) new → is_of doubts index event ≡ true → IsStill token token.worker (token.made + length (attempts_on index (before ++ event ∷ []))) event new.tokens.list
  still old new before event later token at short follows doubtful =
      let whole : FollowAll (Leads schema base index) old ((before ++ event ∷ []) ++ later) new =
      subst (λ (es : List (Event FrontValue)). FollowAll (Leads schema base index) old es new) (sym (append_assoc before (event ∷ []) later)) follows in
      let cut = follow_cut (Leads schema base index) (before ++ event ∷ []) later old new whole in
      let inner = follow_cut (Leads schema base index) before (event ∷ []) old cut.0 cut.1 in
      let first = events_kept old inner.0 before token at inner.1 in
      let kept = first.keeps short in
      let lead : Leads schema base index inner.0 event cut.0 = subst (λ (w : WorkerValue). Leads schema base index inner.0 event w) (sym inner.2.2) inner.2.1 in
      let one = event_left inner.0 cut.0 event first.new first.at lead in
      let left = one.does.left doubtful in
      let here = one.does.keeps kept.short in
      let rest = events_kept cut.0 new later one.new one.at cut.2 in
      let goes = goes_from one.new.entered rest.new.entered left.0 left.1 (rest.keeps here.short).goes in
      let counts : CountsThem index (before ++ event ∷ []) token one.new = all_counted schema base index old cut.0 (before ++ event ∷ []) token one.new at one.at cut.1 in
      record {
        new = rest.new;
        at = rest.at;
        wanted = left.0;
        is = wanted_as (base index) token.worker first.new.worker (token.made + length (attempts_on index (before ++ event ∷ []))) one.new.made event left.0 kept.own counts.made left.2;
        entered = goes.0;
        keeps = goes.1;
        begins = goes.2;
      }

-- the element that is kept of one at a place has what all that are kept have
first_has : {B : Type 0} (P : B → Type 0) (first : Option B) (rest : List B) (y : B) → first ≡ Some y → AllByRecursion P (option_to_list first ++ rest) → P y
first_has P None rest y is all = absurd (cc is)
first_has {B} P (Some x) rest y is all = subst (λ (z : B). P z) (some_is x y is) all.0

rest_has : {B : Type 0} (P : B → Type 0) (first : Option B) (rest : List B) → AllByRecursion P (option_to_list first ++ rest) → AllByRecursion P rest
rest_has P None rest all = all
rest_has P (Some x) rest all = all.1

kept_has : {A B : Type 0} (P : B → Type 0) (f : A → Option B) (xs : List A) (i : ℕ) (x : A) (y : B) → AllByRecursion P (flat_map (λ x. option_to_list (f x)) xs) → slice_get xs i ≡ Some x → f x ≡ Some y → P y
kept_has P f [] i x y all at is = absurd (cc at)
kept_has {A} P f (w ∷ xs) zero x y all at is = first_has P (f w) (flat_map (λ (x : A). option_to_list (f x)) xs) y (ap f (some_is w x at) ∙ is) all
kept_has {A} P f (w ∷ xs) (suc i) x y all at is = kept_has P f xs i x y (rest_has P (f w) (flat_map (λ (x : A). option_to_list (f x)) xs) all) at is

-- what is on one line with the history
settled_so : (base : Base) (history : List Step) (worker number : ℕ) (event : Event FrontValue) (wanted entered : List Step) (token : TokenValue) → IsWanted base worker number event wanted → token.entered ≡ Some entered → IsPrefix wanted entered
    → IsOnLine history token → IsSettledSo base history worker number event
settled_so base history worker number event wanted entered token is keeps begins on =
    (wanted, is, line_within wanted entered history begins (subst (λ (o : Option (List Step)). Agrees o history) keeps on.entered))

module _ {D E K J : Type 0} (disk : DiskWords D) (door : DoorWords E K) (link : LinkWords K) (schema : ℕ → Schema) (base : ℕ → Base) (opened : ℕ → AtOpening) (confs : List IndexConf) (workers sessions : ℕ) (services : List (List (Service K FrontValue))) (lefts : List TokensValue) (olds news : List (Seat E J K))
    (ends : List (Ended D J)) (work : AllWork door link schema base confs workers sessions 1 services lefts olds news) (ended : HaveEnded disk schema base opened (length confs) workers lefts ends) where
  -- what a worker left in doubt is of the history of the index
  one_settles : (index : ℕ) (end : Ended D J) (note : FrontValue) (place : ℕ) (own before : List (Event FrontValue)) (event : Event FrontValue) (later : List (Event FrontValue)) → slice_get ends index ≡ Some end → end.note ≡ Some note
      → slice_get (map events_of services) place ≡ Some own → own ≡ before ++ event ∷ later → is_of doubts index event ≡ true → IsSettledSo (base index) note.steps (place + 1) (length (attempts_on index (before ++ event ∷ []))) event
  one_settles index end note place own before event later at noted own_at cut doubtful =
      let (its, is, new, closes) = ended.each index end at in
      let (line, left, says) = closes in
      let below : index < length confs = omega (arith, slice_get_within ends index end at, ended.many) in
      let found = services_at services place own own_at in
      let there = at_place J door link schema base confs workers sessions 1 services lefts olds news place found.0 work found.1 in
      let worker : ℕ = 1 + place in
      let number : ℕ = length (attempts_on index (before ++ event ∷ [])) in
      let first : WorkerValue = record { confs = confs; tokens = first_tokens confs worker } in
      let last : WorkerValue = record { confs = confs; tokens = there.left } in
      let follows = subst (λ (es : List (Event FrontValue)). FollowAll (Leads schema base index) first es last) (found.2 ∙ cut)
      (worker_follows door link schema base confs workers worker sessions found.0 there.old.door there.new.door there.new.end (first_tokens confs worker) there.left there.works.serves) in
      let so = still schema base index first last before event later (new_token index worker []) (first_token worker (length confs) index below) tt follows doubtful in
      let on : IsOnLine its.steps so.new =
      kept_has (IsOnLine its.steps) (λ (tokens : TokensValue). slice_get tokens.list index) lefts place there.left so.new (recursion_from_All (IsOnLine its.steps) (tokens_at index lefts) left.fronts) there.at so.at in
      let is_wanted : IsWanted (base index) worker number event so.wanted = wanted_as (base index) worker worker number (0 + number) event so.wanted refl (omega arith) so.is in
      let settled : IsSettledSo (base index) its.steps worker number event = settled_so (base index) its.steps worker number event so.wanted so.entered so.new is_wanted so.keeps so.begins on in
      subst (λ (f : FrontValue). IsSettledSo (base index) f.steps (place + 1) number event) (some_is its note (sym is ∙ noted))
      (subst (λ (w : ℕ). IsSettledSo (base index) its.steps w number event) (omega arith) settled)

  pub all_settle : (index : ℕ) (end : Ended D J) (note : FrontValue) → slice_get ends index ≡ Some end → end.note ≡ Some note → AreSettled (base index) index note.steps (map events_of services)
  all_settle index end note at noted = record { each = λ place own before event later own_at cut doubtful. one_settles index end note place own before event later at noted own_at cut doubtful }
