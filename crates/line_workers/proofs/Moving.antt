-- What the events of a worker's lines do to its token of one index.
use Rattle.std.proofs.Common.{◌≡◌, ◌⊎◌, inl, inr, ℕ, ◌+◌, ◌==◌, ◌&&◌, Bool, true, false, List, [], ◌∷◌, ◌++◌, length, length-set, set, Option, Some, slice_get, refl, sym, ap, subst, ◌∙◌}
use Rattle.std.proofs.lemmas.Bool.{and_left, and_right, cases_eq, ne_eqb}
use mathlib.Core.List.{IsPrefix}
use Rattle.srch_base.specs.declared.link.Link.{Ghosts as LinkWords}
use Rattle.commit_outcomes.specs.declared.outcome.CommitOutcome.{CommitOutcome}
use Rattle.commit_outcomes.specs.declared.outcome.CommitOutcome.TheVariants as outcomes
use Rattle.commit_outcomes.specs.declared.outcome.Doubt.{Doubt}
use Rattle.doc_types.specs.declared.schema.Schema.{Schema}
use Rattle.doc_types.specs.declared.transactions.TxnOp.{TxnOp}
use Rattle.doc_types.specs.Commits.{Entry}
use Rattle.doc_types.specs.Snapshots.{SnapshotValue}
use Rattle.index_conf.specs.declared.conf.IndexConf.{IndexConf}
use Rattle.step_book.specs.Fronts.{FrontValue}
use Rattle.step_book.proofs.Prefixes.{prefix_self, prefix_trans}
use Rattle.step_history.specs.History.{Base, Step, made_by}
use Rattle.step_history.specs.History as history
use Rattle.step_tokens.specs.Tokens.{TokenValue}
use Rattle.store_steps.specs.Answers.{Becomes}
use Rattle.snap_share.specs.Answers.{Advances, Stays, seen_by}
use Rattle.ql_session.specs.Events.{Event, Configured, Nothing, NoMemory, Read, Commit, Reshape, Follows, StoreWords}
use Rattle.ql_session.specs.JobOutcome.{JobOutcome}
use Rattle.ql_session.specs.JobOutcome.TheVariants as job_outcomes
use Rattle.step_history.specs.declared.job.Job.{Job}
use Rattle.ql_session.specs.Machines.{FollowAll}
use Rattle.engine_tables.specs.Outcomes.{HasNoRoom, Tells, TellsEnd, TellsJob}
use Rattle.engine_tables.specs.Tokens.{TokensValue}
use Rattle.engine_tables.specs.Workers.{CommitsBy, Grows, ReshapesBy, WorkerValue, by_tokens}
use Rattle.line_workers.specs.Attempts.{OnFront, OnLast, events_of, has_job_note, has_note, is_attempt, is_noted, may_stand}
use Rattle.line_workers.specs.Histories.{HasItsEnd}
use Rattle.line_workers.specs.Lines.{Service, ServesLines}
use Rattle.line_workers.proofs.Places.{get_set_other, get_set_same, some_is, zip_at, zip_long}

-- The token has seen what it had seen, or more, and counts so many commits. What shares it has, and what it left in doubt, is open.
pub record Goes (old new : TokenValue) (made : ℕ) : Type 0 where
  pub is : new ≡ record old { seen = new.seen; made = made; faults = new.faults; stops = new.stops; entered = new.entered }
  pub seen : IsPrefix old.seen new.seen

-- As many entries of what the token has seen are its worker's as the token counts.
abbrev pub HasAll : TokenValue → Type 0
HasAll token = made_by token.worker token.seen ≡ token.made

-- A commit of these operations ends what the token has seen. As many entries of that are its worker's as the token counts.
pub record IsCommit (base : Base) (old : TokenValue) (ops : List TxnOp) (removed : ℕ) (new : TokenValue) : Type 0 where
  pub earlier : List Step
  pub entry : Entry
  pub snapshot : SnapshotValue
  pub last : new.seen ≡ earlier ++ history.Commit entry snapshot ∷ []
  pub before : IsPrefix old.seen earlier
  pub becomes : Becomes base earlier old.worker ops entry snapshot removed
  pub counts : HasAll new

-- The front is of a moment of the token between these two.
pub record IsAmid (old new : TokenValue) (front : FrontValue) : Type 0 where
  pub first : IsPrefix old.seen front.steps
  pub rest : IsPrefix front.steps new.seen

-- What an event showed of the index at this place: fronts of moments of its token between these two, at last what the token has seen
-- then; and a job that has ended ended the last front.
pub record Shows (base : Base) (index : ℕ) (old : TokenValue) (event : Event FrontValue) (new : TokenValue) : Type 0 where
  pub amid : OnFront index (IsAmid old new) event
  pub last : OnLast index (λ front. front ≡ seen_by new) event
  pub ends : HasItsEnd base index event

-- What one event does to a token of the index at this place: it may have seen more, made a commit, or left one in doubt.
pub data Moved (base : Base) (index : ℕ) (old : TokenValue) (event : Event FrontValue) (new : TokenValue) : Type 0 where
  Looked : Goes old new old.made → is_attempt index event ≡ false → (is_noted index event ≡ true → HasAll new) → Shows base index old event new → Moved base index old event new
  Made : (ops : List TxnOp) (removed : ℕ) → event ≡ Commit index ops (outcomes.Committed removed) (seen_by new) → Goes old new (old.made + 1) → IsCommit base old ops removed new → Moved base index old event new
  Doubted : (ops : List TxnOp) (doubt : Doubt) → event ≡ Commit index ops (outcomes.InDoubt doubt) (seen_by new) → Goes old new (old.made + 1) → made_by new.worker new.seen + 1 ≡ new.made → Moved base index old event new

-- it went on, and then once more
pub go_then : (a b c : TokenValue) (made : ℕ) → Goes a b a.made → Goes b c made → Goes a c made
go_then a b c made first next = record {
  is = next.is ∙ ap (λ (t : TokenValue). record t { seen = c.seen; made = made; faults = c.faults; stops = c.stops; entered = c.entered }) first.is;
  seen = prefix_trans a.seen b.seen c.seen first.seen next.seen;
}

pub stays : (token : TokenValue) → Goes token token token.made
stays token = record { is = refl; seen = prefix_self token.seen }

-- all but the index and the worker is of this token
abbrev Carries : TokenValue → ℕ → TokenValue → Type 0
Carries old made new = new ≡ record old { seen = new.seen; made = made; faults = new.faults; stops = new.stops; entered = new.entered }

grown : (old new : TokenValue) → Grows old new → Goes old new old.made
grown old new grows = record { is = subst (Carries old old.made) (sym grows.is) refl; seen = grows.seen }

pub advanced : (schema : Schema) (base : Base) (old new : TokenValue) (made : ℕ) (entered : Option (List Step)) → Advances schema base old new made entered → Goes old new made
advanced schema base old new made entered advances = record { is = subst (Carries old made) (sym advances.is) refl; seen = advances.seen }

-- nothing changed but shares
pub kept_still : (old new : TokenValue) → Stays old new → Goes old new old.made
kept_still old new still = record {
  is = subst (Carries old old.made) (sym still) refl;
  seen = subst (IsPrefix old.seen) (sym (ap (λ (t : TokenValue). t.seen) still)) (prefix_self old.seen);
}

pub same_worker : (a b : TokenValue) (made : ℕ) → Goes a b made → b.worker ≡ a.worker
same_worker a b made goes = ap (λ (t : TokenValue). t.worker) goes.is

pub has_made : (a b : TokenValue) (made : ℕ) → Goes a b made → b.made ≡ made
has_made a b made goes = ap (λ (t : TokenValue). t.made) goes.is

one_made : (a b c : TokenValue) → Goes a b a.made → Goes b c (b.made + 1) → Goes a c (a.made + 1)
one_made a b c first next = go_then a b c (a.made + 1) first (subst (λ (n : ℕ). Goes b c (n + 1)) (has_made a b a.made first) next)

none_made : (a b c : TokenValue) → Goes a b a.made → Goes b c b.made → Goes a c a.made
none_made a b c first next = go_then a b c a.made first (subst (λ (n : ℕ). Goes b c n) (has_made a b a.made first) next)

-- a commit by a token that had seen more before
commit_after : (base : Base) (a b c : TokenValue) (ops : List TxnOp) (removed : ℕ) → Goes a b a.made → IsCommit base b ops removed c → IsCommit base a ops removed c
commit_after base a b c ops removed first made = record {
  earlier = made.earlier;
  entry = made.entry;
  snapshot = made.snapshot;
  last = made.last;
  before = prefix_trans a.seen b.seen made.earlier first.seen made.before;
  becomes = subst (λ (w : ℕ). Becomes base made.earlier w ops made.entry made.snapshot removed) (same_worker a b a.made first) made.becomes;
  counts = made.counts;
}

-- both are true
second_true : (a b : Bool) → (a && b) ≡ true → b ≡ true
second_true true b both = both
second_true false b both = absurd (cc both)

-- a commit shows what the token has seen then
shows_last : (base : Base) (index : ℕ) (old new : TokenValue) (ops : List TxnOp) (outcome : CommitOutcome) → IsPrefix old.seen new.seen → Shows base index old (Commit index ops outcome (seen_by new)) new
shows_last base index old new ops outcome up = record { amid = λ here. record { first = up; rest = prefix_self new.seen }; last = λ here. refl; ends = tt }

-- one of another index shows nothing of this one
shows_nothing : (base : Base) (index place : ℕ) (old new : TokenValue) (ops : List TxnOp) (outcome : CommitOutcome) (front : FrontValue) → (place ≡ index → ⊥) → Shows base index old (Commit place ops outcome front) new
shows_nothing base index place old new ops outcome front apart = record { amid = λ here. absurd (apart here); last = λ here. absurd (apart here); ends = tt }

looked : (base : Base) (index : ℕ) (old mid new : TokenValue) (ops : List TxnOp) (outcome : CommitOutcome) → may_stand outcome ≡ false → (has_note outcome ≡ true → HasAll new) → Goes old mid old.made → Goes mid new mid.made
    → Moved base index old (Commit index ops outcome (seen_by new)) new
looked base index old mid new ops outcome none tells first next =
    Looked (none_made old mid new first next) (and_right (index == index) (may_stand outcome) none) (λ noted. tells (second_true (index == index) (has_note outcome) noted)) (shows_last base index old new ops outcome (prefix_trans old.seen mid.seen new.seen first.seen next.seen))

-- a commit to the index by its token, which had seen more before
told_here : (schema : Schema) (base : Base) (index : ℕ) (old mid new : TokenValue) (ops : List TxnOp) (outcome : CommitOutcome) → Goes old mid old.made → Tells schema base mid ops outcome new
    → Moved base index old (Commit index ops outcome (seen_by new)) new
told_here schema base index old mid new ops (outcomes.Committed removed) first tells =
    Made ops removed refl (one_made old mid new first (advanced schema base mid new (mid.made + 1) _ tells.0)) (commit_after base old mid new ops removed first (record {
      earlier = tells.2.1.earlier;
      entry = tells.2.1.entry;
      snapshot = tells.2.1.snapshot;
      last = tells.2.1.last;
      before = tells.2.1.before;
      becomes = tells.2.1.becomes;
      counts = tells.1.counts;
    }))
told_here schema base index old mid new ops (outcomes.InDoubt doubt) first tells = Doubted ops doubt refl (one_made old mid new first (advanced schema base mid new (mid.made + 1) _ tells.0)) tells.1.counts
told_here schema base index old mid new ops (outcomes.Duplicate id) first tells = looked base index old mid new ops (outcomes.Duplicate id) refl (λ noted. tells.1.counts) first (advanced schema base mid new mid.made _ tells.0)
told_here schema base index old mid new ops (outcomes.Full full) first tells = looked base index old mid new ops (outcomes.Full full) refl (λ noted. tells.1.counts) first (advanced schema base mid new mid.made _ tells.0)
told_here schema base index old mid new ops outcomes.Refused first tells = looked base index old mid new ops outcomes.Refused refl (λ noted. absurd (cc noted)) first (advanced schema base mid new mid.made _ tells)
told_here schema base index old mid new ops (outcomes.Strayed numbers) first tells =
    looked base index old mid new ops (outcomes.Strayed numbers) refl (λ noted. absurd (cc noted)) first (kept_still mid new tells.0)

-- the token of the index once an event has passed
pub record IsMoved (base : Base) (index : ℕ) (old : TokenValue) (event : Event FrontValue) (after : List TokenValue) : Type 0 where
  pub new : TokenValue
  pub at : slice_get after index ≡ Some new
  pub moved : Moved base index old event new

commit_here : (schema : Schema) (base : Base) (index : ℕ) (old mid before after : TokenValue) (mids : List TokenValue) (ops : List TxnOp) (outcome : CommitOutcome) → Goes old mid old.made
    → slice_get mids index ≡ Some mid → slice_get mids index ≡ Some before → Tells schema base before ops outcome after → IsMoved base index old (Commit index ops outcome (seen_by after)) (set mids index after)
commit_here schema base index old mid before after mids ops outcome first at same tells = record {
  new = after;
  at = get_set_same mids index mid after at;
  moved = told_here schema base index old mid after ops outcome first (subst (λ (t : TokenValue). Tells schema base t ops outcome after) (some_is before mid (sym same ∙ at)) tells);
}

commit_elsewhere : (base : Base) (index place : ℕ) (old mid after : TokenValue) (mids : List TokenValue) (ops : List TxnOp) (outcome : CommitOutcome) (front : FrontValue) → Goes old mid old.made
    → slice_get mids index ≡ Some mid → (place ≡ index → ⊥) → IsMoved base index old (Commit place ops outcome front) (set mids place after)
commit_elsewhere base index place old mid after mids ops outcome front first at apart = record {
  new = mid;
  at = get_set_other mids place index after apart ∙ at;
  moved = Looked first (and_left (place == index) (may_stand outcome) (ne_eqb place index apart)) (λ noted. absurd (let none = and_left (place == index) (has_note outcome) (ne_eqb place index apart) in cc (none, noted)))
      (shows_nothing base index place old mid ops outcome front apart);
}

-- what a job says: it went on and counted no commit, with a note all that it counts is there, and its end is where it has ended
pub record IsWorked (base : Base) (index : ℕ) (job : Job) (outcome : JobOutcome) (old new : TokenValue) : Type 0 where
  pub goes : Goes old new old.made
  pub noted : has_job_note outcome ≡ true → HasAll new
  pub ends : HasItsEnd base index (Reshape index job outcome (seen_by old) (seen_by new))

stays_made : (old new : TokenValue) → new ≡ old → Goes old new old.made
stays_made old new same = subst (λ (t : TokenValue). Goes old t old.made) (sym same) (stays old)

ended : (schema : Schema) (base : Base) (index : ℕ) (job : Job) (outcome : JobOutcome) (old new : TokenValue) → TellsEnd schema base old job outcome new → IsWorked base index job outcome old new
ended schema base index job job_outcomes.Shaped old new tells = record {
  goes = advanced schema base old new old.made _ tells.0;
  noted = λ noted. tells.1.counts;
  ends = λ here. record { earlier = tells.2.earlier; snapshot = tells.2.snapshot; last = tells.2.last; before = tells.2.before };
}
ended schema base index job (job_outcomes.Overtaken shape) old new tells = record { goes = advanced schema base old new old.made _ tells.0; noted = λ noted. tells.1.counts; ends = tt }
ended schema base index job (job_outcomes.Full full) old new tells = record { goes = advanced schema base old new old.made _ tells.0; noted = λ noted. absurd (cc noted); ends = tt }
ended schema base index job job_outcomes.Refused old new tells = record { goes = advanced schema base old new old.made _ tells; noted = λ noted. absurd (cc noted); ends = tt }
ended schema base index job job_outcomes.InDoubt old new tells = record { goes = advanced schema base old new old.made _ tells.0; noted = λ noted. absurd (cc noted); ends = tt }
ended schema base index job (job_outcomes.Strayed numbers) old new tells = record { goes = kept_still old new tells.0; noted = λ noted. absurd (cc noted); ends = tt }

-- and where there was no room, nothing came of it
never_asked : (base : Base) (index : ℕ) (job : Job) (outcome : JobOutcome) (old new : TokenValue) → HasNoRoom base old job outcome new → IsWorked base index job outcome old new
never_asked base index job job_outcomes.Shaped old new none = absurd none
never_asked base index job (job_outcomes.Overtaken shape) old new none = absurd none
never_asked base index job (job_outcomes.Full full) old new none = record { goes = stays_made old new none.1; noted = λ noted. absurd (cc noted); ends = tt }
never_asked base index job job_outcomes.Refused old new none = absurd none
never_asked base index job job_outcomes.InDoubt old new none = absurd none
never_asked base index job (job_outcomes.Strayed numbers) old new none = absurd none

pub worked : (schema : Schema) (base : Base) (index : ℕ) (job : Job) (outcome : JobOutcome) (old new : TokenValue) → TellsJob schema base old job outcome new → IsWorked base index job outcome old new
worked schema base index job outcome old new (inl tells) = ended schema base index job outcome old new tells.1
worked schema base index job outcome old new (inr none) = never_asked base index job outcome old new none

-- a job over the index by its token, which had seen more before
job_here : (schema : Schema) (base : Base) (index : ℕ) (old mid new : TokenValue) (job : Job) (outcome : JobOutcome) → Goes old mid old.made → TellsJob schema base mid job outcome new
    → Moved base index old (Reshape index job outcome (seen_by mid) (seen_by new)) new
job_here schema base index old mid new job outcome first tells =
    let is = worked schema base index job outcome mid new tells in
    let up = prefix_trans old.seen mid.seen new.seen first.seen is.goes.seen in
    Looked (none_made old mid new first is.goes) (and_right (index == index) false refl) (λ noted. is.noted (second_true (index == index) (has_job_note outcome) noted))
    (record { amid = λ here. (record { first = first.seen; rest = is.goes.seen }, record { first = up; rest = prefix_self new.seen }); last = λ here. refl; ends = is.ends })

-- a job that has ended, of another index
no_end : (base : Base) (index place : ℕ) (job : Job) (outcome : JobOutcome) (own front : FrontValue) → (place ≡ index → ⊥) → HasItsEnd base index (Reshape place job outcome own front)
no_end base index place job job_outcomes.Shaped own front apart = λ here. absurd (apart here)
no_end base index place job (job_outcomes.Overtaken shape) own front apart = tt
no_end base index place job (job_outcomes.Full full) own front apart = tt
no_end base index place job job_outcomes.Refused own front apart = tt
no_end base index place job job_outcomes.InDoubt own front apart = tt
no_end base index place job (job_outcomes.Strayed numbers) own front apart = tt

job_elsewhere : (base : Base) (index place : ℕ) (old mid after : TokenValue) (mids : List TokenValue) (job : Job) (outcome : JobOutcome) (own front : FrontValue) → Goes old mid old.made
    → slice_get mids index ≡ Some mid → (place ≡ index → ⊥) → IsMoved base index old (Reshape place job outcome own front) (set mids place after)
job_elsewhere base index place old mid after mids job outcome own front first at apart = record {
  new = mid;
  at = get_set_other mids place index after apart ∙ at;
  moved = Looked first (and_right (place == index) false refl) (λ noted. absurd (let none = and_left (place == index) (has_job_note outcome) (ne_eqb place index apart) in cc (none, noted)))
      (record { amid = λ here. absurd (apart here); last = λ here. absurd (apart here); ends = no_end base index place job outcome own front apart });
}

module _ (schema : ℕ → Schema) (base : ℕ → Base) (index : ℕ) where
  abbrev pub Leads : WorkerValue → Event FrontValue → WorkerValue → Type 0
  Leads = Follows (λ tables. tables.confs) (by_tokens schema base)

  stayed : (old new : WorkerValue) (token : TokenValue) (event : Event FrontValue) → is_attempt index event ≡ false → is_noted index event ≡ false → Shows (base index) index token event token → slice_get old.tokens.list index ≡ Some token → new ≡ old
      → IsMoved (base index) index token event new.tokens.list
  stayed old new token event none silent shows at same = record { new = token; at = ap (λ (w : WorkerValue). slice_get w.tokens.list index) same ∙ at; moved = Looked (stays token) none (λ noted. absurd (cc (silent, noted))) shows }

  commit_moves : (mid new : WorkerValue) (token taught : TokenValue) (place : ℕ) (ops : List TxnOp) (outcome : CommitOutcome) (front : FrontValue) → Goes token taught token.made
      → slice_get mid.tokens.list index ≡ Some taught → CommitsBy schema base mid.tokens place ops outcome front new.tokens → (place ≡ index) ⊎ (place ≡ index → ⊥)
      → IsMoved (base index) index token (Commit place ops outcome front) new.tokens.list
  commit_moves mid new token taught place ops outcome front first at made (inl here) =
      subst (λ (after : List TokenValue). IsMoved (base index) index token (Commit place ops outcome front) after) (sym (ap (λ (t : TokensValue). t.list) made.left))
      (subst (λ (f : FrontValue). IsMoved (base index) index token (Commit place ops outcome f) (set mid.tokens.list place made.after)) (sym made.is)
      (subst (λ (p : ℕ). IsMoved (base index) index token (Commit p ops outcome (seen_by made.after)) (set mid.tokens.list p made.after)) (sym here)
      (commit_here (schema index) (base index) index token taught made.before made.after mid.tokens.list ops outcome first at
      (subst (λ (p : ℕ). slice_get mid.tokens.list p ≡ Some made.before) here made.at)
      (subst (λ (p : ℕ). Tells (schema p) (base p) made.before ops outcome made.after) here made.tells))))
  commit_moves mid new token taught place ops outcome front first at made (inr apart) =
      subst (λ (after : List TokenValue). IsMoved (base index) index token (Commit place ops outcome front) after) (sym (ap (λ (t : TokensValue). t.list) made.left))
      (commit_elsewhere (base index) index place token taught made.after mid.tokens.list ops outcome front first at apart)

  job_moves : (mid new : WorkerValue) (token taught : TokenValue) (place : ℕ) (job : Job) (outcome : JobOutcome) (own front : FrontValue) → Goes token taught token.made
      → slice_get mid.tokens.list index ≡ Some taught → ReshapesBy schema base mid.tokens place job outcome own front new.tokens → (place ≡ index) ⊎ (place ≡ index → ⊥)
      → IsMoved (base index) index token (Reshape place job outcome own front) new.tokens.list
  job_moves mid new token taught place job outcome own front first at made (inl here) =
      let before : made.before ≡ taught = some_is made.before taught (sym (subst (λ (p : ℕ). slice_get mid.tokens.list p ≡ Some made.before) here made.at) ∙ at) in
      let tells : TellsJob (schema index) (base index) taught job outcome made.after =
      subst (λ (t : TokenValue). TellsJob (schema index) (base index) t job outcome made.after) before (subst (λ (p : ℕ). TellsJob (schema p) (base p) made.before job outcome made.after) here made.tells) in
      let began : own ≡ seen_by taught = made.began ∙ ap seen_by before in
      subst (λ (after : List TokenValue). IsMoved (base index) index token (Reshape place job outcome own front) after) (sym (ap (λ (t : TokensValue). t.list) made.left))
      (subst (λ (f : FrontValue). IsMoved (base index) index token (Reshape place job outcome own f) (set mid.tokens.list place made.after)) (sym made.is)
      (subst (λ (f : FrontValue). IsMoved (base index) index token (Reshape place job outcome f (seen_by made.after)) (set mid.tokens.list place made.after)) (sym began)
      (subst (λ (p : ℕ). IsMoved (base index) index token (Reshape p job outcome (seen_by taught) (seen_by made.after)) (set mid.tokens.list p made.after)) (sym here)
      (record {
        new = made.after;
        at = get_set_same mid.tokens.list index taught made.after at;
        moved = job_here (schema index) (base index) index token taught made.after job outcome first tells;
      }))))
  job_moves mid new token taught place job outcome own front first at made (inr apart) =
      subst (λ (after : List TokenValue). IsMoved (base index) index token (Reshape place job outcome own front) after) (sym (ap (λ (t : TokensValue). t.list) made.left))
      (job_elsewhere (base index) index place token taught made.after mid.tokens.list job outcome own front first at apart)

  -- what an event does to the token of the index
  event_moves : (old new : WorkerValue) (event : Event FrontValue) (token : TokenValue) → slice_get old.tokens.list index ≡ Some token → Leads old event new → IsMoved (base index) index token event new.tokens.list
  event_moves old new (Configured confs) token at follows = stayed old new token (Configured confs) refl refl (record { amid = tt; last = tt; ends = tt }) at follows.1
  event_moves old new Nothing token at follows = stayed old new token Nothing refl refl (record { amid = tt; last = tt; ends = tt }) at follows
  event_moves old new NoMemory token at follows =
      let found = zip_at Grows old.tokens.list new.tokens.list index token follows.1.1 at in
      record { new = found.0; at = found.1; moved = Looked (grown token found.0 found.2) refl (λ noted. absurd (cc noted)) (record { amid = tt; last = tt; ends = tt }) }
  event_moves old new (Read place front) token at follows =
      let found = zip_at Grows old.tokens.list new.tokens.list index token follows.0.1.1 at in
      let has = follows.1 in
      let is : place ≡ index → front ≡ seen_by found.0 = λ here. has.is ∙ ap seen_by (some_is has.token found.0 (sym has.at ∙ ap (λ (p : ℕ). slice_get new.tokens.list p) here ∙ found.1)) in
      record {
        new = found.0;
        at = found.1;
        moved = Looked (grown token found.0 found.2) refl (λ noted. absurd (cc noted)) (record {
          amid = λ here. subst (IsAmid token found.0) (sym (is here)) (record { first = found.2.seen; rest = prefix_self found.0.seen });
          last = is;
          ends = tt;
        });
      }
  event_moves old new (Commit place ops outcome front) token at follows =
      let found = zip_at Grows old.tokens.list follows.0.tokens.list index token follows.1.1.1 at in
      commit_moves follows.0 new token found.0 place ops outcome front (grown token found.0 found.2) found.1 follows.2.1 (cases_eq place index)
  event_moves old new (Reshape place job outcome own front) token at follows =
      let found = zip_at Grows old.tokens.list follows.0.tokens.list index token follows.1.1.1 at in
      job_moves follows.0 new token found.0 place job outcome own front (grown token found.0 found.2) found.1 follows.3.1 (cases_eq place index)

  -- events keep whose the tokens are, and of how many indexes
  one_shape : (old new : WorkerValue) (event : Event FrontValue) → Leads old event new → (new.tokens.worker ≡ old.tokens.worker) × (length new.tokens.list ≡ length old.tokens.list)
  one_shape old new (Configured confs) follows = (ap (λ (w : WorkerValue). w.tokens.worker) follows.1, ap (λ (w : WorkerValue). length w.tokens.list) follows.1)
  one_shape old new Nothing follows = (ap (λ (w : WorkerValue). w.tokens.worker) follows, ap (λ (w : WorkerValue). length w.tokens.list) follows)
  one_shape old new NoMemory follows = (follows.1.0, sym (zip_long Grows old.tokens.list new.tokens.list follows.1.1))
  one_shape old new (Read place front) follows = (follows.0.1.0, sym (zip_long Grows old.tokens.list new.tokens.list follows.0.1.1))
  one_shape old new (Commit place ops outcome front) follows =
      let mid = follows.0 in
      let made = follows.2.1 in (
        ap (λ (t : TokensValue). t.worker) made.left ∙ follows.1.1.0,
        ap (λ (t : TokensValue). length t.list) made.left ∙ length-set mid.tokens.list place made.after ∙ sym (zip_long Grows old.tokens.list mid.tokens.list follows.1.1.1),
      )
  one_shape old new (Reshape place job outcome own front) follows =
      let mid = follows.0 in
      let made = follows.3.1 in (
        ap (λ (t : TokensValue). t.worker) made.left ∙ follows.1.1.0,
        ap (λ (t : TokensValue). length t.list) made.left ∙ length-set mid.tokens.list place made.after ∙ sym (zip_long Grows old.tokens.list mid.tokens.list follows.1.1.1),
      )

  one_confs : (old new : WorkerValue) (event : Event FrontValue) → Leads old event new → new.confs ≡ old.confs
  one_confs old new (Configured confs) follows = ap (λ (w : WorkerValue). w.confs) follows.1
  one_confs old new Nothing follows = ap (λ (w : WorkerValue). w.confs) follows
  one_confs old new NoMemory follows = follows.0
  one_confs old new (Read place front) follows = follows.0.0
  one_confs old new (Commit place ops outcome front) follows = follows.2.0 ∙ follows.1.0
  one_confs old new (Reshape place job outcome own front) follows = follows.3.0 ∙ follows.1.0

  pub same_confs : (old new : WorkerValue) (events : List (Event FrontValue)) → FollowAll Leads old events new → new.confs ≡ old.confs
  same_confs old new [] follows = ap (λ (w : WorkerValue). w.confs) follows
  same_confs old new (event ∷ events) follows = same_confs follows.0 new events follows.2 ∙ one_confs old follows.0 event follows.1

  pub same_shape : (old new : WorkerValue) (events : List (Event FrontValue)) → FollowAll Leads old events new → (new.tokens.worker ≡ old.tokens.worker) × (length new.tokens.list ≡ length old.tokens.list)
  same_shape old new [] follows = (ap (λ (w : WorkerValue). w.tokens.worker) follows, ap (λ (w : WorkerValue). length w.tokens.list) follows)
  same_shape old new (event ∷ events) follows =
      let first = one_shape old follows.0 event follows.1 in
      let rest = same_shape follows.0 new events follows.2 in
      (rest.0 ∙ first.0, rest.1 ∙ first.1)

  -- and what events one after another do
  pub record AreMoved (old : TokenValue) (events : List (Event FrontValue)) (after : List TokenValue) : Type 0 where
    pub new : TokenValue
    pub at : slice_get after index ≡ Some new
    pub moves : FollowAll (Moved (base index) index) old events new

  pub events_move : (old new : WorkerValue) (events : List (Event FrontValue)) (token : TokenValue) → slice_get old.tokens.list index ≡ Some token → FollowAll Leads old events new → AreMoved token events new.tokens.list
  events_move old new [] token at follows = record { new = token; at = ap (λ (w : WorkerValue). slice_get w.tokens.list index) follows ∙ at; moves = refl }
  events_move old new (event ∷ events) token at follows =
      let first = event_moves old follows.0 event token at follows.1 in
      let rest = events_move follows.0 new events first.new first.at follows.2 in
      record { new = rest.new; at = rest.at; moves = (first.new, first.moved, rest.moves) }

pub follow_then : {D E : Type 0} (follows : D → E → D → Type 0) (xs ys : List E) (a b c : D) → FollowAll follows a xs b → FollowAll follows b ys c → FollowAll follows a (xs ++ ys) c
follow_then {D} follows [] ys a b c first next = subst (λ (d : D). FollowAll follows d ys c) first next
follow_then follows (x ∷ xs) ys a b c first next = (first.0, first.1, follow_then follows xs ys first.0 b c first.2 next)

pub follow_cut : {D E : Type 0} (follows : D → E → D → Type 0) (xs ys : List E) (a c : D) → FollowAll follows a (xs ++ ys) c → (b : D) × FollowAll follows a xs b × FollowAll follows b ys c
follow_cut follows [] ys a c all = (a, refl, all)
follow_cut follows (x ∷ xs) ys a c all = let rest = follow_cut follows xs ys all.0 c all.2 in (rest.0, (all.0, all.1, rest.1), rest.2)

-- the events of a worker's lines lead from one store to the other
pub lines_follow : {K D F : Type 0} (link : LinkWords K) (confs : D → List IndexConf) (words : StoreWords D F) (workers worker line : ℕ) (services : List (Service K F)) (old new : D) → ServesLines link confs words workers worker line services old new
    → FollowAll (Follows confs words) old (events_of services) new
lines_follow link confs words workers worker line [] old new serves = serves
lines_follow link confs words workers worker line (service ∷ services) old new serves =
    follow_then (Follows confs words) service.events (events_of services) old serves.0 new serves.1.1 (lines_follow link confs words workers worker (line + 1) services serves.0 new serves.2)
