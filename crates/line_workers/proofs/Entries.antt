-- What a worker's lines were told of an index, and its entries in the history.
use Rattle.std.proofs.Common.{◌≡◌, ◌⊎◌, inl, inr, ⊎_elim, ℕ, ◌+◌, ◌≤◌, ◌==◌, ◌&&◌, Bool, true, false, List, [], ◌∷◌, ◌++◌, length, refl, sym, ap, subst, ◌∙◌, arith, append_assoc, length-append}
use Rattle.std.specs.Prelude.{All}
use Rattle.std.proofs.lemmas.Bool.{and_right, eq-eqb}
use Rattle.std.proofs.lemmas.List.Elements.{All-cons, All-nil, All-weaker, filter-append}
use mathlib.Core.List.{IsPrefix}
use Rattle.commit_outcomes.specs.declared.outcome.CommitOutcome.{CommitOutcome}
use Rattle.commit_outcomes.specs.declared.outcome.CommitOutcome.TheVariants as outcomes
use Rattle.commit_outcomes.specs.declared.outcome.Doubt.{Doubt}
use Rattle.doc_types.specs.declared.transactions.TxnOp.{TxnOp}
use Rattle.doc_types.specs.Commits.{Entry}
use Rattle.step_book.specs.Fronts.{FrontValue}
use Rattle.step_book.proofs.Prefixes.{prefix_self, prefix_trans}
use Rattle.step_history.specs.History.{Base, Step, commits_by, made_by}
use Rattle.step_tokens.specs.Tokens.{TokenValue}
use Rattle.snap_share.specs.Answers.{seen_by}
use Rattle.ql_session.specs.Events.{Event, Configured, Nothing, NoMemory, Read, Commit, Reshape}
use Rattle.ql_session.specs.Machines.{FollowAll}
use Rattle.line_workers.specs.Attempts.{OnFront, OnLast, attempts_on, is_attempt, is_noted}
use Rattle.line_workers.specs.Histories.{AreEntriesOf, HasItsEnd, IsDoubtful, IsEntryOf, IsOfHistory}
use Rattle.line_workers.proofs.Counting.{by_one, by_prefix, made_one, made_up, same_rest}
use Rattle.line_workers.proofs.Moving.{Goes, HasAll, IsAmid, IsCommit, Moved, Looked, Made, Doubted, follow_cut, follow_then, has_made, same_worker, stays}

-- what holds of a front holds in other words too
pub on_front : {F : Type 0} (index : ℕ) (P Q : F → Type 0) → ((front : F) → P front → Q front) → (event : Event F) → OnFront index P event → OnFront index Q event
on_front index P Q weaker (Configured confs) holds = tt
on_front index P Q weaker Nothing holds = tt
on_front index P Q weaker NoMemory holds = tt
on_front index P Q weaker (Read place front) holds = λ here. weaker front (holds here)
on_front index P Q weaker (Commit place ops outcome front) holds = λ here. weaker front (holds here)
on_front index P Q weaker (Reshape place job outcome own front) holds = λ here. (weaker own (holds here).0, weaker front (holds here).1)

pub on_last : {F : Type 0} (index : ℕ) (P Q : F → Type 0) → ((front : F) → P front → Q front) → (event : Event F) → OnLast index P event → OnLast index Q event
on_last index P Q weaker (Configured confs) holds = tt
on_last index P Q weaker Nothing holds = tt
on_last index P Q weaker NoMemory holds = tt
on_last index P Q weaker (Read place front) holds = λ here. weaker front (holds here)
on_last index P Q weaker (Commit place ops outcome front) holds = λ here. weaker front (holds here)
on_last index P Q weaker (Reshape place job outcome own front) holds = λ here. weaker front (holds here)

-- the front of a commit of the index
at_commit : {F : Type 0} (index : ℕ) (P : F → Type 0) (ops : List TxnOp) (outcome : CommitOutcome) (front : F) (event : Event F) → event ≡ Commit index ops outcome front → P front → OnFront index P event
at_commit index P ops outcome front event is holds = subst (OnFront index P) (sym is) (λ here. holds)

at_last : {F : Type 0} (index : ℕ) (P : F → Type 0) (ops : List TxnOp) (outcome : CommitOutcome) (front : F) (event : Event F) → event ≡ Commit index ops outcome front → P front → OnLast index P event
at_last index P ops outcome front event is holds = subst (OnLast index P) (sym is) (λ here. holds)

attempt_skipped : {F : Type 0} (index : ℕ) (event : Event F) (events : List (Event F)) → is_attempt index event ≡ false → attempts_on index (event ∷ events) ≡ attempts_on index events
attempt_skipped index event events none = rw none refl

attempt_taken : {F : Type 0} (index : ℕ) (event : Event F) (events : List (Event F)) → is_attempt index event ≡ true → attempts_on index (event ∷ events) ≡ event ∷ attempts_on index events
attempt_taken index event events one = rw one refl

made_attempt : {F : Type 0} (index : ℕ) (ops : List TxnOp) (removed : ℕ) (front : F) (event : Event F) → event ≡ Commit index ops (outcomes.Committed removed) front → is_attempt index event ≡ true
made_attempt index ops removed front event is = ap (is_attempt index) is ∙ ap (λ (b : Bool). b && true) (eq-eqb index index refl)

doubted_attempt : {F : Type 0} (index : ℕ) (ops : List TxnOp) (doubt : Doubt) (front : F) (event : Event F) → event ≡ Commit index ops (outcomes.InDoubt doubt) front → is_attempt index event ≡ true
doubted_attempt index ops doubt front event is = ap (is_attempt index) is ∙ ap (λ (b : Bool). b && true) (eq-eqb index index refl)

module _ (base : Base) (index : ℕ) where
  abbrev pub Runs : TokenValue → List (Event FrontValue) → TokenValue → Type 0
  Runs = FollowAll (Moved base index)

  -- what the token has seen at last is of a moment between
  at_end : (old new : TokenValue) → IsPrefix old.seen new.seen → IsAmid old new (seen_by new)
  at_end old new up = record { first = up; rest = prefix_self new.seen }

  -- the fronts of an event are of moments of the token between
  pub amid : (old new : TokenValue) (event : Event FrontValue) → Moved base index old event new → OnFront index (IsAmid old new) event
  amid old new event (Looked goes none notes shows) = shows.amid
  amid old new event (Made ops removed is goes made) = at_commit index (IsAmid old new) ops (outcomes.Committed removed) (seen_by new) event is (at_end old new goes.seen)
  amid old new event (Doubted ops doubt is goes waits) = at_commit index (IsAmid old new) ops (outcomes.InDoubt doubt) (seen_by new) event is (at_end old new goes.seen)

  -- and the last one is what the token has seen then
  pub shown : (old new : TokenValue) (event : Event FrontValue) → Moved base index old event new → OnLast index (λ front. front ≡ seen_by new) event
  shown old new event (Looked goes none notes shows) = shows.last
  shown old new event (Made ops removed is goes made) = at_last index (λ (front : FrontValue). front ≡ seen_by new) ops (outcomes.Committed removed) (seen_by new) event is refl
  shown old new event (Doubted ops doubt is goes waits) = at_last index (λ (front : FrontValue). front ≡ seen_by new) ops (outcomes.InDoubt doubt) (seen_by new) event is refl

  -- a job that has ended ended its front
  end_of : (old new : TokenValue) (event : Event FrontValue) → Moved base index old event new → HasItsEnd base index event
  end_of old new event (Looked goes none notes shows) = shows.ends
  end_of old new event (Made ops removed is goes made) = subst (HasItsEnd base index) (sym is) tt
  end_of old new event (Doubted ops doubt is goes waits) = subst (HasItsEnd base index) (sym is) tt

  pub ends : (old new : TokenValue) (events : List (Event FrontValue)) → Runs old events new → All (HasItsEnd base index) events
  ends old new [] runs = All-nil (HasItsEnd base index)
  ends old new (event ∷ events) runs = All-cons (HasItsEnd base index) event events (end_of old runs.0 event runs.1) (ends runs.0 new events runs.2)

  -- an event with a note: the token has seen all that it counts
  tells_all : (old new : TokenValue) (event : Event FrontValue) → Moved base index old event new → is_noted index event ≡ true → HasAll new
  tells_all old new event (Looked goes none notes shows) noted = notes noted
  tells_all old new event (Made ops removed is goes made) noted = made.counts
  tells_all old new event (Doubted ops doubt is goes waits) noted =
      let silent : is_noted index event ≡ false = ap (is_noted index) is ∙ and_right (index == index) false refl in
      absurd (cc (silent, noted))

  -- how much one event adds to the token's count
  one_counted : (old new : TokenValue) (event : Event FrontValue) → Moved base index old event new → Goes old new (old.made + length (attempts_on index (event ∷ [])))
  one_counted old new event (Looked goes none notes shows) = subst (Goes old new) (omega (arith, ap length (attempt_skipped index event [] none))) goes
  one_counted old new event (Made ops removed is goes made) = subst (Goes old new) (omega (arith, ap length (attempt_taken index event [] (made_attempt index ops removed (seen_by new) event is)))) goes
  one_counted old new event (Doubted ops doubt is goes waits) = subst (Goes old new) (omega (arith, ap length (attempt_taken index event [] (doubted_attempt index ops doubt (seen_by new) event is)))) goes

  count_at : (event : Event FrontValue) (events : List (Event FrontValue)) (b : Bool) → is_attempt index event ≡ b → length (attempts_on index (event ∷ events)) ≡ length (attempts_on index (event ∷ [])) + length (attempts_on index events)
  count_at event events true one = omega (arith, ap length (attempt_taken index event events one), ap length (attempt_taken index event [] one))
  count_at event events false none = omega (arith, ap length (attempt_skipped index event events none), ap length (attempt_skipped index event [] none))

  -- the token counts the commits that were acknowledged or are in doubt, and has seen more at most
  pub counted : (old new : TokenValue) (events : List (Event FrontValue)) → Runs old events new → Goes old new (old.made + length (attempts_on index events))
  counted old new [] runs = subst (λ (t : TokenValue). Goes old t (old.made + 0)) (sym runs) (subst (Goes old old) (omega arith) (stays old))
  counted old new (event ∷ events) runs =
      let first = one_counted old runs.0 event runs.1 in
      let rest = counted runs.0 new events runs.2 in
      let made : runs.0.made ≡ old.made + length (attempts_on index (event ∷ [])) = has_made old runs.0 (old.made + length (attempts_on index (event ∷ []))) first in
      record {
        is = rest.is ∙ ap (λ (t : TokenValue). record t { seen = new.seen; made = runs.0.made + length (attempts_on index events); faults = new.faults; stops = new.stops; entered = new.entered }) first.is
            ∙ ap (λ (n : ℕ). record old { seen = new.seen; made = n; faults = new.faults; stops = new.stops; entered = new.entered }) (omega (arith, made, count_at event events (is_attempt index event) refl));
        seen = prefix_trans old.seen runs.0.seen new.seen first.seen rest.seen;
      }

  pub run_worker : (old new : TokenValue) (events : List (Event FrontValue)) → Runs old events new → new.worker ≡ old.worker
  run_worker old new events runs = same_worker old new (old.made + length (attempts_on index events)) (counted old new events runs)

  pub run_seen : (old new : TokenValue) (events : List (Event FrontValue)) → Runs old events new → IsPrefix old.seen new.seen
  run_seen old new events runs = (counted old new events runs).seen

  -- what the token has seen at the end begins with each front
  pub begun : (old new : TokenValue) (events : List (Event FrontValue)) → Runs old events new → All (OnFront index (λ front. IsPrefix front.steps new.seen)) events
  begun old new [] runs = All-nil (OnFront index (λ (front : FrontValue). IsPrefix front.steps new.seen))
  begun old new (event ∷ events) runs =
      All-cons (OnFront index (λ (front : FrontValue). IsPrefix front.steps new.seen)) event events
      (on_front index (IsAmid old runs.0) (λ (front : FrontValue). IsPrefix front.steps new.seen)
      (λ front is. prefix_trans front.steps runs.0.seen new.seen is.rest (run_seen runs.0 new events runs.2)) event (amid old runs.0 event runs.1))
      (begun runs.0 new events runs.2)

  -- each front begins with all that the token had seen before
  onward : (old new : TokenValue) (events : List (Event FrontValue)) → Runs old events new → All (OnFront index (λ front. IsPrefix old.seen front.steps)) events
  onward old new [] runs = All-nil (OnFront index (λ (front : FrontValue). IsPrefix old.seen front.steps))
  onward old new (event ∷ events) runs =
      let mid : TokenValue = runs.0 in
      let up = (one_counted old mid event runs.1).seen in
      All-cons (OnFront index (λ (front : FrontValue). IsPrefix old.seen front.steps)) event events
      (on_front index (IsAmid old mid) (λ (front : FrontValue). IsPrefix old.seen front.steps) (λ front is. is.first) event (amid old mid event runs.1))
      (All-weaker (OnFront index (λ (front : FrontValue). IsPrefix mid.seen front.steps)) (OnFront index (λ (front : FrontValue). IsPrefix old.seen front.steps))
      (λ event. on_front index (λ (front : FrontValue). IsPrefix mid.seen front.steps) (λ (front : FrontValue). IsPrefix old.seen front.steps) (λ front so. prefix_trans old.seen mid.seen front.steps up so) event)
      events (onward mid new events runs.2))

  bounded_before : (old new : TokenValue) (event : Event FrontValue) → Moved base index old event new → made_by new.worker new.seen ≤ new.made → made_by old.worker old.seen ≤ old.made
  bounded_before old new event (Looked goes none notes shows) fits =
      let up = made_up old.worker old.seen new.seen goes.seen in
      let own : made_by new.worker new.seen ≡ made_by old.worker new.seen = ap (λ (w : ℕ). made_by w new.seen) (same_worker old new old.made goes) in
      omega (arith, up, own, has_made old new old.made goes)
  bounded_before old new event (Made ops removed is goes made) fits =
      let up = made_up old.worker old.seen made.earlier made.before in
      let own : made_by new.worker new.seen ≡ made_by old.worker new.seen = ap (λ (w : ℕ). made_by w new.seen) (same_worker old new (old.made + 1) goes) in
      let one : made_by old.worker new.seen ≡ made_by old.worker made.earlier + 1 = ap (made_by old.worker) made.last ∙ made_one old.worker made.earlier made.entry made.snapshot made.becomes.by in
      omega (arith, up, own, one, made.counts, has_made old new (old.made + 1) goes)
  bounded_before old new event (Doubted ops doubt is goes waits) fits =
      let up = made_up old.worker old.seen new.seen goes.seen in
      let own : made_by new.worker new.seen ≡ made_by old.worker new.seen = ap (λ (w : ℕ). made_by w new.seen) (same_worker old new (old.made + 1) goes) in
      omega (arith, up, own, waits, has_made old new (old.made + 1) goes)

  -- a token that counted no fewer commits than its worker has entries in what it has seen at the end, always did
  pub bounded : (old new : TokenValue) (events : List (Event FrontValue)) → Runs old events new → made_by new.worker new.seen ≤ new.made → made_by old.worker old.seen ≤ old.made
  bounded old new [] runs fits = subst (λ (t : TokenValue). made_by t.worker t.seen ≤ t.made) runs fits
  bounded old new (event ∷ events) runs fits = bounded_before old runs.0 event runs.1 (bounded runs.0 new events runs.2 fits)

  low_one : (old mid : TokenValue) (event : Event FrontValue) (events : List (Event FrontValue)) (history : List Step) → Moved base index old event mid → IsPrefix mid.seen history
      → (attempts_on index events ≡ []) ⊎ (mid.made + length (attempts_on index events) ≤ made_by mid.worker history + 1)
      → (attempts_on index (event ∷ events) ≡ []) ⊎ (old.made + length (attempts_on index (event ∷ events)) ≤ made_by old.worker history + 1)
  low_one old mid event events history (Looked goes none notes shows) begins rest =
      let skipped = attempt_skipped index event events none in
      let own : made_by mid.worker history ≡ made_by old.worker history = ap (λ (w : ℕ). made_by w history) (same_worker old mid old.made goes) in
      ⊎_elim (λ (no : attempts_on index events ≡ []). inl (skipped ∙ no))
      (λ (up : mid.made + length (attempts_on index events) ≤ made_by mid.worker history + 1). inr (omega (arith, up, own, ap length skipped, has_made old mid old.made goes))) rest
  low_one old mid event events history (Made ops removed is goes made) begins rest =
      let taken = ap length (attempt_taken index event events (made_attempt index ops removed (seen_by mid) event is)) in
      let own : made_by mid.worker history ≡ made_by old.worker history = ap (λ (w : ℕ). made_by w history) (same_worker old mid (old.made + 1) goes) in
      let count = has_made old mid (old.made + 1) goes in
      let up = made_up mid.worker mid.seen history begins in
      inr (⊎_elim (λ (no : attempts_on index events ≡ []). omega (arith, own, taken, count, up, made.counts, ap length no))
      (λ (so : mid.made + length (attempts_on index events) ≤ made_by mid.worker history + 1). omega (arith, so, own, taken, count)) rest)
  low_one old mid event events history (Doubted ops doubt is goes waits) begins rest =
      let taken = ap length (attempt_taken index event events (doubted_attempt index ops doubt (seen_by mid) event is)) in
      let own : made_by mid.worker history ≡ made_by old.worker history = ap (λ (w : ℕ). made_by w history) (same_worker old mid (old.made + 1) goes) in
      let count = has_made old mid (old.made + 1) goes in
      let up = made_up mid.worker mid.seen history begins in
      inr (⊎_elim (λ (no : attempts_on index events ≡ []). omega (arith, own, taken, count, up, waits, ap length no))
      (λ (so : mid.made + length (attempts_on index events) ≤ made_by mid.worker history + 1). omega (arith, so, own, taken, count)) rest)

  -- where commits were acknowledged or are in doubt, the history has an entry for each, but for one at most
  low : (old new : TokenValue) (events : List (Event FrontValue)) (history : List Step) → Runs old events new → IsPrefix new.seen history
      → (attempts_on index events ≡ []) ⊎ (old.made + length (attempts_on index events) ≤ made_by old.worker history + 1)
  low old new [] history runs begins = inl refl
  low old new (event ∷ events) history runs begins =
      low_one old runs.0 event events history runs.1 (prefix_trans runs.0.seen new.seen history (run_seen runs.0 new events runs.2) begins) (low runs.0 new events history runs.2 begins)

  none_left : {A : Type 0} (xs : List A) → length xs ≤ 0 → xs ≡ []
  none_left [] le = refl
  none_left (x ∷ xs) le = absurd (omega arith)

  -- what is wanted of the rest of a run: entries of its commits from this place on
  abbrev Rest : TokenValue → List (Event FrontValue) → List Step → Type 0
  Rest mid events history = (front rest : List Entry) → commits_by mid.worker history ≡ front ++ rest → length front ≡ mid.made → AreEntriesOf base mid.worker (attempts_on index events) rest

  entries_looked : (old mid : TokenValue) (event : Event FrontValue) (events : List (Event FrontValue)) (history : List Step) (front rest : List Entry) → Goes old mid old.made → is_attempt index event ≡ false
      → commits_by old.worker history ≡ front ++ rest → length front ≡ old.made → Rest mid events history → AreEntriesOf base old.worker (attempts_on index (event ∷ events)) rest
  entries_looked old mid event events history front rest goes none cut long on =
      let worker : mid.worker ≡ old.worker = same_worker old mid old.made goes in
      let later = on front rest (ap (λ (w : ℕ). commits_by w history) worker ∙ cut) (long ∙ sym (has_made old mid old.made goes)) in
      subst (λ (w : ℕ). AreEntriesOf base w (attempts_on index (event ∷ events)) rest) worker
      (subst (λ (es : List (Event FrontValue)). AreEntriesOf base mid.worker es rest) (sym (attempt_skipped index event events none)) later)

  entries_made : (old mid : TokenValue) (event : Event FrontValue) (events : List (Event FrontValue)) (history : List Step) (front rest : List Entry) (ops : List TxnOp) (removed : ℕ)
      → event ≡ Commit index ops (outcomes.Committed removed) (seen_by mid) → Goes old mid (old.made + 1) → IsCommit base old ops removed mid → IsPrefix mid.seen history
      → commits_by old.worker history ≡ front ++ rest → length front ≡ old.made → Rest mid events history → AreEntriesOf base old.worker (attempts_on index (event ∷ events)) rest
  entries_made old mid event events history front rest ops removed is goes made begins cut long on =
      let W : ℕ = old.worker in
      let worker : mid.worker ≡ W = same_worker old mid (old.made + 1) goes in
      let count : mid.made ≡ old.made + 1 = has_made old mid (old.made + 1) goes in
      let earlier : List Entry = commits_by W made.earlier in
      let own = by_prefix W mid.seen history begins in
      let ends : commits_by W mid.seen ≡ earlier ++ made.entry ∷ [] = ap (λ (s : List Step). commits_by W s) made.last ∙ by_one W made.earlier made.entry made.snapshot made.becomes.by in
      let whole : earlier ++ made.entry ∷ own.0 ≡ front ++ rest = sym (append_assoc earlier (made.entry ∷ []) own.0) ∙ ap (λ (es : List Entry). es ++ own.0) (sym ends) ∙ own.1 ∙ cut in
      let counts : made_by W mid.seen ≡ mid.made = ap (λ (w : ℕ). made_by w mid.seen) (sym worker) ∙ made.counts in
      let size : made_by W mid.seen ≡ length earlier + 1 = ap length ends ∙ length-append earlier (made.entry ∷ []) in
      let rest_is : made.entry ∷ own.0 ≡ rest = same_rest earlier front (made.entry ∷ own.0) rest whole (omega (arith, counts, size, count, long)) in
      let later = on (front ++ made.entry ∷ []) own.0
      (ap (λ (w : ℕ). commits_by w history) worker ∙ cut ∙ ap (λ (es : List Entry). front ++ es) (sym rest_is) ∙ sym (append_assoc front (made.entry ∷ []) own.0))
      (omega (arith, length-append front (made.entry ∷ []), long, count)) in
      let entry : IsEntryOf base W event made.entry = subst (λ (e : Event FrontValue). IsEntryOf base W e made.entry) (sym is) (record { earlier = made.earlier; snapshot = made.snapshot; last = made.last; becomes = made.becomes }) in
      subst (λ (es : List Entry). AreEntriesOf base W (attempts_on index (event ∷ events)) es) rest_is
      (subst (λ (es : List (Event FrontValue)). AreEntriesOf base W es (made.entry ∷ own.0)) (sym (attempt_taken index event events (made_attempt index ops removed (seen_by mid) event is)))
      (entry, subst (λ (w : ℕ). AreEntriesOf base w (attempts_on index events) own.0) worker later))

  entries_doubted : (old mid : TokenValue) (event : Event FrontValue) (events : List (Event FrontValue)) (history : List Step) (front rest : List Entry) (ops : List TxnOp) (doubt : Doubt)
      → event ≡ Commit index ops (outcomes.InDoubt doubt) (seen_by mid) → Goes old mid (old.made + 1)
      → (attempts_on index events ≡ []) ⊎ (mid.made + length (attempts_on index events) ≤ made_by mid.worker history + 1)
      → commits_by old.worker history ≡ front ++ rest → length front ≡ old.made → Rest mid events history → AreEntriesOf base old.worker (attempts_on index (event ∷ events)) rest
  entries_doubted old mid event events history front [] ops doubt is goes few cut long on =
      let own : made_by mid.worker history ≡ made_by old.worker history = ap (λ (w : ℕ). made_by w history) (same_worker old mid (old.made + 1) goes) in
      let count : mid.made ≡ old.made + 1 = has_made old mid (old.made + 1) goes in
      let size : made_by old.worker history ≡ length front + 0 = ap length cut ∙ length-append front [] in
      let none : attempts_on index events ≡ [] =
      ⊎_elim (λ (no : attempts_on index events ≡ []). no)
      (λ (up : mid.made + length (attempts_on index events) ≤ made_by mid.worker history + 1). none_left (attempts_on index events) (omega (arith, up, own, count, size, long))) few in
      subst (λ (es : List (Event FrontValue)). AreEntriesOf base old.worker es []) (sym (attempt_taken index event events (doubted_attempt index ops doubt (seen_by mid) event is)))
      (subst (λ (e : Event FrontValue). IsDoubtful e) (sym is) tt, none)
  entries_doubted old mid event events history front (entry ∷ rest) ops doubt is goes few cut long on =
      let worker : mid.worker ≡ old.worker = same_worker old mid (old.made + 1) goes in
      let count : mid.made ≡ old.made + 1 = has_made old mid (old.made + 1) goes in
      let later = on (front ++ entry ∷ []) rest
      (ap (λ (w : ℕ). commits_by w history) worker ∙ cut ∙ sym (append_assoc front (entry ∷ []) rest))
      (omega (arith, length-append front (entry ∷ []), long, count)) in
      subst (λ (es : List (Event FrontValue)). AreEntriesOf base old.worker es (entry ∷ rest)) (sym (attempt_taken index event events (doubted_attempt index ops doubt (seen_by mid) event is)))
      (subst (λ (e : Event FrontValue). IsEntryOf base old.worker e entry) (sym is) tt, subst (λ (w : ℕ). AreEntriesOf base w (attempts_on index events) rest) worker later)

  entries_one : (old mid : TokenValue) (event : Event FrontValue) (events : List (Event FrontValue)) (history : List Step) (front rest : List Entry) → Moved base index old event mid → IsPrefix mid.seen history
      → (attempts_on index events ≡ []) ⊎ (mid.made + length (attempts_on index events) ≤ made_by mid.worker history + 1)
      → commits_by old.worker history ≡ front ++ rest → length front ≡ old.made → Rest mid events history → AreEntriesOf base old.worker (attempts_on index (event ∷ events)) rest
  entries_one old mid event events history front rest (Looked goes none notes shows) begins few cut long on = entries_looked old mid event events history front rest goes none cut long on
  entries_one old mid event events history front rest (Made ops removed is goes made) begins few cut long on = entries_made old mid event events history front rest ops removed is goes made begins cut long on
  entries_one old mid event events history front rest (Doubted ops doubt is goes waits) begins few cut long on = entries_doubted old mid event events history front rest ops doubt is goes few cut long on

  -- behind the entries that the token counted before, the history has those of the commits of the run
  pub entries_so : (old new : TokenValue) (events : List (Event FrontValue)) (history : List Step) (front rest : List Entry) → Runs old events new → IsPrefix new.seen history → made_by old.worker history ≤ new.made
      → commits_by old.worker history ≡ front ++ rest → length front ≡ old.made → AreEntriesOf base old.worker (attempts_on index events) rest
  entries_so old new [] history front [] runs begins fits cut long = tt
  entries_so old new [] history front (entry ∷ rest) runs begins fits cut long =
      let same : new.made ≡ old.made = ap (λ (t : TokenValue). t.made) runs in
      let size : made_by old.worker history ≡ length front + length (entry ∷ rest) = ap length cut ∙ length-append front (entry ∷ rest) in
      absurd (omega (arith, same, size, long, fits))
  entries_so old new (event ∷ events) history front rest runs begins fits cut long =
      let mid : TokenValue = runs.0 in
      let worker : new.worker ≡ old.worker = run_worker old new (event ∷ events) runs in
      let on_worker : new.worker ≡ mid.worker = run_worker mid new events runs.2 in
      let same : made_by mid.worker history ≡ made_by old.worker history = ap (λ (w : ℕ). made_by w history) (sym on_worker ∙ worker) in
      entries_one old mid event events history front rest runs.1 (prefix_trans mid.seen new.seen history (run_seen mid new events runs.2) begins) (low mid new events history runs.2 begins) cut long
      (λ front rest cut long. entries_so mid new events history front rest runs.2 begins (omega (arith, same, fits)) cut long)

  -- A front that the token had seen on its way, between commits, has the entries of those up to then: it is as if it had been read.
  own_amid : (old before_it at_it : TokenValue) (before : List (Event FrontValue)) (event : Event FrontValue) → old.made ≡ 0 → Runs old before before_it → Goes before_it at_it before_it.made → is_attempt index event ≡ false
      → made_by at_it.worker at_it.seen ≤ at_it.made → (front : FrontValue) → IsAmid before_it at_it front
      → AreEntriesOf base old.worker (attempts_on index (before ++ event ∷ [])) (commits_by old.worker front.steps)
  own_amid old before_it at_it before event zero first goes none few front is =
      let there : TokenValue = record before_it { seen = front.steps } in
      let read : Event FrontValue = Read index (seen_by there) in
      let moved : Moved base index before_it read there = Looked (record { is = refl; seen = is.first }) refl (λ noted. absurd (cc noted))
      (record { amid = λ here. record { first = is.first; rest = prefix_self front.steps }; last = λ here. refl; ends = tt }) in
      let whole : Runs old (before ++ read ∷ []) there = follow_then (Moved base index) before (read ∷ []) old before_it there first (there, moved, refl) in
      let worker : before_it.worker ≡ old.worker = run_worker old before_it before first in
      let up = made_up old.worker front.steps at_it.seen is.rest in
      let own : made_by at_it.worker at_it.seen ≡ made_by old.worker at_it.seen = ap (λ (w : ℕ). made_by w at_it.seen) (same_worker before_it at_it before_it.made goes ∙ worker) in
      let so = entries_so old there (before ++ read ∷ []) front.steps [] (commits_by old.worker front.steps) whole (prefix_self front.steps)
      (omega (arith, up, own, few, has_made before_it at_it before_it.made goes)) refl (sym zero) in
      let skipped : attempts_on index (event ∷ []) ≡ [] = attempt_skipped index event [] none in
      let same : attempts_on index (before ++ read ∷ []) ≡ attempts_on index (before ++ event ∷ []) =
      filter-append (is_attempt index) before (read ∷ []) ∙ ap (λ (es : List (Event FrontValue)). attempts_on index before ++ es) (sym skipped) ∙ sym (filter-append (is_attempt index) before (event ∷ [])) in
      subst (λ (es : List (Event FrontValue)). AreEntriesOf base old.worker es (commits_by old.worker front.steps)) same so

  -- and so has one that a commit shows
  own_last : (old at_it : TokenValue) (before : List (Event FrontValue)) (ops : List TxnOp) (outcome : CommitOutcome) (event : Event FrontValue) → old.made ≡ 0 → event ≡ Commit index ops outcome (seen_by at_it) → Runs old (before ++ event ∷ []) at_it
      → made_by at_it.worker at_it.seen ≤ at_it.made → OnFront index (λ front. AreEntriesOf base old.worker (attempts_on index (before ++ event ∷ [])) (commits_by old.worker front.steps)) event
  own_last old at_it before ops outcome event zero is whole few =
      let worker : at_it.worker ≡ old.worker = run_worker old at_it (before ++ event ∷ []) whole in
      let same : made_by at_it.worker at_it.seen ≡ made_by old.worker at_it.seen = ap (λ (w : ℕ). made_by w at_it.seen) worker in
      let so = entries_so old at_it (before ++ event ∷ []) at_it.seen [] (commits_by old.worker at_it.seen) whole (prefix_self at_it.seen) (omega (arith, few, same)) refl (sym zero) in
      at_commit index (λ (front : FrontValue). AreEntriesOf base old.worker (attempts_on index (before ++ event ∷ [])) (commits_by old.worker front.steps)) ops outcome (seen_by at_it) event is so

  own_by : (old before_it at_it : TokenValue) (before : List (Event FrontValue)) (event : Event FrontValue) → old.made ≡ 0 → Runs old before before_it → Moved base index before_it event at_it → Runs old (before ++ event ∷ []) at_it
      → made_by at_it.worker at_it.seen ≤ at_it.made → OnFront index (λ front. AreEntriesOf base old.worker (attempts_on index (before ++ event ∷ [])) (commits_by old.worker front.steps)) event
  own_by old before_it at_it before event zero first (Looked goes none notes shows) whole few =
      on_front index (IsAmid before_it at_it) (λ (front : FrontValue). AreEntriesOf base old.worker (attempts_on index (before ++ event ∷ [])) (commits_by old.worker front.steps))
      (own_amid old before_it at_it before event zero first goes none few) event shows.amid
  own_by old before_it at_it before event zero first (Made ops removed is goes made) whole few = own_last old at_it before ops (outcomes.Committed removed) event zero is whole few
  own_by old before_it at_it before event zero first (Doubted ops doubt is goes waits) whole few = own_last old at_it before ops (outcomes.InDoubt doubt) event zero is whole few

  own_at : (old before_it at_it new : TokenValue) (before : List (Event FrontValue)) (event : Event FrontValue) (later : List (Event FrontValue)) → old.made ≡ 0
      → Runs old before before_it → Moved base index before_it event at_it → Runs at_it later new → made_by new.worker new.seen ≤ new.made
      → OnFront index (λ front. AreEntriesOf base old.worker (attempts_on index (before ++ event ∷ [])) (commits_by old.worker front.steps)) event
  own_at old before_it at_it new before event later zero first moved rest fits =
      own_by old before_it at_it before event zero first moved (follow_then (Moved base index) before (event ∷ []) old before_it at_it first (at_it, moved, refl)) (bounded at_it new later rest fits)

  -- from an event with a note on, each front has an entry for each commit up to that event
  noted_at : (old before_it at_it new : TokenValue) (before : List (Event FrontValue)) (event : Event FrontValue) (later : List (Event FrontValue)) → old.made ≡ 0
      → Runs old before before_it → Moved base index before_it event at_it → Runs at_it later new → is_noted index event ≡ true
      → OnLast index (λ front. length (attempts_on index (before ++ event ∷ [])) ≤ made_by old.worker front.steps) event
      × All (OnFront index (λ front. length (attempts_on index (before ++ event ∷ [])) ≤ made_by old.worker front.steps)) later
  noted_at old before_it at_it new before event later zero first moved rest noted =
      let many : ℕ = length (attempts_on index (before ++ event ∷ [])) in
      let whole : Runs old (before ++ event ∷ []) at_it = follow_then (Moved base index) before (event ∷ []) old before_it at_it first (at_it, moved, refl) in
      let goes = counted old at_it (before ++ event ∷ []) whole in
      let same : made_by at_it.worker at_it.seen ≡ made_by old.worker at_it.seen = ap (λ (w : ℕ). made_by w at_it.seen) (same_worker old at_it (old.made + many) goes) in
      let all : many ≤ made_by old.worker at_it.seen = omega (arith, same, tells_all before_it at_it event moved noted, has_made old at_it (old.made + many) goes, zero) in (
        on_last index (λ (front : FrontValue). front ≡ seen_by at_it) (λ (front : FrontValue). many ≤ made_by old.worker front.steps)
            (λ front is. subst (λ (f : FrontValue). many ≤ made_by old.worker f.steps) (sym is) all) event (shown before_it at_it event moved),
        All-weaker (OnFront index (λ (front : FrontValue). IsPrefix at_it.seen front.steps)) (OnFront index (λ (front : FrontValue). many ≤ made_by old.worker front.steps))
            (λ event. on_front index (λ (front : FrontValue). IsPrefix at_it.seen front.steps) (λ (front : FrontValue). many ≤ made_by old.worker front.steps)
            (λ front so. omega (arith, all, made_up old.worker at_it.seen front.steps so)) event)
            later (onward at_it new later rest),
      )

  -- What a worker was shown and told is of a history that begins with all that its token has seen in the end, where the token counts
  -- no fewer commits than the history has entries of the worker.
  pub of_history : (old new : TokenValue) (events : List (Event FrontValue)) (history : List Step) → Runs old events new → old.made ≡ 0 → IsPrefix new.seen history → made_by old.worker history ≤ new.made
      → IsOfHistory base index history old.worker events
  of_history old new events history runs zero begins fits =
      let worker : new.worker ≡ old.worker = run_worker old new events runs in
      let same : made_by new.worker history ≡ made_by old.worker history = ap (λ (w : ℕ). made_by w history) worker in
      let few : made_by new.worker new.seen ≤ new.made = (let up = made_up new.worker new.seen history begins in omega (arith, up, same, fits)) in
      record {
        begins = All-weaker (OnFront index (λ (front : FrontValue). IsPrefix front.steps new.seen)) (OnFront index (λ (front : FrontValue). IsPrefix front.steps history))
            (λ event. on_front index (λ (front : FrontValue). IsPrefix front.steps new.seen) (λ (front : FrontValue). IsPrefix front.steps history) (λ front so. prefix_trans front.steps new.seen history so begins) event)
            events (begun old new events runs);
        own = λ before event later is.
            let cut = follow_cut (Moved base index) before (event ∷ later) old new (subst (λ (es : List (Event FrontValue)). Runs old es new) is runs) in
            own_at old cut.0 cut.2.0 new before event later zero cut.1 cut.2.1 cut.2.2 few;
        noted = λ before event later is noted.
            let cut = follow_cut (Moved base index) before (event ∷ later) old new (subst (λ (es : List (Event FrontValue)). Runs old es new) is runs) in
            noted_at old cut.0 cut.2.0 new before event later zero cut.1 cut.2.1 cut.2.2 noted;
        jobs = ends old new events runs;
        entries = entries_so old new events history [] (commits_by old.worker history) runs begins fits refl (sym zero);
      }
