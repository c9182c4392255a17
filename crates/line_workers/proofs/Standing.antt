-- What follows of the one history of an index: each commit stands once, and nothing else does.
use Rattle.std.proofs.Common.{◌≡◌, ◌⊎◌, inl, inr, ⊎_elim, ℕ, zero, suc, ◌+◌, ◌-◌, ◌≤◌, ◌<◌, ◌==◌, Bool, true, false, List, [], ◌∷◌, ◌++◌, length, Some, slice_get, refl, sym, ap, subst, ◌∙◌, arith}
use Rattle.std.specs.Prelude.{All}
use Rattle.std.specs.List.{AllByRecursion, filter}
use Rattle.std.proofs.lemmas.Bool.{eq-eqb, ne_eqb}
use Rattle.std.proofs.lemmas.List.Elements.{All-weaker, recursion_from_All}
use mathlib.Core.List.{IsPrefix}
use Rattle.commit_outcomes.specs.declared.outcome.CommitOutcome.{CommitOutcome}
use Rattle.commit_outcomes.specs.declared.outcome.CommitOutcome.TheVariants as outcomes
use Rattle.doc_types.specs.declared.schema.Schema.{Schema}
use Rattle.doc_types.specs.declared.transactions.TxnOp.{TxnOp}
use Rattle.doc_types.specs.Commits.{Entry}
use Rattle.ql_session.specs.Events.{Event, Configured, Nothing, NoMemory, Read, Commit, Reshape}
use Rattle.step_book.specs.Fronts.{FrontValue}
use Rattle.step_history.specs.History.{Base, Step, commits, commits_by, made_by}
use Rattle.step_history.proofs.Counts.{seqs}
use Rattle.line_workers.specs.Attempts.{OnFront, OnLast, attempts_on, is_noted}
use Rattle.line_workers.specs.Histories.{AreEntriesOf, IsAcknowledged, IsAskedFor, IsAttempt, IsDoubtful, IsEntryOf, IsOfHistory, IsOneHistory, entries_numbered}
use Rattle.line_workers.proofs.Counting.{commits_then}
use Rattle.line_workers.proofs.Entries.{on_front, on_last}
use Rattle.line_workers.proofs.Places.{get_within, some_is}

-- the entry of a commit, or it is in doubt and the entries end before it
data Stood (base : Base) (worker : ℕ) (entries : List Entry) (number : ℕ) (event : Event FrontValue) : Type 0 where
  Stands : (entry : Entry) → slice_get entries number ≡ Some entry → IsEntryOf base worker event entry → Stood base worker entries number event
  Waits : IsDoubtful event → length entries ≤ number → Stood base worker entries number event

stood_later : (base : Base) (worker : ℕ) (entry : Entry) (entries : List Entry) (number : ℕ) (event : Event FrontValue) → Stood base worker entries number event → Stood base worker (entry ∷ entries) (suc number) event
stood_later base worker entry entries number event (Stands found at is) = Stands found at is
stood_later base worker entry entries number event (Waits doubtful long) = Waits doubtful (omega (arith, long))

stood : (base : Base) (worker : ℕ) (events : List (Event FrontValue)) (entries : List Entry) (number : ℕ) (event : Event FrontValue) → AreEntriesOf base worker events entries → slice_get events number ≡ Some event → Stood base worker entries number event
stood base worker [] entries number event are at = absurd (cc at)
stood base worker (e ∷ events) [] zero event are at = Waits (subst (λ (e : Event FrontValue). IsDoubtful e) (some_is e event at) are.0) (omega arith)
stood base worker (e ∷ events) [] (suc number) event are at =
    let none : slice_get events number ≡ slice_get [] number = ap (λ (es : List (Event FrontValue)). slice_get es number) are.1 in
    absurd (cc (at, none))
stood base worker (e ∷ events) (entry ∷ entries) zero event are at = Stands entry refl (subst (λ (e : Event FrontValue). IsEntryOf base worker e entry) (some_is e event at) are.0)
stood base worker (e ∷ events) (entry ∷ entries) (suc number) event are at = stood_later base worker entry entries number event (stood base worker events entries number event are.1 at)

at_recursion : {X : Type 0} (P : X → Type 0) (xs : List X) (k : ℕ) (x : X) → AllByRecursion P xs → slice_get xs k ≡ Some x → P x
at_recursion P [] k x all at = absurd (cc at)
at_recursion {X} P (y ∷ xs) zero x all at = subst (λ (z : X). P z) (some_is y x at) all.0
at_recursion P (y ∷ xs) (suc k) x all at = at_recursion P xs k x all.1 at

-- the commit of an entry
asked_at : (base : Base) (worker : ℕ) (events : List (Event FrontValue)) (entries : List Entry) (number : ℕ) (entry : Entry) → AreEntriesOf base worker events entries → slice_get entries number ≡ Some entry
    → (event : Event FrontValue) × (slice_get events number ≡ Some event) × IsEntryOf base worker event entry
asked_at base worker events [] number entry are at = absurd (cc at)
asked_at base worker [] (e ∷ entries) number entry are at = absurd are
asked_at base worker (event ∷ events) (e ∷ entries) zero entry are at = (event, refl, subst (λ (x : Entry). IsEntryOf base worker event x) (some_is e entry at) are.0)
asked_at base worker (event ∷ events) (e ∷ entries) (suc number) entry are at = asked_at base worker events entries number entry are.1 at

-- the entries are numbered from this number on
abbrev pub AreNumbered : ℕ → List Entry → Type 0
AreNumbered first entries = (k : ℕ) (entry : Entry) → slice_get entries k ≡ Some entry → entry.seq ≡ first + k

later_numbered : (first : ℕ) (e : Entry) (entries : List Entry) → AreNumbered first (e ∷ entries) → AreNumbered (first + 1) entries
later_numbered first e entries numbered = λ k entry at. let n = numbered (suc k) entry at in omega (arith, n)

pub none_numbered : (first seq : ℕ) (entries : List Entry) → AreNumbered first entries → (seq < first) ⊎ (first + length entries ≤ seq) → filter (λ (e : Entry). e.seq == seq) entries ≡ []
none_numbered first seq [] numbered away = refl
none_numbered first seq (e ∷ entries) numbered away =
    let n = numbered zero e refl in
    let other : (e.seq == seq) ≡ false = ne_eqb e.seq seq (λ same. absurd (⊎_elim (λ (low : seq < first). omega (arith, low, n, same)) (λ (high : first + length (e ∷ entries) ≤ seq). omega (arith, high, n, same)) away)) in
    let rest = none_numbered (first + 1) seq entries (later_numbered first e entries numbered) (⊎_elim (λ (low : seq < first). inl (omega (arith, low))) (λ (high : first + length (e ∷ entries) ≤ seq). inr (omega (arith, high))) away) in
    rw other rest

one_numbered : (first seq number : ℕ) (entries : List Entry) (entry : Entry) → AreNumbered first entries → seq ≡ first + number → slice_get entries number ≡ Some entry → filter (λ (e : Entry). e.seq == seq) entries ≡ entry ∷ []
one_numbered first seq number [] entry numbered is at = absurd (cc at)
one_numbered first seq zero (e ∷ entries) entry numbered is at =
    let n = numbered zero e refl in
    let here : (e.seq == seq) ≡ true = eq-eqb e.seq seq (omega (arith, n, is)) in
    let rest = none_numbered (first + 1) seq entries (later_numbered first e entries numbered) (inl (omega (arith, is))) in
    rw (here, rest) (ap (λ (x : Entry). x ∷ []) (some_is e entry at))
one_numbered first seq (suc number) (e ∷ entries) entry numbered is at =
    let n = numbered zero e refl in
    let other : (e.seq == seq) ≡ false = ne_eqb e.seq seq (λ same. absurd (omega (arith, n, is, same))) in
    let rest = one_numbered (first + 1) seq number entries entry (later_numbered first e entries numbered) (omega (arith, is)) at in
    rw other rest

not_both : (place : ℕ) (ops : List TxnOp) (outcome : CommitOutcome) (front : FrontValue) → IsAcknowledged (Commit place ops outcome front) → IsDoubtful (Commit place ops outcome front) → ⊥
not_both place ops (outcomes.Committed removed) front acknowledged doubtful = doubtful
not_both place ops (outcomes.Duplicate id) front acknowledged doubtful = doubtful
not_both place ops (outcomes.Full full) front acknowledged doubtful = doubtful
not_both place ops outcomes.Refused front acknowledged doubtful = doubtful
not_both place ops (outcomes.InDoubt doubt) front acknowledged doubtful = acknowledged
not_both place ops (outcomes.Strayed numbers) front acknowledged doubtful = doubtful

not_doubtful : (event : Event FrontValue) → IsAcknowledged event → IsDoubtful event → ⊥
not_doubtful (Commit place ops outcome front) acknowledged doubtful = not_both place ops outcome front acknowledged doubtful
not_doubtful (Configured confs) acknowledged doubtful = doubtful
not_doubtful Nothing acknowledged doubtful = doubtful
not_doubtful NoMemory acknowledged doubtful = doubtful
not_doubtful (Read place front) acknowledged doubtful = doubtful
not_doubtful (Reshape place job outcome own front) acknowledged doubtful = doubtful

kept_behind : (p : Entry → Bool) (e : Entry) (entries : List Entry) (entry : Entry) (b : Bool) → p e ≡ b → (j : ℕ) × (slice_get (filter p entries) j ≡ Some entry) → (j : ℕ) × (slice_get (filter p (e ∷ entries)) j ≡ Some entry)
kept_behind p e entries entry true here later = (suc later.0, rw here later.1)
kept_behind p e entries entry false here later = (later.0, rw here later.1)

kept_at : (p : Entry → Bool) (entries : List Entry) (k : ℕ) (entry : Entry) → slice_get entries k ≡ Some entry → p entry ≡ true → (j : ℕ) × (slice_get (filter p entries) j ≡ Some entry)
kept_at p [] k entry at passes = absurd (cc at)
kept_at p (e ∷ entries) zero entry at passes =
    let here : p e ≡ true = ap p (some_is e entry at) ∙ passes in
    (zero, rw here at)
kept_at p (e ∷ entries) (suc k) entry at passes = kept_behind p e entries entry (p e) refl (kept_at p entries k entry at passes)

module _ (schema : Schema) (base : Base) (index : ℕ) (history : List Step) (events : List (List (Event FrontValue))) (one : IsOneHistory schema base index history events) where
  pub numbered : (worker : ℕ) → AreNumbered 1 (commits_by worker history)
  numbered worker = λ k entry at. let n = seqs schema base history worker k entry one.good at in omega (arith, n)

  stands : (place number : ℕ) (event : Event FrontValue) → IsAttempt index events place number event → Stood base (place + 1) (commits_by (place + 1) history) number event
  stands place number event attempt =
      stood base (place + 1) (attempts_on index attempt.own) (commits_by (place + 1) history) number event (one.each place attempt.own attempt.of).entries attempt.at

  pub found_once : (place number : ℕ) (entry : Entry) → slice_get (commits_by (place + 1) history) number ≡ Some entry → entries_numbered (place + 1) (number + 1) history ≡ entry ∷ []
  found_once place number entry at = one_numbered 1 (number + 1) number (commits_by (place + 1) history) entry (numbered (place + 1)) (omega arith) at

  once_so : (place number : ℕ) (event : Event FrontValue) → IsAcknowledged event → Stood base (place + 1) (commits_by (place + 1) history) number event → (entry : Entry) × IsEntryOf base (place + 1) event entry × (entries_numbered (place + 1) (number + 1) history ≡ entry ∷ [])
  once_so place number event acknowledged (Stands entry at is) = (entry, is, found_once place number entry at)
  once_so place number event acknowledged (Waits doubtful long) = absurd (not_doubtful event acknowledged doubtful)

  pub stands_once : (place number : ℕ) (event : Event FrontValue) → IsAttempt index events place number event → IsAcknowledged event → (entry : Entry) × IsEntryOf base (place + 1) event entry × (entries_numbered (place + 1) (number + 1) history ≡ entry ∷ [])
  stands_once place number event attempt acknowledged = once_so place number event acknowledged (stands place number event attempt)

  most_so : (place number : ℕ) (event : Event FrontValue) → Stood base (place + 1) (commits_by (place + 1) history) number event → length (entries_numbered (place + 1) (number + 1) history) ≤ 1
  most_so place number event (Stands entry at is) = omega (arith, ap length (found_once place number entry at))
  most_so place number event (Waits doubtful long) = omega (arith, ap length (none_numbered 1 (number + 1) (commits_by (place + 1) history) (numbered (place + 1)) (inr (omega (arith, long)))))

  pub stands_at_most_once : (place number : ℕ) (event : Event FrontValue) → IsAttempt index events place number event → length (entries_numbered (place + 1) (number + 1) history) ≤ 1
  stands_at_most_once place number event attempt = most_so place number event (stands place number event attempt)

  pub asked_for : (k : ℕ) (entry : Entry) → slice_get (commits history) k ≡ Some entry → IsAskedFor base index events entry
  asked_for k entry at =
      let by = at_recursion (λ (e : Entry). (0 < e.worker) × (e.worker ≤ length events)) (commits history) k entry (recursion_from_All (λ (e : Entry). (0 < e.worker) × (e.worker ≤ length events)) (commits history) one.others) at in
      let place : ℕ = entry.worker - 1 in
      let worker : entry.worker ≡ place + 1 = omega (arith, by.0) in
      let own = get_within events place (omega (arith, by)) in
      let kept = kept_at (λ (e : Entry). e.worker == place + 1) (commits history) k entry at (eq-eqb entry.worker (place + 1) worker) in
      let asked = asked_at base (place + 1) (attempts_on index own.0) (commits_by (place + 1) history) kept.0 entry (one.each place own.0 own.1).entries kept.1 in
      record {
        place = place;
        number = kept.0;
        event = asked.0;
        worker = worker;
        seq = seqs schema base history (place + 1) kept.0 entry one.good kept.1;
        asked = record { own = own.0; of = own.1; at = asked.1 };
        is = subst (λ (w : ℕ). IsEntryOf base w asked.0 entry) (sym worker) asked.2;
      }

all_own : (worker : ℕ) (entries : List Entry) → AllByRecursion (λ (e : Entry). e.worker ≡ worker) entries → filter (λ (e : Entry). e.worker == worker) entries ≡ entries
all_own worker [] all = refl
all_own worker (e ∷ entries) all = rw (eq-eqb e.worker worker all.0) (ap (λ (es : List Entry). e ∷ es) (all_own worker entries all.1))

one_worker : (entries more : List Entry) → AllByRecursion (λ (e : Entry). (0 < e.worker) × (e.worker ≤ 1)) (entries ++ more) → AllByRecursion (λ (e : Entry). e.worker ≡ 1) entries
one_worker [] more all = tt
one_worker (e ∷ entries) more all = (let by = all.0 in omega (arith, by), one_worker entries more all.1)

on_both : {F : Type 0} (index : ℕ) (P Q R : F → Type 0) → ((front : F) → P front → Q front → R front) → (event : Event F) → OnFront index P event → OnFront index Q event → OnFront index R event
on_both index P Q R both (Configured confs) p q = tt
on_both index P Q R both Nothing p q = tt
on_both index P Q R both NoMemory p q = tt
on_both index P Q R both (Read place front) p q = λ here. both front (p here) (q here)
on_both index P Q R both (Commit place ops outcome front) p q = λ here. both front (p here) (q here)
on_both index P Q R both (Reshape place job outcome own front) p q = λ here. (both own (p here).0 (q here).0, both front (p here).1 (q here).1)

pub amid : {X : Type 0} (P : X → Type 0) (before : List X) (x : X) (later : List X) → AllByRecursion P (before ++ x ∷ later) → P x
amid P [] x later all = all.0
amid P (b ∷ before) x later all = amid P before x later all.1

-- where one worker commits, all of a front are its own
pub alone : (schema : Schema) (base : Base) (index : ℕ) (history : List Step) (own before : List (Event FrontValue)) (event : Event FrontValue) (later : List (Event FrontValue)) → IsOneHistory schema base index history (own ∷ []) → own ≡ before ++ event ∷ later
    → OnFront index (λ front. AreEntriesOf base 1 (attempts_on index (before ++ event ∷ [])) (commits front.steps)) event
alone schema base index history own before event later one is =
    let of : IsOfHistory base index history 1 own = one.each 0 own refl in
    let by = recursion_from_All (λ (e : Entry). (0 < e.worker) × (e.worker ≤ 1)) (commits history) one.others in
    let begins = amid (OnFront index (λ (front : FrontValue). IsPrefix front.steps history)) before event later
    (subst (λ (es : List (Event FrontValue)). AllByRecursion (OnFront index (λ (front : FrontValue). IsPrefix front.steps history)) es) is (recursion_from_All (OnFront index (λ (front : FrontValue). IsPrefix front.steps history)) own of.begins)) in
    on_both index (λ (front : FrontValue). IsPrefix front.steps history) (λ (front : FrontValue). AreEntriesOf base 1 (attempts_on index (before ++ event ∷ [])) (commits_by 1 front.steps))
    (λ (front : FrontValue). AreEntriesOf base 1 (attempts_on index (before ++ event ∷ [])) (commits front.steps))
    (λ front begins entries.
    let cut : commits front.steps ++ commits begins.0 ≡ commits history = sym (commits_then front.steps begins.0) ∙ ap (λ (s : List Step). commits s) begins.1 in
    let all = one_worker (commits front.steps) (commits begins.0) (subst (λ (es : List Entry). AllByRecursion (λ (e : Entry). (0 < e.worker) × (e.worker ≤ 1)) es) (sym cut) by) in
    subst (λ (es : List Entry). AreEntriesOf base 1 (attempts_on index (before ++ event ∷ [])) es) (all_own 1 (commits front.steps) all) entries)
    event begins (of.own before event later is)

one_kept : (p : Entry → Bool) (e : Entry) (entries : List Entry) (b : Bool) → p e ≡ b → length (filter p entries) ≤ length entries → length (filter p (e ∷ entries)) ≤ length (e ∷ entries)
one_kept p e entries true here rest = rw here (omega (arith, rest))
one_kept p e entries false here rest = rw here (omega (arith, rest))

fewer_kept : (p : Entry → Bool) (entries : List Entry) → length (filter p entries) ≤ length entries
fewer_kept p [] = omega arith
fewer_kept p (e ∷ entries) = one_kept p e entries (p e) refl (fewer_kept p entries)

-- from a commit with a note on, all commits of a worker alone are there
pub alone_noted : (schema : Schema) (base : Base) (index : ℕ) (history : List Step) (own before : List (Event FrontValue)) (event : Event FrontValue) (later : List (Event FrontValue)) → IsOneHistory schema base index history (own ∷ []) → own ≡ before ++ event ∷ later
    → is_noted index event ≡ true
    → OnLast index (λ front. length (attempts_on index (before ++ event ∷ [])) ≤ length (commits front.steps)) event × All (OnFront index (λ front. length (attempts_on index (before ++ event ∷ [])) ≤ length (commits front.steps))) later
alone_noted schema base index history own before event later one is noted =
    let many : ℕ = length (attempts_on index (before ++ event ∷ [])) in
    let of : IsOfHistory base index history 1 own = one.each 0 own refl in
    let up : (front : FrontValue) → many ≤ made_by 1 front.steps → many ≤ length (commits front.steps) = λ front so. omega (arith, so, fewer_kept (λ (e : Entry). e.worker == 1) (commits front.steps)) in
    let noted_so = of.noted before event later is noted in (
      on_last index (λ (front : FrontValue). many ≤ made_by 1 front.steps) (λ (front : FrontValue). many ≤ length (commits front.steps)) up event noted_so.0,
      All-weaker (OnFront index (λ (front : FrontValue). many ≤ made_by 1 front.steps)) (OnFront index (λ (front : FrontValue). many ≤ length (commits front.steps)))
          (λ event. on_front index (λ (front : FrontValue). many ≤ made_by 1 front.steps) (λ (front : FrontValue). many ≤ length (commits front.steps)) up event)
          later noted_so.1,
    )
