-- A commit that was in doubt stands once, as what its operations became, or not at all.
use Rattle.std.proofs.Common.{◌≡◌, ◌⊎◌, inl, inr, ⊎_elim, ℕ, zero, suc, ◌+◌, ◌≤◌, ◌<◌, Bool, true, false, List, [], ◌∷◌, ◌++◌, length, Some, slice_get, refl, sym, ap, subst, ◌∙◌, arith, length-append}
use Rattle.std.specs.List.{filter}
use Rattle.std.proofs.lemmas.Bool.{cases_lt}
use mathlib.Core.List.{IsPrefix}
use Rattle.commit_outcomes.specs.declared.outcome.CommitOutcome.{CommitOutcome}
use Rattle.commit_outcomes.specs.declared.outcome.CommitOutcome.TheVariants as outcomes
use Rattle.commit_outcomes.specs.declared.outcome.Doubt.{Doubt}
use Rattle.doc_types.specs.declared.schema.Schema.{Schema}
use Rattle.doc_types.specs.declared.transactions.TxnOp.{TxnOp}
use Rattle.doc_types.specs.Commits.{Entry}
use Rattle.doc_types.specs.Snapshots.{SnapshotValue}
use Rattle.ql_session.specs.Events.{Event, Configured, Nothing, NoMemory, Read, Commit, Reshape}
use Rattle.step_book.specs.Fronts.{FrontValue}
use Rattle.step_book.proofs.Prefixes.{prefix_get, prefix_self, prefix_shorter, prefix_whole}
use Rattle.step_history.specs.History.{Base, Step, commits_by, made_by}
use Rattle.step_history.specs.History as history
use Rattle.step_tokens.specs.Tokens.{AreOnOneLine}
use Rattle.store_steps.specs.Answers.{Becomes}
use Rattle.line_workers.specs.Attempts.{is_attempt, is_of}
use Rattle.line_workers.specs.Doubts.{AreSettled, IsEntryWanted, IsSettledSo, doubts}
use Rattle.line_workers.specs.Histories.{IsAttempt, IsDoubtful, IsOneHistory, entries_numbered}
use Rattle.line_workers.proofs.Counting.{by_one, by_prefix, made_up}
use Rattle.line_workers.proofs.Places.{get_last, some_is}
use Rattle.line_workers.proofs.Standing.{found_once, none_numbered, numbered}

-- Where an element stands among those that pass, it stands in the whole list, and behind as many that pass.
record StandsIn {X : Type 0} (p : X → Bool) (xs : List X) (number : ℕ) (x : X) : Type 0 where
  pub before : List X
  pub later : List X
  pub cut : xs ≡ before ++ x ∷ later
  pub passes : p x ≡ true
  pub many : length (filter p (before ++ x ∷ [])) ≡ number + 1

taken : {X : Type 0} (p : X → Bool) (y : X) (ys : List X) → p y ≡ true → filter p (y ∷ ys) ≡ y ∷ filter p ys
taken p y ys is = rw is refl

skipped : {X : Type 0} (p : X → Bool) (y : X) (ys : List X) → p y ≡ false → filter p (y ∷ ys) ≡ filter p ys
skipped p y ys is = rw is refl

stands_here : {X : Type 0} (p : X → Bool) (y : X) (ys : List X) (x : X) → p y ≡ true → y ≡ x → StandsIn p (y ∷ ys) 0 x
stands_here {X} p y ys x is same =
    let passes : p x ≡ true = ap p (sym same) ∙ is in
    record { before = []; later = ys; cut = ap (λ (z : X). z ∷ ys) same; passes = passes; many = ap length (taken p x [] passes) }

stands_next : {X : Type 0} (p : X → Bool) (y : X) (ys : List X) (number : ℕ) (x : X) → p y ≡ true → StandsIn p ys number x → StandsIn p (y ∷ ys) (suc number) x
stands_next {X} p y ys number x is rest = record {
  before = y ∷ rest.before;
  later = rest.later;
  cut = ap (λ (zs : List X). y ∷ zs) rest.cut;
  passes = rest.passes;
  many = (let one : length (filter p (y ∷ (rest.before ++ x ∷ []))) ≡ length (y ∷ filter p (rest.before ++ x ∷ [])) = ap length (taken p y (rest.before ++ x ∷ []) is) in omega (arith, one, rest.many));
}

stands_past : {X : Type 0} (p : X → Bool) (y : X) (ys : List X) (number : ℕ) (x : X) → p y ≡ false → StandsIn p ys number x → StandsIn p (y ∷ ys) number x
stands_past {X} p y ys number x is rest = record {
  before = y ∷ rest.before;
  later = rest.later;
  cut = ap (λ (zs : List X). y ∷ zs) rest.cut;
  passes = rest.passes;
  many = ap length (skipped p y (rest.before ++ x ∷ []) is) ∙ rest.many;
}

stands_with : {X : Type 0} (p : X → Bool) (y : X) (ys : List X) (number : ℕ) (x : X) (b : Bool) → p y ≡ b → slice_get (filter p (y ∷ ys)) number ≡ Some x
    → ((n : ℕ) → slice_get (filter p ys) n ≡ Some x → StandsIn p ys n x) → StandsIn p (y ∷ ys) number x
stands_with {X} p y ys zero x true is at rest =
    stands_here p y ys x is (some_is y x (sym (ap (λ (zs : List X). slice_get zs 0) (taken p y ys is)) ∙ at))
stands_with {X} p y ys (suc number) x true is at rest =
    stands_next p y ys number x is (rest number (sym (ap (λ (zs : List X). slice_get zs (suc number)) (taken p y ys is)) ∙ at))
stands_with {X} p y ys number x false is at rest =
    stands_past p y ys number x is (rest number (sym (ap (λ (zs : List X). slice_get zs number) (skipped p y ys is)) ∙ at))

stands_in : {X : Type 0} (p : X → Bool) (xs : List X) (number : ℕ) (x : X) → slice_get (filter p xs) number ≡ Some x → StandsIn p xs number x
stands_in p [] number x at = absurd (cc at)
stands_in p (y ∷ ys) number x at = stands_with p y ys number x (p y) refl at (λ n at. stands_in p ys n x at)

-- an entry that ends what was wanted is the worker's of this number, where the history goes as far
wanted_at : (base : Base) (steps entries : List Step) (worker number : ℕ) (ops : List TxnOp) (entry : Entry) (snapshot : SnapshotValue) (removed : ℕ) → Becomes base steps worker ops entry snapshot removed → entry.seq ≡ number + 1
    → IsPrefix (steps ++ history.Commit entry snapshot ∷ []) entries → slice_get (commits_by worker entries) number ≡ Some entry
wanted_at base steps entries worker number ops entry snapshot removed becomes seq begins =
    let made : made_by entry.worker steps ≡ made_by worker steps = ap (λ (w : ℕ). made_by w steps) becomes.by in
    let place : made_by worker steps ≡ number = omega (arith, becomes.follows.seq, seq, made) in
    let last : slice_get (commits_by worker (steps ++ history.Commit entry snapshot ∷ [])) (made_by worker steps) ≡ Some entry =
    ap (λ (es : List Entry). slice_get es (made_by worker steps)) (by_one worker steps entry snapshot becomes.by) ∙ get_last (commits_by worker steps) entry in
    subst (λ (n : ℕ). slice_get (commits_by worker entries) n ≡ Some entry) place
    (prefix_get (commits_by worker (steps ++ history.Commit entry snapshot ∷ [])) (commits_by worker entries) (made_by worker steps) entry (by_prefix worker (steps ++ history.Commit entry snapshot ∷ []) entries begins) last)

-- and where it doesn't, the worker has no such entry
none_at : (base : Base) (steps entries : List Step) (worker number : ℕ) (ops : List TxnOp) (entry : Entry) (snapshot : SnapshotValue) (removed : ℕ) → Becomes base steps worker ops entry snapshot removed → entry.seq ≡ number + 1
    → IsPrefix entries steps → length (commits_by worker entries) ≤ number
none_at base steps entries worker number ops entry snapshot removed becomes seq begins =
    let made : made_by entry.worker steps ≡ made_by worker steps = ap (λ (w : ℕ). made_by w steps) becomes.by in
    omega (arith, becomes.follows.seq, seq, made, made_up worker entries steps begins)

-- a history that begins one step more is as long, or begins the steps without it
behind : (steps entries : List Step) (step : Step) → IsPrefix entries (steps ++ step ∷ []) → IsPrefix (steps ++ step ∷ []) entries ⊎ IsPrefix entries steps
behind steps entries step begins =
    let one : length (steps ++ step ∷ []) ≡ length steps + 1 = length-append steps (step ∷ []) in
    ⊎_elim
    (λ (more : length steps < length entries).
    inl (subst (λ (zs : List Step). IsPrefix zs entries) (prefix_whole entries (steps ++ step ∷ []) begins (omega (arith, more, one))) (prefix_self entries)))
    (λ (less : length entries ≤ length steps). inr (prefix_shorter entries steps (steps ++ step ∷ []) begins (step ∷ [], refl) less))
    (cases_lt (length steps) (length entries))

doubtful_so : (index place : ℕ) (ops : List TxnOp) (outcome : CommitOutcome) (front : FrontValue) → IsDoubtful (Commit place ops outcome front) → is_attempt index (Commit place ops outcome front) ≡ true → is_of doubts index (Commit place ops outcome front) ≡ true
doubtful_so index place ops (outcomes.Committed removed) front doubtful is = absurd doubtful
doubtful_so index place ops (outcomes.Duplicate id) front doubtful is = absurd doubtful
doubtful_so index place ops (outcomes.Full full) front doubtful is = absurd doubtful
doubtful_so index place ops outcomes.Refused front doubtful is = absurd doubtful
doubtful_so index place ops (outcomes.InDoubt doubt) front doubtful is = is
doubtful_so index place ops (outcomes.Strayed numbers) front doubtful is = absurd doubtful

-- a commit that may stand and is in doubt is among the calls in doubt
doubtful_is : (index : ℕ) (event : Event FrontValue) → IsDoubtful event → is_attempt index event ≡ true → is_of doubts index event ≡ true
doubtful_is index (Commit place ops outcome front) doubtful is = doubtful_so index place ops outcome front doubtful is
doubtful_is index (Configured confs) doubtful is = absurd doubtful
doubtful_is index Nothing doubtful is = absurd doubtful
doubtful_is index NoMemory doubtful is = absurd doubtful
doubtful_is index (Read place front) doubtful is = absurd doubtful
doubtful_is index (Reshape place job outcome own front) doubtful is = absurd doubtful

-- the worker has no entry of this number, or the one that was wanted
abbrev StandsSo : Base → ℕ → ℕ → Event FrontValue → List Step → Type 0
StandsSo base worker number event steps = (entries_numbered worker (number + 1) steps ≡ []) ⊎ ((entry : Entry) × IsEntryWanted base worker event entry × (entries_numbered worker (number + 1) steps ≡ entry ∷ []))

module _ (schema : Schema) (base : Base) (index : ℕ) (entries : List Step) (events : List (List (Event FrontValue))) (one : IsOneHistory schema base index entries events) where
  line_so : (place number at : ℕ) (ops : List TxnOp) (doubt : Doubt) (front : FrontValue) (entry : Entry) (snapshot : SnapshotValue) (removed : ℕ) → Becomes base front.steps (place + 1) ops entry snapshot removed → entry.seq ≡ number + 1
      → IsPrefix (front.steps ++ history.Commit entry snapshot ∷ []) entries ⊎ IsPrefix entries front.steps → StandsSo base (place + 1) number (Commit at ops (outcomes.InDoubt doubt) front) entries
  line_so place number at ops doubt front entry snapshot removed becomes seq (inl far) =
      inr (entry, (snapshot, removed, becomes), found_once schema base index entries events one place number entry (wanted_at base front.steps entries (place + 1) number ops entry snapshot removed becomes seq far))
  line_so place number at ops doubt front entry snapshot removed becomes seq (inr short) =
      let less = none_at base front.steps entries (place + 1) number ops entry snapshot removed becomes seq short in
      inl (none_numbered 1 (number + 1) (commits_by (place + 1) entries) (numbered schema base index entries events one (place + 1)) (inr (omega (arith, less))))

  on_line : (steps : List Step) (step : Step) → AreOnOneLine (steps ++ step ∷ []) entries → IsPrefix (steps ++ step ∷ []) entries ⊎ IsPrefix entries steps
  on_line steps step (inl far) = inl far
  on_line steps step (inr short) = behind steps entries step short

  commit_so : (place number at : ℕ) (ops : List TxnOp) (outcome : CommitOutcome) (front : FrontValue) → IsDoubtful (Commit at ops outcome front) → IsSettledSo base entries (place + 1) (number + 1) (Commit at ops outcome front)
      → StandsSo base (place + 1) number (Commit at ops outcome front) entries
  commit_so place number at ops (outcomes.Committed removed) front doubtful so = absurd doubtful
  commit_so place number at ops (outcomes.Duplicate id) front doubtful so = absurd doubtful
  commit_so place number at ops (outcomes.Full full) front doubtful so = absurd doubtful
  commit_so place number at ops outcomes.Refused front doubtful so = absurd doubtful
  commit_so place number at ops (outcomes.InDoubt doubt) front doubtful so =
      let (wanted, (entry, snapshot, removed, becomes, seq, is), line) = so in
      line_so place number at ops doubt front entry snapshot removed becomes seq (on_line front.steps (history.Commit entry snapshot) (subst (λ (w : List Step). AreOnOneLine w entries) is line))
  commit_so place number at ops (outcomes.Strayed numbers) front doubtful so = absurd doubtful

  event_so : (place number : ℕ) (event : Event FrontValue) → IsDoubtful event → IsSettledSo base entries (place + 1) (number + 1) event → StandsSo base (place + 1) number event entries
  event_so place number (Commit at ops outcome front) doubtful so = commit_so place number at ops outcome front doubtful so
  event_so place number (Configured confs) doubtful so = absurd doubtful
  event_so place number Nothing doubtful so = absurd doubtful
  event_so place number NoMemory doubtful so = absurd doubtful
  event_so place number (Read at front) doubtful so = absurd doubtful
  event_so place number (Reshape at job outcome own front) doubtful so = absurd doubtful

  pub stands_as_wanted : (place number : ℕ) (event : Event FrontValue) → AreSettled base index entries events → IsAttempt index events place number event → IsDoubtful event → StandsSo base (place + 1) number event entries
  stands_as_wanted place number event settled attempt doubtful =
      let among : StandsIn (is_attempt index) attempt.own number event = stands_in (is_attempt index) attempt.own number event attempt.at in
      event_so place number event doubtful
      (subst (λ (n : ℕ). IsSettledSo base entries (place + 1) n event) among.many (settled.each place attempt.own among.before event among.later attempt.of among.cut (doubtful_is index event doubtful among.passes)))
