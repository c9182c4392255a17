-- What an engine's answer to a commit is to a session: its outcome says the same of the token.
use Rattle.std.proofs.Common.{◌≡◌, ℕ, ◌+◌, List, Option, Some, Result, Ok, Err, OnErr, slice_get, slice_set, refl, ap, subst, ◌∙◌}
use Rattle.std.specs.Option.{option_or}
use Rattle.srch_base.specs.declared.faults.NoMemory.{NoMemory}
use Rattle.commit_outcomes.specs.declared.outcome.CommitOutcome.{CommitOutcome}
use Rattle.commit_outcomes.specs.declared.outcome.CommitOutcome.TheVariants as outcomes
use Rattle.commit_outcomes.specs.declared.strayed.Strayed.{Strayed}
use Rattle.doc_types.specs.declared.schema.Schema.{Schema}
use Rattle.doc_types.specs.declared.transactions.TxnOp.{TxnOp}
use Rattle.step_book.specs.Fronts.{FrontValue}
use Rattle.step_history.specs.History.{Base, IsGood, Step}
use Rattle.step_tokens.specs.Tokens.{TokenValue}
use Rattle.commit_outcomes.specs.declared.outcome.Doubt.TheVariants as doubts
use Rattle.store_keep.specs.Charges.{charge_of}
use Rattle.store_keep.specs.declared.charge.Charge.{Charge}
use Rattle.store_keep.specs.declared.charge.Charge.TheVariants as charges
use Rattle.store_keep.specs.declared.fault.CommitFault.{CommitFault}
use Rattle.store_keep.specs.declared.fault.CommitFault.TheVariants as faults
use Rattle.store_keep.specs.declared.fault.Committed.{Committed}
use Rattle.snap_share.specs.Answers.{Advances, Answers, IsAcknowledged, IsNoteOf, seen_by}
use Rattle.snap_share.specs.Counts.{Shares}
use Rattle.engine_tables.specs.Outcomes.{IsMade, Tells, charge_by, numbers_of, outcome_of}
use Rattle.engine_tables.specs.Tokens.{TokensValue}
use Rattle.engine_tables.specs.Workers.{CommitsBy, GrowAll, Grows}
use Rattle.engine_tables.proofs.Using.{IsUsed, grow_at, with_token}

pub note_of : (token : TokenValue) (note : FrontValue) → IsNoteOf token note → IsNoteOf token (seen_by token)
note_of token note is = record { is = refl; counts = is.counts }

made_so : {J : Type 0} (base : Base) (old : TokenValue) (ops : List TxnOp) (made : Committed J) (new : TokenValue) → IsAcknowledged {J = J} base old ops made new → IsMade base old ops made.removed new
made_so base old ops made new is =
    (made.number, record { earlier = is.earlier; entry = is.entry; snapshot = is.snapshot; last = is.last; before = is.before; becomes = is.becomes; number = is.number; seq = is.seq })

pub kept : (schema : Schema) (base : Base) (old new : TokenValue) (made : ℕ) (entered : Option (List Step)) → Advances schema base old new made entered → (new.index ≡ old.index) × (new.worker ≡ old.worker)
kept schema base old new made entered is = (ap (λ (t : TokenValue). t.index) is.is, ap (λ (t : TokenValue). t.worker) is.is)

-- a token that advanced by no commit, and by no share, has seen what it had seen, or more
pub grows_so : (schema : Schema) (base : Base) (old new : TokenValue) → Advances schema base old new old.made old.entered → Shares charges.Free old new → Grows old new
grows_so schema base old new says shares = record {
  is = says.is ∙ ap (λ (f : List ℕ). record old { seen = new.seen; faults = f; stops = new.stops }) (shares.faults_stay refl) ∙ ap (λ (s : List ℕ). record old { seen = new.seen; stops = s }) (shares.stops_stay refl);
  seen = says.seen;
}

abbrev said : CommitOutcome → Result CommitOutcome NoMemory
said outcome = Ok outcome

outcome_is : (a b : CommitOutcome) → said a ≡ said b → a ≡ b
outcome_is a b is = cc (is)

-- an answer is charged as its outcome
charged_alike : {J : Type 0} (answer : Result (Committed J) (CommitFault J)) (outcome : CommitOutcome) → outcome_of {J = J} answer ≡ Ok outcome → charge_of {J = J} answer ≡ charge_by outcome
charged_alike (Ok made) outcome is = ap charge_by (outcome_is (outcomes.Committed made.removed) outcome is)
charged_alike (Err faults.NoMemory) outcome is = absurd (cc (is))
charged_alike (Err (faults.Strayed numbers note)) outcome is = ap charge_by (outcome_is (outcomes.Strayed numbers) outcome is)
charged_alike (Err (faults.Duplicate id note)) outcome is = ap charge_by (outcome_is (outcomes.Duplicate id) outcome is)
charged_alike (Err (faults.Full full note)) outcome is = ap charge_by (outcome_is (outcomes.Full full) outcome is)
charged_alike (Err faults.Refused) outcome is = ap charge_by (outcome_is outcomes.Refused outcome is)
charged_alike (Err (faults.InDoubt doubts.Disk)) outcome is = ap charge_by (outcome_is (outcomes.InDoubt doubts.Disk) outcome is)
charged_alike (Err (faults.InDoubt doubts.Memory)) outcome is = ap charge_by (outcome_is (outcomes.InDoubt doubts.Memory) outcome is)

as_told : (schema : Schema) (base : Base) (old : TokenValue) (ops : List TxnOp) (new : TokenValue) (outcome its : CommitOutcome) → its ≡ outcome → Tells schema base old ops its new → Tells schema base old ops outcome new
as_told schema base old ops new outcome its same tells = subst (λ (o : CommitOutcome). Tells schema base old ops o new) same tells

module _ {J : Type 0} (schema : Schema) (base : Base) (old : TokenValue) (ops : List TxnOp) (new : TokenValue) where
  -- an answer with an outcome says what the outcome does
  pub tells_so : (answer : Result (Committed J) (CommitFault J)) (outcome : CommitOutcome) → Answers {J = J} schema base old ops answer new → outcome_of {J = J} answer ≡ Ok outcome → Tells schema base old ops outcome new
  tells_so (Ok made) outcome says is = as_told schema base old ops new outcome (outcomes.Committed made.removed) (cc (is)) (says.0, note_of new made.note says.1, made_so {J = J} base old ops made new says.2)
  tells_so (Err faults.NoMemory) outcome says is = absurd (cc (is))
  tells_so (Err (faults.Strayed numbers note)) outcome says is = as_told schema base old ops new outcome (outcomes.Strayed numbers) (cc (is)) (says.0, (note, says.1))
  tells_so (Err (faults.Duplicate id note)) outcome says is = as_told schema base old ops new outcome (outcomes.Duplicate id) (cc (is)) (says.0, note_of new note says.1, says.2)
  tells_so (Err (faults.Full full note)) outcome says is = as_told schema base old ops new outcome (outcomes.Full full) (cc (is)) (says.0, note_of new note says.1, says.2)
  tells_so (Err faults.Refused) outcome says is = as_told schema base old ops new outcome outcomes.Refused (cc (is)) says
  tells_so (Err (faults.InDoubt doubt)) outcome says is = as_told schema base old ops new outcome (outcomes.InDoubt doubt) (cc (is)) says

  -- an answer without one leaves the token with what it had seen, or more
  pub grown_so : (answer : Result (Committed J) (CommitFault J)) (none : NoMemory) → Answers {J = J} schema base old ops answer new → Shares (charge_of {J = J} answer) old new → outcome_of {J = J} answer ≡ Err none → Grows old new
  grown_so (Ok made) none says shares is = absurd (cc (is))
  grown_so (Err faults.NoMemory) none says shares is = grows_so schema base old new says shares
  grown_so (Err (faults.Strayed numbers note)) none says shares is = absurd (cc (is))
  grown_so (Err (faults.Duplicate id note)) none says shares is = absurd (cc (is))
  grown_so (Err (faults.Full full note)) none says shares is = absurd (cc (is))
  grown_so (Err faults.Refused) none says shares is = absurd (cc (is))
  grown_so (Err (faults.InDoubt doubt)) none says shares is = absurd (cc (is))

  -- no answer changes whose the token is
  pub stays_own : (answer : Result (Committed J) (CommitFault J)) → Answers {J = J} schema base old ops answer new → (new.index ≡ old.index) × (new.worker ≡ old.worker)
  stays_own (Ok made) says = kept schema base old new (old.made + 1) old.entered says.0
  stays_own (Err faults.NoMemory) says = kept schema base old new old.made old.entered says
  stays_own (Err (faults.Strayed numbers note)) says = (ap (λ (t : TokenValue). t.index) says.0, ap (λ (t : TokenValue). t.worker) says.0)
  stays_own (Err (faults.Duplicate id note)) says = kept schema base old new old.made old.entered says.0
  stays_own (Err (faults.Full full note)) says = kept schema base old new old.made old.entered says.0
  stays_own (Err faults.Refused) says = kept schema base old new old.made old.entered says
  stays_own (Err (faults.InDoubt doubt)) says = kept schema base old new (old.made + 1) new.entered says.0

module _ {J : Type 0} (schema : ℕ → Schema) (base : ℕ → Base) (view old : TokensValue) (place : ℕ) (before after : TokenValue) (ops : List TxnOp) (answer : Result (Committed J) (CommitFault J)) (used : IsUsed view old place before after) (says : Answers {J = J} (schema place) (base place) before ops answer after) (shares : Shares (charge_of {J = J} answer) before after) where
  -- what a commit by one of the tokens is to the store
  pub commits_so : (outcome : CommitOutcome) → outcome_of {J = J} answer ≡ Ok outcome → IsGood (schema after.index) (base after.index) after.seen
      → (had : Option Strayed) → slice_get view.told place ≡ Some had → (told : List (Option Strayed)) → told ≡ slice_set view.told place (option_or had (numbers_of outcome))
      → (front : FrontValue) × CommitsBy schema base old place ops outcome front (record (with_token view place after) { told = told })
  commits_so outcome is good had kept told told_is =
      let own = used.order.each place before used.at in
      let index : after.index ≡ place = used.index ∙ own.0 in (
        seen_by after,
        record {
          before = before;
          after = after;
          at = subst (λ (t : TokensValue). slice_get t.list place ≡ Some before) used.view_is used.at;
          own = own.1 ∙ ap (λ (t : TokensValue). t.worker) used.view_is;
          had = had;
          told = subst (λ (t : TokensValue). slice_get t.told place ≡ Some had) used.view_is kept;
          left = ap (λ (l : List (Option Strayed)). record (with_token view place after) { told = l }) told_is
              ∙ ap (λ (t : TokensValue). record (with_token t place after) { told = slice_set t.told place (option_or had (numbers_of outcome)) }) used.view_is;
          is = refl;
          of = index;
          good = subst (λ (i : ℕ). IsGood (schema i) (base i) after.seen) index good;
          tells = tells_so {J = J} (schema place) (base place) before ops after answer outcome says is;
          shares = subst (λ (charge : Charge). Shares charge before after) (charged_alike {J = J} answer outcome is) shares;
        },
      )

  -- out of memory, the token may have seen more
  pub fails_so : (none : NoMemory) → outcome_of {J = J} answer ≡ Err none → GrowAll old (with_token view place after)
  fails_so none is =
      subst (λ (o : TokensValue). GrowAll o (with_token view place after)) used.view_is
      (grow_at view place before after used.at (grown_so {J = J} (schema place) (base place) before ops after answer none says shares is))

  pub fails_with : (result : Result CommitOutcome NoMemory) (none : NoMemory) → outcome_of {J = J} answer ≡ Err none → OnErr result (GrowAll old (with_token view place after))
  fails_with (Ok outcome) none is = tt
  fails_with (Err other) none is = fails_so none is
