-- How an answer is charged to its token: what is said of all but the shares stays, and the shares are as the answer says.
use Rattle.std.proofs.Common.{◌≡◌, ℕ, ◌+◌, List, Option, Result, Ok, Err, refl, sym, ◌∙◌, ap, subst, arith}
use Rattle.doc_types.specs.declared.schema.Schema.{Schema}
use Rattle.doc_types.specs.declared.transactions.TxnOp.{TxnOp}
use Rattle.job_chunks.specs.Chunks.{NewChunkValue}
use Rattle.step_book.specs.Fronts.{FrontValue}
use Rattle.step_book.specs.Shares.{calls_by}
use Rattle.step_history.specs.History.{Base, Step}
use Rattle.step_tokens.specs.Tokens.{TokenValue, faults_of, stops_of}
use Rattle.store_keep.specs.Charges.{Charges}
use Rattle.store_keep.specs.Commits.{Learns}
use Rattle.store_keep.specs.declared.charge.Charge.{Charge}
use Rattle.store_keep.specs.declared.charge.Charge.TheVariants as charges
use Rattle.store_keep.specs.declared.fault.CommitFault.{CommitFault}
use Rattle.store_keep.specs.declared.fault.CommitFault.TheVariants as faults
use Rattle.store_keep.specs.declared.fault.Committed.{Committed}
use Rattle.store_keep.specs.declared.install_fault.InstallFault.{InstallFault}
use Rattle.store_keep.specs.declared.install_fault.InstallFault.TheVariants as endings
use Rattle.snap_share.specs.Answers.{Advances, Answers, IsNoteOf}
use Rattle.snap_share.specs.Counts.{Shares}
use Rattle.snap_share.specs.Reshapes.{ReshapeAnswers}

-- what decides how many of a token's shares are its own
pub record HasShares (old new : TokenValue) : Type 0 where
  pub worker : new.worker ≡ old.worker
  pub faults : new.faults ≡ old.faults
  pub stops : new.stops ≡ old.stops

pub shares_then : (a b c : TokenValue) → HasShares a b → HasShares b c → HasShares a c
shares_then a b c p q = record { worker = q.worker ∙ p.worker; faults = q.faults ∙ p.faults; stops = q.stops ∙ p.stops }

pub shares_same : (a b : TokenValue) → b ≡ a → HasShares a b
shares_same a b is = subst (λ (t : TokenValue). HasShares a t) (sym is) (record { worker = refl; faults = refl; stops = refl })

-- what a charge leaves as it is
charged_is : (charge : Charge) (mid after : TokenValue) → Charges charge mid after → after ≡ record mid { faults = after.faults; stops = after.stops }
charged_is charges.Free mid after is = subst (λ (t : TokenValue). t ≡ record mid { faults = t.faults; stops = t.stops }) (sym is) refl
charged_is charges.Fault mid after is = is.0 ∙ ap (λ (s : List ℕ). record mid { faults = after.faults; stops = s }) (sym (ap (λ (t : TokenValue). t.stops) is.0))
charged_is charges.Stop mid after is = is.0 ∙ ap (λ (f : List ℕ). record mid { faults = f; stops = after.stops }) (sym (ap (λ (t : TokenValue). t.faults) is.0))

pub charged_seen : (charge : Charge) (mid after : TokenValue) → Charges charge mid after → after.seen ≡ mid.seen
charged_seen charge mid after is = ap (λ (t : TokenValue). t.seen) (charged_is charge mid after is)

-- learning a history changes no share, nor does leaving a step in doubt
pub learnt_shares : (old new : TokenValue) (made : ℕ) (steps : List Step) → Learns old new made steps → HasShares old new
learnt_shares old new made steps learns = record { worker = learns.worker; faults = learns.faults_are; stops = learns.stops_are }

pub kept_in_doubt : (old new : TokenValue) (made : ℕ) (entered : Option (List Step)) → new ≡ record old { made = made; entered = entered } → HasShares old new
kept_in_doubt old new made entered is = subst (λ (t : TokenValue). HasShares old t) (sym is) (record { worker = refl; faults = refl; stops = refl })

own_faults : (old mid : TokenValue) → HasShares old mid → faults_of mid ≡ faults_of old
own_faults old mid same = ap (λ (w : ℕ). calls_by w mid.faults) same.worker ∙ ap (λ (f : List ℕ). calls_by old.worker f) same.faults

own_stops : (old mid : TokenValue) → HasShares old mid → stops_of mid ≡ stops_of old
own_stops old mid same = ap (λ (w : ℕ). calls_by w mid.stops) same.worker ∙ ap (λ (s : List ℕ). calls_by old.worker s) same.stops

-- and what it adds
pub shares_so : (charge : Charge) (old mid after : TokenValue) → HasShares old mid → Charges charge mid after → Shares charge old after
shares_so charges.Free old mid after same is =
    let f = own_faults old mid same in
    let s = own_stops old mid same in
    let fs = ap faults_of is in
    let ss = ap stops_of is in
    record {
      faults = omega (arith, f, fs);
      stops = omega (arith, s, ss);
      faults_stay = λ none. ap (λ (t : TokenValue). t.faults) is ∙ same.faults;
      stops_stay = λ none. ap (λ (t : TokenValue). t.stops) is ∙ same.stops;
    }
shares_so charges.Fault old mid after same is =
    let f = own_faults old mid same in
    let s = own_stops old mid same in
    let ss = ap stops_of is.0 in
    record {
      faults = omega (arith, f, is.1);
      stops = omega (arith, s, ss);
      faults_stay = λ none. absurd (omega (arith, none));
      stops_stay = λ none. ap (λ (t : TokenValue). t.stops) is.0 ∙ same.stops;
    }
shares_so charges.Stop old mid after same is =
    let f = own_faults old mid same in
    let s = own_stops old mid same in
    let fs = ap faults_of is.0 in
    record {
      faults = omega (arith, f, fs);
      stops = omega (arith, s, is.1);
      faults_stay = λ none. ap (λ (t : TokenValue). t.faults) is.0 ∙ same.faults;
      stops_stay = λ none. absurd (omega (arith, none));
    }

module _ (schema : Schema) (base : Base) (old mid : TokenValue) (f s : List ℕ) where
  advances : (made : ℕ) (entered : _) → Advances schema base old mid made entered → Advances schema base old (record mid { faults = f; stops = s }) made entered
  advances made entered is = record { is = ap (λ (t : TokenValue). record t { faults = f; stops = s }) is.is; seen = is.seen; good = is.good }

  noted : (note : FrontValue) → IsNoteOf mid note → IsNoteOf (record mid { faults = f; stops = s }) note
  noted note is = record { is = is.is; counts = is.counts }

  answered : {J : Type 0} (ops : List TxnOp) (result : Result (Committed J) (CommitFault J)) → Answers {J = J} schema base old ops result mid → Answers {J = J} schema base old ops result (record mid { faults = f; stops = s })
  answered {J} ops (Ok made) is = (
    advances (old.made + 1) old.entered is.0,
    noted made.note is.1,
    record { earlier = is.2.earlier; entry = is.2.entry; snapshot = is.2.snapshot; last = is.2.last; before = is.2.before; becomes = is.2.becomes; number = is.2.number; seq = is.2.seq },
  )
  answered ops (Err faults.NoMemory) is = advances old.made old.entered is
  answered ops (Err (faults.Strayed numbers note)) is = (ap (λ (t : TokenValue). record t { faults = f; stops = s }) is.0, is.1)
  answered ops (Err (faults.Duplicate id note)) is = (advances old.made old.entered is.0, noted note is.1, is.2)
  answered ops (Err (faults.Full full note)) is =
      (advances old.made old.entered is.0, noted note is.1, record { changes = is.2.changes; removed = is.2.removed; verdict = is.2.verdict; over = is.2.over })
  answered ops (Err faults.Refused) is = advances old.made old.entered is
  answered ops (Err (faults.InDoubt doubt)) is = (
    advances (old.made + 1) mid.entered is.0,
    record { entry = is.1.entry; snapshot = is.1.snapshot; removed = is.1.removed; becomes = is.1.becomes; seq = is.1.seq; counts = is.1.counts; leaves = record { entered = is.1.leaves.entered; before = is.1.leaves.before } },
  )

  reshaped : {J : Type 0} (new : NewChunkValue) (result : Result FrontValue (InstallFault J)) → ReshapeAnswers {J = J} schema base old new result mid → ReshapeAnswers {J = J} schema base old new result (record mid { faults = f; stops = s })
  reshaped new (Ok note) is =
      (advances old.made old.entered is.0, noted note is.1, record { earlier = is.2.earlier; snapshot = is.2.snapshot; last = is.2.last; before = is.2.before })
  reshaped new (Err endings.NoMemory) is = advances old.made old.entered is
  reshaped new (Err (endings.Strayed numbers note)) is = (ap (λ (t : TokenValue). record t { faults = f; stops = s }) is.0, is.1)
  reshaped new (Err (endings.Overtaken shape note)) is = (advances old.made old.entered is.0, noted note is.1, is.2, is.3)
  reshaped new (Err (endings.Full full)) is = (advances old.made old.entered is.0, is.1, is.2)
  reshaped new (Err endings.DiskFault) is = advances old.made old.entered is
  reshaped new (Err endings.InDoubt) is = (advances old.made mid.entered is.0, record { snapshot = is.1.snapshot; leaves = record { entered = is.1.leaves.entered; before = is.1.leaves.before } })

-- what is said of a commit before it is charged holds afterwards
pub answered_so : {J : Type 0} (schema : Schema) (base : Base) (old : TokenValue) (ops : List TxnOp) (result : Result (Committed J) (CommitFault J)) (charge : Charge) (mid after : TokenValue) → Charges charge mid after → Answers {J = J} schema base old ops result mid → Answers {J = J} schema base old ops result after
answered_so {J} schema base old ops result charge mid after is answers =
    subst (λ (t : TokenValue). Answers {J = J} schema base old ops result t) (sym (charged_is charge mid after is)) (answered schema base old mid after.faults after.stops {J = J} ops result answers)

-- and of a job
pub reshaped_so : {J : Type 0} (schema : Schema) (base : Base) (old : TokenValue) (new : NewChunkValue) (result : Result FrontValue (InstallFault J)) (charge : Charge) (mid after : TokenValue) → Charges charge mid after → ReshapeAnswers {J = J} schema base old new result mid → ReshapeAnswers {J = J} schema base old new result after
reshaped_so {J} schema base old new result charge mid after is answers =
    subst (λ (t : TokenValue). ReshapeAnswers {J = J} schema base old new result t) (sym (charged_is charge mid after is)) (reshaped schema base old mid after.faults after.stops {J = J} new result answers)
