-- A commit that was entered, and then settled or not.
use Rattle.std.proofs.Common.{◌≡◌, inl, inr, ⊎_elim, ℕ, ◌+◌, ◌≤◌, ◌<◌, ◌^◌, List, [], ◌∷◌, ◌++◌, Option, Some, None, Result, Ok, Err, refl, sym, ◌∙◌, ap, subst, arith, length}
use Rattle.chunk_store.specs.declared.disk.Disk.{Ghosts as DiskWords}
use Rattle.commit_outcomes.specs.declared.outcome.Doubt.TheVariants as doubts
use Rattle.doc_types.specs.declared.schema.Schema.{Schema}
use Rattle.gate_log.specs.declared.log.GateLog.{GateLog}
use Rattle.step_history.specs.History.{Base, Step, made_by}
use Rattle.step_line.specs.Lines.{IsBy, LineValue, entered, kept_by, with_waiting}
use Rattle.step_line.proofs.CommitCounts.{at_most}
use Rattle.step_tokens.specs.Tokens.{TokenValue}
use Rattle.store_steps.specs.Kept.{Gives, GivesEither, LeavesOnly}
use Rattle.store_steps.proofs.Leaving.{leaves_then}
use Rattle.doc_types.specs.declared.transactions.TxnOp.{TxnOp}
use Rattle.store_keep.specs.Commits.{Ends, GivesEntered, IsCommit, Makes}
use Rattle.store_keep.specs.steps.Stages.{Finishes, IsPrepared, Prepares}
use Rattle.store_keep.specs.declared.preparing.Prepared.{Prepared}
use Rattle.store_keep.specs.declared.fault.CommitFault.{CommitFault}
use Rattle.store_keep.specs.declared.fault.CommitFault.TheVariants as faults
use Rattle.store_keep.specs.declared.fault.Committed.{Committed}

-- settled or not, the line has the same steps with the one that waits
pub same_entered : {J : Type 0} (mid new : LineValue) (counted after : TokenValue) (number removed between now : ℕ) (log : GateLog) (r : Result (Committed J) (CommitFault J)) → Finishes mid counted number removed between r new log after now → entered new ≡ entered mid
same_entered mid new counted after number removed between now log (Ok made) ends = ap entered ends.0
same_entered mid new counted after number removed between now log (Err (faults.InDoubt doubts.Disk)) ends = ap entered ends.0
same_entered mid new counted after number removed between now log (Err (faults.InDoubt doubts.Memory)) ends = ap entered ends.0
same_entered mid new counted after number removed between now log (Err faults.NoMemory) ends = absurd ends
same_entered mid new counted after number removed between now log (Err (faults.Strayed strayed note)) ends = absurd ends
same_entered mid new counted after number removed between now log (Err (faults.Duplicate id note)) ends = absurd ends
same_entered mid new counted after number removed between now log (Err (faults.Full full note)) ends = absurd ends
same_entered mid new counted after number removed between now log (Err faults.Refused) ends = absurd ends

-- what a crash leaves while a commit is entered and then settled
pub made_leaves : {D : Type 0} (words : DiskWords D) (schema : ℕ → Schema) (base : ℕ → Base) (old between now : D) (line mid new : LineValue) (step : Step) → mid ≡ record line { waiting = Some step } → entered new ≡ entered mid
    → LeavesOnly words old between (Gives (schema line.index) (base line.index) line.history) → LeavesOnly words between now (GivesEither (schema mid.index) (base mid.index) mid.history mid.waiting)
    → LeavesOnly words old now (GivesEntered (schema line.index) (base line.index) line.history new)
made_leaves words schema base old between now line mid new step is same first second =
    let moved : LeavesOnly words between now (GivesEither (schema line.index) (base line.index) line.history (Some step)) = subst (λ (l : LineValue). LeavesOnly words between now (GivesEither (schema l.index) (base l.index) l.history l.waiting)) is second in
    let all : entered new ≡ line.history ++ step ∷ [] = same ∙ ap entered is in
    leaves_then words old between now {P = Gives (schema line.index) (base line.index) line.history} {Q = GivesEither (schema line.index) (base line.index) line.history (Some step)} {R = GivesEntered (schema line.index) (base line.index) line.history new} first moved
    (λ x gives. inl gives)
    (λ x gives. ⊎_elim (λ a. inl a) (λ b. inr (subst (λ (steps : List Step). Gives (schema line.index) (base line.index) steps x) (sym all) b)) gives)

-- a commit that was prepared is one
pub is_commit : {J : Type 0} (schema : Schema) (base : Base) (line : LineValue) (worker : ℕ) (ops : List TxnOp) (prepared : Prepared J) → IsPrepared schema base line worker ops prepared → IsCommit base line worker ops prepared.removed prepared.number prepared.pending.step
is_commit schema base line worker ops prepared is = record { entry = is.enters.entry; snapshot = is.enters.snapshot; is = is.enters.is; number_is = is.number; becomes = is.becomes }

-- it ends as it is made
pub made_ends : {J : Type 0} (base : Base) (line : LineValue) (token : TokenValue) (worker : ℕ) (ops : List TxnOp) (removed number : ℕ) (step : Step) (before now : ℕ) (new : LineValue) (log : GateLog) (after : TokenValue) (r : Result (Committed J) (CommitFault J))
    → IsCommit base line worker ops removed number step → Makes line token step number removed before r new log after now → Ends base line token worker ops before r new log after now
made_ends base line token worker ops removed number step before now new log after (Ok made) is makes = (removed, number, step, is, makes)
made_ends base line token worker ops removed number step before now new log after (Err (faults.InDoubt doubts.Disk)) is makes = (removed, number, step, is, makes)
made_ends base line token worker ops removed number step before now new log after (Err (faults.InDoubt doubts.Memory)) is makes = (removed, number, step, is, makes)
made_ends base line token worker ops removed number step before now new log after (Err faults.Refused) is makes = (removed, number, step, is, makes)
made_ends base line token worker ops removed number step before now new log after (Err faults.NoMemory) is makes = absurd makes
made_ends base line token worker ops removed number step before now new log after (Err (faults.Strayed strayed note)) is makes = absurd makes
made_ends base line token worker ops removed number step before now new log after (Err (faults.Duplicate id note)) is makes = absurd makes
made_ends base line token worker ops removed number step before now new log after (Err (faults.Full full note)) is makes = absurd makes

-- or it is refused before anything is done
pub refused_ends : {J : Type 0} (schema : Schema) (base : Base) (line : LineValue) (token : TokenValue) (worker : ℕ) (ops : List TxnOp) (before : ℕ) (log : GateLog) (fault : CommitFault J) → Prepares {J = J} schema base line worker ops (Err fault)
    → Ends {J = J} base line token worker ops before (Err fault) line log token before
refused_ends schema base line token worker ops before log faults.NoMemory none = record { line_is = refl; token_is = refl; later = omega arith }
refused_ends schema base line token worker ops before log (faults.Strayed strayed note) none = absurd none
refused_ends schema base line token worker ops before log (faults.Duplicate id note) is = (record { line_is = refl; token_is = refl; later = omega arith }, is)
refused_ends schema base line token worker ops before log (faults.Full full note) is = (record { line_is = refl; token_is = refl; later = omega arith }, is)
refused_ends schema base line token worker ops before log faults.Refused none = absurd none
refused_ends schema base line token worker ops before log (faults.InDoubt doubt) none = absurd none

-- a commit that was prepared is by one of the workers
pub by_worker : {J : Type 0} (schema : Schema) (base : Base) (line : LineValue) (worker : ℕ) (ops : List TxnOp) (prepared : Prepared J) → IsPrepared schema base line worker ops prepared → 0 < worker → worker ≤ line.workers → IsBy line.workers prepared.pending.step
by_worker schema base line worker ops prepared is some most =
    subst (λ (s : Step). IsBy line.workers s) (sym is.enters.is) (omega (arith, is.becomes.by, some), omega (arith, is.becomes.by, most))

-- a worker's count has room where the history has
pub count_room : (line : LineValue) (worker made : ℕ) → line.waiting ≡ None → made ≡ kept_by worker line → length line.history + 1 < 2 ^ 63 → made + 1 < 2 ^ 64
count_room line worker made none is room =
    let same : kept_by worker line ≡ made_by worker line.history = ap (λ (w : Option Step). made_by worker (with_waiting line.history w)) none in
    omega (arith, is, same, at_most worker line.history, room)
