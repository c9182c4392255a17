-- A commit or a job that is charged as no fault was decided by the history of its index.
use Rattle.std.proofs.Common.{◌≡◌, ⊎_elim, ℕ, List, false, inl, inr, sym, ap, subst}
use Rattle.commit_outcomes.specs.declared.outcome.CommitOutcome.{CommitOutcome}
use Rattle.commit_outcomes.specs.declared.outcome.CommitOutcome.TheVariants as outcomes
use Rattle.commit_outcomes.specs.declared.outcome.Doubt.TheVariants as doubts
use Rattle.doc_types.specs.declared.schema.Schema.{Schema}
use Rattle.doc_types.specs.declared.transactions.TxnOp.{TxnOp}
use Rattle.ql_session.specs.JobOutcome.{JobOutcome}
use Rattle.ql_session.specs.JobOutcome.TheVariants as job_outcomes
use Rattle.step_book.specs.Fronts.{FrontValue}
use Rattle.step_history.specs.History.{Base}
use Rattle.step_history.specs.declared.job.Job.{Job}
use Rattle.step_tokens.specs.Tokens.{TokenValue}
use Rattle.snap_share.specs.Answers.{Stays, seen_by}
use Rattle.engine_tables.specs.Outcomes.{ContradictsSome, HasNoRoom, Tells, TellsEnd, TellsJob, charge_by, charge_by_job}
use Rattle.line_workers.specs.Attempts.{is_fault}
use Rattle.run_laws.specs.Decided.{DecidesCommit, DecidesJob, HasStrayed}

strayed : (base : Base) (before after : TokenValue) (numbers : _) → Stays before after → ContradictsSome base before numbers → HasStrayed base (seen_by after) numbers
strayed base before after numbers stays contradicts = record { token = before; is = ap seen_by stays; contradicts = contradicts }

commit_over : (schema : Schema) (base : Base) (before after : TokenValue) (ops : List TxnOp) (outcome : CommitOutcome) → Tells schema base before ops outcome after → is_fault (charge_by outcome) ≡ false
    → DecidesCommit base before.worker ops (seen_by after) outcome
commit_over schema base before after ops (outcomes.Committed removed) tells free =
    let made = tells.2 in
    (made.1.entry, record { earlier = made.1.earlier; snapshot = made.1.snapshot; last = made.1.last; becomes = made.1.becomes })
commit_over schema base before after ops (outcomes.Duplicate id) tells free = tells.2
commit_over schema base before after ops (outcomes.Full full) tells free = (tells.2.changes, tells.2.removed, tells.2.verdict, tells.2.over)
commit_over schema base before after ops outcomes.Refused tells free = absurd (cc free)
commit_over schema base before after ops (outcomes.InDoubt doubts.Disk) tells free = absurd (cc free)
commit_over schema base before after ops (outcomes.InDoubt doubts.Memory) tells free = tt
commit_over schema base before after ops (outcomes.Strayed numbers) tells free = strayed base before after numbers tells.0 tells.1

-- a commit by what its outcome tells
pub commit_decided : (schema : Schema) (base : Base) (worker : ℕ) (before after : TokenValue) (ops : List TxnOp) (outcome : CommitOutcome) (front : FrontValue) → before.worker ≡ worker → front ≡ seen_by after
    → Tells schema base before ops outcome after → is_fault (charge_by outcome) ≡ false → DecidesCommit base worker ops front outcome
commit_decided schema base worker before after ops outcome front own is tells free =
    subst (λ (w : ℕ). DecidesCommit base w ops front outcome) own
    (subst (λ (f : FrontValue). DecidesCommit base before.worker ops f outcome) (sym is) (commit_over schema base before after ops outcome tells free))

job_ends : (schema : Schema) (base : Base) (before after : TokenValue) (job : Job) (outcome : JobOutcome) → TellsEnd schema base before job outcome after → is_fault (charge_by_job outcome) ≡ false
    → DecidesJob base job (seen_by before) (seen_by after) outcome
job_ends schema base before after job job_outcomes.Shaped tells free =
    record { earlier = tells.2.earlier; snapshot = tells.2.snapshot; last = tells.2.last; before = tells.2.before }
job_ends schema base before after job (job_outcomes.Overtaken shape) tells free = (tells.2, tells.3)
job_ends schema base before after job (job_outcomes.Full full) tells free = inr tells.1
job_ends schema base before after job job_outcomes.Refused tells free = absurd (cc free)
job_ends schema base before after job job_outcomes.InDoubt tells free = tt
job_ends schema base before after job (job_outcomes.Strayed numbers) tells free = strayed base before after numbers tells.0 tells.1

job_lacks : (base : Base) (before after : TokenValue) (job : Job) (outcome : JobOutcome) → HasNoRoom base before job outcome after → DecidesJob base job (seen_by before) (seen_by after) outcome
job_lacks base before after job (job_outcomes.Full full) none = inl none.0
job_lacks base before after job job_outcomes.Shaped none = absurd none
job_lacks base before after job (job_outcomes.Overtaken shape) none = absurd none
job_lacks base before after job job_outcomes.Refused none = absurd none
job_lacks base before after job job_outcomes.InDoubt none = absurd none
job_lacks base before after job (job_outcomes.Strayed numbers) none = absurd none

-- a job by what its outcome tells
pub job_decided : (schema : Schema) (base : Base) (before after : TokenValue) (job : Job) (outcome : JobOutcome) (own front : FrontValue) → own ≡ seen_by before → front ≡ seen_by after
    → TellsJob schema base before job outcome after → is_fault (charge_by_job outcome) ≡ false → DecidesJob base job own front outcome
job_decided schema base before after job outcome own front began is tells free =
    subst (λ (f : FrontValue). DecidesJob base job own f outcome) (sym is)
    (subst (λ (o : FrontValue). DecidesJob base job o (seen_by after) outcome) (sym began)
    (⊎_elim (λ ends. job_ends schema base before after job outcome ends.1 free) (λ none. job_lacks base before after job outcome none) tells))
