-- What is replied to a commit or a job that the history of its index decided.
use Rattle.std.proofs.Common.{◌≡◌, ⊎_elim, ℕ, List, inl, inr, refl, length}
use Rattle.commit_outcomes.specs.declared.outcome.CommitOutcome.{CommitOutcome}
use Rattle.commit_outcomes.specs.declared.outcome.CommitOutcome.TheVariants as outcomes
use Rattle.commit_outcomes.specs.declared.outcome.Doubt.TheVariants as doubts
use Rattle.doc_types.specs.Snapshots.{SnapshotValue}
use Rattle.doc_types.specs.declared.transactions.TxnOp.{TxnOp}
use Rattle.index_conf.specs.declared.conf.IndexConf.{IndexConf}
use Rattle.ql_answers.specs.Replies.{Reply}
use Rattle.ql_answers.specs.Sessions.{Committing, Decides, Reshaping, reply_to_commit, reply_to_job}
use Rattle.ql_answers.specs.Transactions.{affected}
use Rattle.ql_answers.specs.declared.plan.Counted.{Counted}
use Rattle.ql_answers.specs.declared.plan.Counted.TheVariants as counting
use Rattle.ql_answers.specs.declared.plan.Plan.{Plan}
use Rattle.ql_answers.specs.declared.plan.Plan.TheVariants as plans
use Rattle.ql_answers.specs.declared.state.State.{State}
use Rattle.ql_session.specs.Events.{Commit, Configured, Event, NoMemory, Nothing, Read, Reshape}
use Rattle.ql_session.specs.JobOutcome.{JobOutcome}
use Rattle.ql_session.specs.JobOutcome.TheVariants as job_outcomes
use Rattle.ql_session.specs.Statements.{Replies}
use Rattle.ql_tree.specs.declared.statement.Statement.{Statement}
use Rattle.step_book.specs.Fronts.{FrontValue}
use Rattle.step_history.specs.History.{Base}
use Rattle.step_history.specs.declared.job.Job.{Job}
use Rattle.run_laws.specs.Decided.{IsAnswered, IsDecided}

-- what is replied to a commit by its outcome
commit_reply : (base : ℕ → Base) (worker index place : ℕ) (ops : List TxnOp) (outcome : CommitOutcome) (front : FrontValue) (counted : Counted) (rows : ℕ) (reply : Reply) → reply ≡ reply_to_commit counted rows outcome
    → IsDecided base worker index (Commit place ops outcome front) → IsAnswered base worker index (Commit place ops outcome front) reply
commit_reply base worker index place ops (outcomes.Committed removed) front counted rows reply is decided = λ here. inl ((affected counted rows removed, is), (removed, decided here))
commit_reply base worker index place ops (outcomes.Duplicate id) front counted rows reply is decided = λ here. inr (inr (inl (id, is, decided here)))
commit_reply base worker index place ops (outcomes.Full full) front counted rows reply is decided = λ here. inr (inr (inr (inl (full, is, decided here))))
commit_reply base worker index place ops outcomes.Refused front counted rows reply is decided = λ here. absurd (decided here)
commit_reply base worker index place ops (outcomes.InDoubt doubts.Disk) front counted rows reply is decided = λ here. absurd (decided here)
commit_reply base worker index place ops (outcomes.InDoubt doubts.Memory) front counted rows reply is decided = λ here. inr (inl (rw is refl))
commit_reply base worker index place ops (outcomes.Strayed numbers) front counted rows reply is decided = λ here. inr (inr (inr (inr (numbers, is, decided here))))

-- and to a job
job_reply : (base : ℕ → Base) (worker index place : ℕ) (job : Job) (outcome : JobOutcome) (own front : FrontValue) (reply : Reply) → reply ≡ reply_to_job outcome
    → IsDecided base worker index (Reshape place job outcome own front) → IsAnswered base worker index (Reshape place job outcome own front) reply
job_reply base worker index place job job_outcomes.Shaped own front reply is decided = λ here. inl ((0, is), decided here)
job_reply base worker index place job (job_outcomes.Overtaken shape) own front reply is decided = λ here. inr (inr (inl (shape, is, decided here)))
job_reply base worker index place job (job_outcomes.Full full) own front reply is decided = λ here. inr (inr (inr (inl (full, is, decided here))))
job_reply base worker index place job job_outcomes.Refused own front reply is decided = λ here. absurd (decided here)
job_reply base worker index place job job_outcomes.InDoubt own front reply is decided = λ here. inr (inl (rw is refl))
job_reply base worker index place job (job_outcomes.Strayed numbers) own front reply is decided = λ here. inr (inr (inr (inr (numbers, is, decided here))))

-- what decides the reply to a commit, by its plan
commit_by_plan : (plan : Plan) (outcome : CommitOutcome) (reply : Reply) → Decides plan (Committing outcome) reply → (counted : Counted) × (rows : ℕ) × (reply ≡ reply_to_commit counted rows outcome)
commit_by_plan (plans.Put place txn counted) outcome reply decides = (counted, length txn.ops, decides)
commit_by_plan (plans.Commit place turn) outcome reply decides = (counting.Nothing, 0, decides)
commit_by_plan plan outcome reply decides = absurd decides

job_by_plan : (plan : Plan) (outcome : JobOutcome) (reply : Reply) → Decides plan (Reshaping outcome) reply → reply ≡ reply_to_job outcome
job_by_plan (plans.Reshape place job) outcome reply decides = decides
job_by_plan plan outcome reply decides = absurd decides

module _ (documents : FrontValue → SnapshotValue) (base : ℕ → Base) (worker index : ℕ) (confs : List IndexConf) (old new : State) (statement : Statement) (reply : Reply) where
  pub answered : (event : Event FrontValue) → IsDecided base worker index event → Replies documents confs old statement event reply new → IsAnswered base worker index event reply
  answered (Configured confs') decided replies = tt
  answered Nothing decided replies = tt
  answered NoMemory decided replies = tt
  answered (Read place front) decided replies = tt
  answered (Commit place ops outcome front) decided replies =
      ⊎_elim (λ refused. absurd (cc (refused.2)))
      (⊎_elim
      (λ met. let by = commit_by_plan met.0 outcome reply met.3 in commit_reply base worker index place ops outcome front by.0 by.1 reply by.2 decided)
      (λ without. absurd (cc (without.1)))) replies
  answered (Reshape place job outcome own front) decided replies =
      ⊎_elim (λ refused. absurd (cc (refused.2)))
      (⊎_elim
      (λ met. job_reply base worker index place job outcome own front reply (job_by_plan met.0 outcome reply met.3) decided)
      (λ without. absurd (cc (without.1)))) replies
