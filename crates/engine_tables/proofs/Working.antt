-- What a job by a worker's tokens is to its store.
use Rattle.std.proofs.Common.{◌≡◌, ℕ, List, refl, subst}
use Rattle.doc_types.specs.declared.schema.Schema.{Schema}
use Rattle.index_conf.specs.declared.conf.IndexConf.{IndexConf}
use Rattle.ql_answers.specs.declared.job_outcome.JobOutcome.{JobOutcome}
use Rattle.ql_session.specs.Events.{Follows, Reshape}
use Rattle.step_book.specs.Fronts.{FrontValue}
use Rattle.step_history.specs.History.{Base}
use Rattle.step_history.specs.declared.job.Job.{Job}
use Rattle.engine_tables.specs.Tokens.{TokensValue}
use Rattle.engine_tables.specs.Workers.{GrowAll, HasSeen, ReshapesBy, WorkerValue, by_tokens}

-- a worker of these indexes with these tokens
abbrev worker_with : List IndexConf → TokensValue → WorkerValue
worker_with confs tokens = record { confs = confs; tokens = tokens }

pub worked_store : (schema : ℕ → Schema) (base : ℕ → Base) (confs : List IndexConf) (tokens : TokensValue) (old : WorkerValue) (place : ℕ) (job : Job) (outcome : JobOutcome) (mid : TokensValue) (own front : FrontValue) (new : TokensValue) → worker_with confs tokens ≡ old
    → GrowAll tokens mid → HasSeen schema base mid place own → ReshapesBy schema base mid place job outcome own front new
    → Follows (λ tables. tables.confs) (by_tokens schema base) old (Reshape place job outcome own front) (worker_with confs new)
worked_store schema base confs tokens old place job outcome mid own front new is grows has by =
    subst (λ (o : WorkerValue). Follows (λ (tables : WorkerValue). tables.confs) (by_tokens schema base) o (Reshape place job outcome own front) (worker_with confs new)) is
    (worker_with confs mid, (refl, grows), has, (refl, by))
