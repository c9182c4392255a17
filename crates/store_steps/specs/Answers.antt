-- Answers: what a commit leaves.
use Rattle.std.specs.Prelude.{◌≡◌, ℕ, List, None}
use Rattle.doc_types.specs.Commits.{Entry, Accepted, verdict}
use Rattle.doc_types.specs.Snapshots.{SnapshotValue, live}
use Rattle.doc_types.specs.declared.transactions.TxnOp.{TxnOp}
use Rattle.step_history.specs.History.{Base, Step, CommitFollows, last_snapshot}
use Rattle.store_steps.specs.Refusals.{full_of}

-- The operations of a worker's transaction are accepted behind these steps: they became this entry, which makes this snapshot, and
-- so many ids that they kill were there. No limit is passed.
pub record Becomes (base : Base) (steps : List Step) (worker : ℕ) (ops : List TxnOp) (entry : Entry) (snapshot : SnapshotValue) (removed : ℕ) : Type 0 where
  pub verdict : verdict ops (live (last_snapshot base steps)) ≡ Accepted entry.changes removed
  pub by : entry.worker ≡ worker
  pub follows : CommitFollows base steps entry snapshot
  pub room : full_of base steps entry.changes ≡ None
