-- Where logs end.
use Rattle.std.proofs.Common.{◌≡◌, ℕ, ◌+◌, List, [], ◌∷◌, ◌++◌, map, refl, ap, ◌∙◌, arith}
use Rattle.std.specs.List.{sum_by}
use Rattle.std.proofs.lemmas.List.Sums.{sum_by-cons}
use Rattle.doc_types.specs.declared.transactions.Txn.{Txn}
use Rattle.doc_types.specs.declared.transactions.TxnOp.{TxnOp}
use Rattle.doc_types.specs.declared.transactions.TxnOp.TheVariants as operations
use Rattle.doc_types.specs.Commits.{Entry, change_of}
use Rattle.doc_types.specs.Payloads.{op_length, payload_length}
use Rattle.doc_types.specs.Snapshots.{SnapshotValue}
use Rattle.step_history.specs.declared.job.Job.{Job}
use Rattle.step_history.specs.History.{Base, Step, Commit, Reshape}
use Rattle.step_history.specs.Logs.{change_length, record_length, log_from, log_at}

logs_then : (place : ℕ) (xs ys : List Step) → log_from place (xs ++ ys) ≡ log_from (log_from place xs) ys
logs_then place [] ys = refl
logs_then place (Commit entry s ∷ xs) ys = logs_then (place + record_length entry) xs ys
logs_then place (Reshape job through s ∷ xs) ys = logs_then 0 xs ys

pub commit : (base : Base) (steps : List Step) (entry : Entry) (snapshot : SnapshotValue) → log_at base (steps ++ Commit entry snapshot ∷ []) ≡ log_at base steps + record_length entry
commit base steps entry snapshot = logs_then base.log steps (Commit entry snapshot ∷ [])

pub reshape : (base : Base) (steps : List Step) (job : Job) (through : ℕ) (snapshot : SnapshotValue) → log_at base (steps ++ Reshape job through snapshot ∷ []) ≡ 0
reshape base steps job through snapshot = logs_then base.log steps (Reshape job through snapshot ∷ [])

one_length : (op : TxnOp) → change_length (change_of op) ≡ op_length op
one_length (operations.Insert doc) = refl
one_length (operations.Put doc) = refl
one_length (operations.Kill id) = refl
one_length operations.Clear = refl

lengths : (ops : List TxnOp) → sum_by change_length (map change_of ops) ≡ sum_by op_length ops
lengths [] = refl
lengths (op ∷ ops) =
    let here = one_length op in
    let rest = lengths ops in
    let left = sum_by-cons change_length (change_of op) (map change_of ops) in
    let right = sum_by-cons op_length op ops in
    omega (arith, here, rest, left, right)

pub payload : (entry : Entry) (txn : Txn) → entry.changes ≡ map change_of txn.ops → record_length entry ≡ 13 + payload_length txn
payload entry txn is =
    let sum : sum_by change_length entry.changes ≡ sum_by op_length txn.ops = ap (sum_by change_length) is ∙ lengths txn.ops in
    omega (arith, sum)
