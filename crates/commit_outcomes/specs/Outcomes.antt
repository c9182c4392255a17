-- Commits and their outcomes: what each says of the documents before, and what it leaves.
use Rattle.std.specs.Prelude.{◌≡◌, ◌≤◌, ◌<◌, ℕ, ◌+◌, ◌-◌, List, [], Bool, true, false, IsTrue, All, Result, Ok, Err}
use Rattle.std.specs.List.{fold}
use Rattle.std.specs.FinMap as finite
use Rattle.doc_types.specs.declared.transactions.TxnOp.{TxnOp}
use Rattle.doc_types.specs.declared.transactions.TxnOp.TheVariants as operations
use Rattle.doc_types.specs.Commits.{Change, after_change, verdict}
use Rattle.doc_types.specs.Commits as verdicts
use Rattle.doc_types.specs.Rows.{Rows}
use Rattle.doc_types.specs.Snapshots.{AreLayers, SnapshotValue, live}
use Rattle.commit_outcomes.specs.declared.outcome.Full.{Full}
use Rattle.commit_outcomes.specs.declared.outcome.FullKind.TheVariants.{Documents}
use Rattle.commit_outcomes.specs.declared.outcome.CommitOutcome.{CommitOutcome}
use Rattle.commit_outcomes.specs.declared.outcome.CommitOutcome.TheVariants as outcomes
use Rattle.commit_outcomes.specs.declared.outcome.TheConstants.{MAX_DOCUMENTS}

-- before the first commit
abbrev pub empty_snapshot : SnapshotValue
empty_snapshot = record { number = 0; shape = 0; layers = [] }

-- the operation is an insertion
abbrev pub is_insertion : TxnOp → Bool
is_insertion (operations.Insert doc) = true
is_insertion (operations.Put doc) = false
is_insertion (operations.Kill id) = false
is_insertion operations.Clear = false

-- insertions alone
abbrev pub AreInsertions : List TxnOp → Type 0
AreInsertions ops = All (λ op. IsTrue (is_insertion op)) ops

-- the documents after these changes, by the commit that comes next
abbrev pub changed : SnapshotValue → List Change → Rows
changed old changes = fold (after_change (old.number + 1)) (live old) changes

-- The operations were accepted, and are the next commit: its changes make the documents that there are now of those that
-- there were. The layers are such as a snapshot has, and the shape stays, since layers in memory alone may have been joined.
pub record Accepts (ops : List TxnOp) (old : SnapshotValue) (removed : ℕ) (new : SnapshotValue) : Type 0 where
  pub changes : List Change
  pub verdict : verdict ops (live old) ≡ verdicts.Accepted changes removed
  pub number : new.number ≡ old.number + 1
  pub rows : live new ≡ changed old changes
  pub few : finite.len (live new) ≤ MAX_DOCUMENTS
  pub shape : new.shape ≡ old.shape
  pub layers : AreLayers new.layers

-- The operations would be accepted, and there would be more documents than the limit.
pub record IsFull (limit : ℕ) (ops : List TxnOp) (old : SnapshotValue) (full : Full) : Type 0 where
  pub changes : List Change
  pub removed : ℕ
  pub verdict : verdict ops (live old) ≡ verdicts.Accepted changes removed
  pub above : limit < finite.len (changed old changes)
  pub says : full ≡ record { what = Documents; at = finite.len (live old); need = finite.len (changed old changes) - finite.len (live old) }

-- What a commit of these operations leaves of documents in memory, by its outcome. A disk may fail or a worker stray where a store
-- has a disk: documents in memory never have the outcomes of these.
abbrev pub Leaves : List TxnOp → SnapshotValue → CommitOutcome → SnapshotValue → Type 0
Leaves ops old (outcomes.Committed removed) new = Accepts ops old removed new
Leaves ops old (outcomes.Duplicate id) new = (verdict ops (live old) ≡ verdicts.Duplicate id) × (new ≡ old)
Leaves ops old (outcomes.Full full) new = IsFull MAX_DOCUMENTS ops old full × (new ≡ old)
Leaves ops old outcomes.Refused new = ⊥
Leaves ops old (outcomes.InDoubt doubt) new = ⊥
Leaves ops old (outcomes.Strayed numbers) new = ⊥

-- What a store in memory answers to a commit, and what it leaves: after want of memory all is as before.
abbrev pub Commits : {E : Type 0} → List TxnOp → SnapshotValue → Result CommitOutcome E → SnapshotValue → Type 0
Commits ops old (Ok outcome) new = Leaves ops old outcome new
Commits ops old (Err e) new = new ≡ old

-- The same documents by the same commits, however layers hold them.
pub record SameRows (a b : SnapshotValue) : Type 0 where
  pub number : a.number ≡ b.number
  pub rows : live a ≡ live b
