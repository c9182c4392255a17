-- Commits: what a transaction makes of the layers of a snapshot, and what is answered to it.
use Rattle.std.specs.Prelude.{◌≡◌, ℕ, ◌+◌, ◌<◌, ◌≤◌, List, [], ◌∷◌, ◌++◌, Bool, true, false, ◌==◌, ◌||◌, if◌then◌else◌, nat_lt, Result, Ok, Err, AllPairs, length, map}
use Rattle.std.specs.List.{filter, fold, list_any, enumerate_from}
use Rattle.std.specs.FinMap as finite
use Rattle.srch_base.specs.declared.faults.Or.{Or}
use Rattle.srch_base.specs.declared.faults.Or.TheVariants as causes
use Rattle.doc_types.specs.declared.documents.Doc.{Doc}
use Rattle.doc_types.specs.declared.documents.DocRow.{DocRow}
use Rattle.doc_types.specs.declared.transactions.TxnOp.{TxnOp}
use Rattle.doc_types.specs.Commits as commits
use Rattle.doc_types.specs.Commits.{Change, Put, Kill, Clear, after_change, verdict}
use Rattle.doc_types.specs.Rows.{rows_of}
use Rattle.doc_types.specs.Snapshots.{LayerValue, SnapshotValue, is_dead, live, living}
use Rattle.commit_outcomes.specs.Outcomes.{IsFull, changed}
use Rattle.layer_commit.specs.declared.refusal.Refusal.{Refusal}
use Rattle.layer_commit.specs.declared.refusal.Refusal.TheVariants as refusals

-- the row that a commit of this number puts for a document
abbrev pub row_at : ℕ → Doc → DocRow
row_at number doc = record { doc = doc; born = number }

-- the change is about the id: it puts or kills the id, or clears all
abbrev pub names : Change → ℕ → Bool
names (Put doc) id = doc.id == id
names (Kill killed) id = killed == id
names Clear id = true

-- one of the changes is
abbrev pub named : List Change → ℕ → Bool
named changes id = list_any (λ change. names change id) changes

-- the rows of a layer that are dead after the changes, ascending: those that were, and those whose ids they name
abbrev pub dead_after : List Change → LayerValue → List ℕ
dead_after changes layer = map (λ e. e.0) (filter (λ e. is_dead layer e.0 || named changes e.1.doc.id) (enumerate_from 0 layer.rows))

-- the layer after them
abbrev pub layer_after : List Change → LayerValue → LayerValue
layer_after changes layer = record layer { dead = dead_after changes layer }

-- a layer is kept where it is an image of a file, or where a row of it lives
abbrev pub is_kept : LayerValue → Bool
is_kept layer = layer.disk || nat_lt 0 (length (living layer))

-- one layer in memory for some rows, and none for no row
abbrev pub layers_of : List DocRow → List LayerValue
layers_of [] = []
layers_of (row ∷ rows) = record { rows = row ∷ rows; disk = false; dead = [] } ∷ []

-- the layers after the changes, of which these rows were put
abbrev pub layers_after : List Change → List DocRow → List LayerValue → List LayerValue
layers_after changes put layers = filter is_kept (map (layer_after changes) layers) ++ layers_of put

-- the changes that remove all rows, or those of these ids
abbrev pub removals : Bool → List ℕ → List Change
removals cleared ids = if cleared then Clear ∷ [] else map Kill ids

-- The rows that the changes of a commit put: as a map they are what the changes make of no rows.
pub record ArePut (number : ℕ) (changes : List Change) (rows : List DocRow) : Type 0 where
  pub ascend : AllPairs (λ row later. row.doc.id < later.doc.id) rows
  pub are : rows_of rows ≡ fold (after_change number) finite.empty changes

-- These operations were committed: they were accepted, their changes make the rows that there are now of those that there were,
-- no more than the limit, and the layers are as said above.
pub record Applies (limit : ℕ) (ops : List TxnOp) (old : SnapshotValue) (removed : ℕ) (new : SnapshotValue) : Type 0 where
  pub changes : List Change
  pub verdict : verdict ops (live old) ≡ commits.Accepted changes removed
  pub number : new.number ≡ old.number + 1
  pub shape : new.shape ≡ old.shape
  pub rows : live new ≡ changed old changes
  pub few : finite.len (live new) ≤ limit
  pub put : List DocRow
  pub are_put : ArePut new.number changes put
  pub layers : new.layers ≡ layers_after changes put old.layers

-- what is answered to these operations over a snapshot: the snapshot after them and how many ids they removed, or why not
abbrev pub Commits : ℕ → List TxnOp → SnapshotValue → Result (SnapshotValue × ℕ) (Or Refusal) → Type 0
Commits limit ops old (Ok next) = Applies limit ops old next.1 next.0
Commits limit ops old (Err (causes.Fault (refusals.Duplicate id))) = verdict ops (live old) ≡ commits.Duplicate id
Commits limit ops old (Err (causes.Fault (refusals.Full full))) = IsFull limit ops old full
Commits limit ops old (Err causes.NoMemory) = Unit {0}
