-- How the operations of a transaction are tried one by one.
use Rattle.std.specs.Prelude.{◌≡◌, ℕ, ◌+◌, ◌<◌, List, [], ◌∷◌, ◌++◌, Bool, true, false, ◌==◌, ◌||◌, ◌&&◌, not, Option, Some, None, if◌then◌else◌, Result, Ok, Err, AllPairs, map}
use Rattle.std.specs.BTreeMap.{get}
use Rattle.std.specs.BTreeSet.{contains}
use Rattle.std.specs.List.{fold, find, list_any}
use Rattle.std.specs.Option.{is_some, option_map}
use Rattle.std.specs.Ordering.{nat_cmp}
use Rattle.std.proofs.Common.{Bor}
use Rattle.srch_base.specs.declared.faults.Or.{Or}
use Rattle.srch_base.specs.declared.faults.Or.TheVariants as causes
use Rattle.doc_types.specs.declared.documents.Doc.{Doc}
use Rattle.doc_types.specs.declared.documents.DocRow.{DocRow}
use Rattle.doc_types.specs.declared.transactions.TxnOp.{TxnOp}
use Rattle.doc_types.specs.declared.transactions.TxnOp.TheVariants as operations
use Rattle.doc_types.specs.Commits.{Change, Put, Kill, Clear, Accepted, Duplicate, change_of, there_after, tried, with_change}
use Rattle.doc_types.specs.Snapshots.{LayerValue}
use Rattle.layer_commit.specs.declared.refusal.Refusal.{Refusal}
use Rattle.layer_commit.specs.declared.refusal.Refusal.TheVariants as refusals
use Rattle.layer_commit.specs.declared.trial.Outcome.{Outcome}
use Rattle.layer_commit.specs.declared.trial.Trial.{Trial}
use Rattle.layer_commit.specs.Commits.{named, row_at}
use Rattle.layer_commit.specs.steps.Finding.{lives}

-- what a change makes of the row of an id, if it is there
abbrev pub row_then : ℕ → ℕ → Option DocRow → Change → Option DocRow
row_then number id found (Put doc) = if doc.id == id then Some (row_at number doc) else found
row_then number id found (Kill killed) = if killed == id then None else found
row_then number id found Clear = None

-- what changes make of it
abbrev pub row_after : ℕ → ℕ → Option DocRow → List Change → Option DocRow
row_after number id found changes = fold (row_then number id) found changes

-- the id was named by an operation that was tried
abbrev pub was_named : Trial → ℕ → Bool
was_named trial id = trial.cleared || contains nat_cmp trial.ids id

-- the id is there after the operations that were tried, over layers
abbrev pub is_there : List LayerValue → Trial → ℕ → Bool
is_there layers trial id = is_some (get nat_cmp trial.docs id) || (not (was_named trial id) && lives layers id)

-- What is known of operations that were tried, as changes: the ids that they name, and the documents that they put.
pub record HasTried (changes : List Change) (trial : Trial) : Type 0 where
  pub ids : (id : ℕ) → was_named trial id ≡ named changes id
  pub docs : (number id : ℕ) → option_map (λ doc. row_at number doc.now) (get nat_cmp trial.docs id) ≡ row_after number id None changes
  pub own : (id : ℕ) (doc : Bor Doc) → get nat_cmp trial.docs id ≡ Some doc → doc.now.id ≡ id

-- a document was put
pub record Puts (doc : Bor Doc) (old new : Trial) : Type 0 where
  pub cleared : new.cleared ≡ old.cleared
  pub ids : (id : ℕ) → contains nat_cmp new.ids id ≡ ((doc.now.id == id) || contains nat_cmp old.ids id)
  pub docs : (id : ℕ) → get nat_cmp new.docs id ≡ (if doc.now.id == id then Some doc else get nat_cmp old.docs id)
  pub removed : new.removed ≡ old.removed

-- an id was killed
pub record Kills (killed : ℕ) (old new : Trial) : Type 0 where
  pub cleared : new.cleared ≡ old.cleared
  pub ids : (id : ℕ) → contains nat_cmp new.ids id ≡ ((killed == id) || contains nat_cmp old.ids id)
  pub docs : (id : ℕ) → get nat_cmp new.docs id ≡ (if killed == id then None else get nat_cmp old.docs id)
  pub removed : new.removed ≡ old.removed

-- all was cleared
pub record Clears (old new : Trial) : Type 0 where
  pub cleared : new.cleared ≡ true
  pub ids : (id : ℕ) → contains nat_cmp new.ids id ≡ false
  pub docs : (id : ℕ) → get nat_cmp new.docs id ≡ None
  pub removed : new.removed ≡ old.removed

-- one more kill found its id
abbrev pub removes : (ℕ → Bool) → TxnOp → ℕ
removes there (operations.Kill id) = if there id then 1 else 0
removes there (operations.Insert doc) = 0
removes there (operations.Put doc) = 0
removes there operations.Clear = 0

-- the operation is an insertion of an id that is there
abbrev pub is_refused : (ℕ → Bool) → TxnOp → Bool
is_refused there (operations.Insert doc) = there doc.id
is_refused there (operations.Put doc) = false
is_refused there (operations.Kill id) = false
is_refused there operations.Clear = false

-- What is known where an operation was tried and not refused: what becomes of it and of any that follow, and what is there then.
pub record GoesOn (layers : List LayerValue) (op : TxnOp) (old new : Trial) : Type 0 where
  pub accepted : (rest : List TxnOp) → tried (is_there layers old) (op ∷ rest) ≡ with_change (change_of op) (removes (is_there layers old) op) (tried (there_after (is_there layers old) op) rest)
  pub there : (id : ℕ) → is_there layers new id ≡ there_after (is_there layers old) op id
  pub more : (changes : List Change) → HasTried changes old → HasTried (changes ++ change_of op ∷ []) new
  pub removed : new.removed ≡ old.removed + removes (is_there layers old) op

-- what becomes of an operation that is tried
abbrev pub TriesOp : List LayerValue → TxnOp → Trial → Result (Unit {0}) (Or Refusal) → Trial → Type 0
TriesOp layers op old (Ok done) new = GoesOn layers op old new
TriesOp layers op old (Err (causes.Fault (refusals.Duplicate id))) new = (rest : List TxnOp) → tried (is_there layers old) (op ∷ rest) ≡ Duplicate id
TriesOp layers op old (Err (causes.Fault (refusals.Full full))) new = ⊥
TriesOp layers op old (Err causes.NoMemory) new = Unit {0}

-- What a transaction comes to over layers: it is accepted, names these ids and puts these documents.
pub record ComesTo (layers : List LayerValue) (ops : List TxnOp) (outcome : Outcome) : Type 0 where
  pub verdict : tried (lives layers) ops ≡ Accepted (map change_of ops) outcome.removed
  pub ascend : AllPairs (λ id later. id < later) outcome.ids.items
  pub ids : (id : ℕ) → (outcome.cleared || list_any (λ n. n == id) outcome.ids.items) ≡ named (map change_of ops) id
  pub docs_ascend : AllPairs (λ doc later. doc.now.id < later.now.id) outcome.docs.items
  pub docs : (number id : ℕ) → find (λ row. row.doc.id == id) (map (λ doc. row_at number doc.now) outcome.docs.items) ≡ row_after number id None (map change_of ops)

-- what becomes of a transaction that is tried
abbrev pub Tries : List LayerValue → List TxnOp → Result Outcome (Or Refusal) → Type 0
Tries layers ops (Ok outcome) = ComesTo layers ops outcome
Tries layers ops (Err (causes.Fault (refusals.Duplicate id))) = tried (lives layers) ops ≡ Duplicate id
Tries layers ops (Err (causes.Fault (refusals.Full full))) = ⊥
Tries layers ops (Err causes.NoMemory) = Unit {0}
