-- Commits: what an entry of an index's history makes of its rows, and what becomes of a transaction.
use Rattle.std.specs.Prelude.{ℕ, ◌+◌, List, [], ◌∷◌, Bool, false, ◌==◌, ◌||◌, ◌&&◌, not, if◌then◌else◌}
use Rattle.std.specs.List.{fold}
use Rattle.std.specs.FinMap as finite
use Rattle.doc_types.specs.declared.documents.Doc.{Doc}
use Rattle.doc_types.specs.declared.transactions.TxnOp.{TxnOp}
use Rattle.doc_types.specs.declared.transactions.TxnOp.TheVariants as operations
use Rattle.doc_types.specs.Rows.{Rows}

-- What a commit did to one id, or to all: an accepted insertion is a put.
pub data Change : Type 0 where
  Put : Doc → Change
  Kill : ℕ → Change
  Clear : Change

-- A commit as the history of an index holds it.
pub record Entry : Type 0 where
  -- the worker that committed, and which of its commits it is, from 1
  pub worker : ℕ
  pub seq : ℕ
  -- the number of the commit among all of the index
  pub number : ℕ
  pub changes : List Change

-- the rows after a change by the commit of this number
abbrev pub after_change : ℕ → Rows → Change → Rows
after_change number rows (Put doc) = finite.insert rows doc.id (record { doc = doc; born = number })
after_change number rows (Kill id) = finite.remove rows id
after_change number rows Clear = finite.empty

-- the rows after a commit
abbrev pub after_entry : Rows → Entry → Rows
after_entry rows entry = fold (after_change entry.number) rows entry.changes

-- the rows after these commits, in their order
abbrev pub after : Rows → List Entry → Rows
after rows entries = fold after_entry rows entries

-- the change that an operation is
abbrev pub change_of : TxnOp → Change
change_of (operations.Insert doc) = Put doc
change_of (operations.Put doc) = Put doc
change_of (operations.Kill id) = Kill id
change_of operations.Clear = Clear

-- What becomes of a transaction: an insertion's id is there, or its changes are made, and so many killed ids were there.
pub data Verdict : Type 0 where
  Duplicate : ℕ → Verdict
  Accepted : List Change → ℕ → Verdict

-- which ids are there after an operation, where these were there before it
abbrev pub there_after : (ℕ → Bool) → TxnOp → ℕ → Bool
there_after there (operations.Insert doc) id = (id == doc.id) || there id
there_after there (operations.Put doc) id = (id == doc.id) || there id
there_after there (operations.Kill killed) id = not (id == killed) && there id
there_after there operations.Clear id = false

-- one more change at the front
abbrev pub with_change : Change → ℕ → Verdict → Verdict
with_change change removed (Duplicate id) = Duplicate id
with_change change removed (Accepted changes more) = Accepted (change ∷ changes) (removed + more)

-- the operations tried in order, where these ids are there: the first insertion of an id that is there refuses them all
abbrev pub tried : (ℕ → Bool) → List TxnOp → Verdict
tried there [] = Accepted [] 0
tried there (operations.Insert doc ∷ ops) =
    if there doc.id then Duplicate doc.id else with_change (Put doc) 0 (tried (there_after there (operations.Insert doc)) ops)
tried there (operations.Put doc ∷ ops) = with_change (Put doc) 0 (tried (there_after there (operations.Put doc)) ops)
tried there (operations.Kill id ∷ ops) = with_change (Kill id) (if there id then 1 else 0) (tried (there_after there (operations.Kill id)) ops)
tried there (operations.Clear ∷ ops) = with_change Clear 0 (tried (there_after there operations.Clear) ops)

-- what becomes of these operations over the rows
abbrev pub verdict : List TxnOp → Rows → Verdict
verdict ops rows = tried (λ id. finite.contains_key rows id) ops
