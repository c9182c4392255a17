-- a query's tree on its way over the rows of a chunk
use Rattle.std.specs.Prelude.{◌≡◌, ℕ, List, [], Option, Some, None, slice_get, IsTrue, ◌↔◌}
use Rattle.doc_types.specs.declared.cursor.Cursor.{Cursor}
use Rattle.doc_types.specs.declared.documents.DocRow.{DocRow}
use Rattle.doc_types.specs.Chunks.{CursorPlace}
use Rattle.query_tree.specs.declared.query.Node.{Node}
use Rattle.query_tree.specs.TreeKeys.{node_keys}
use Rattle.op_eval.specs.declared.search.Search.{Search}
use Rattle.op_eval.specs.Fields.{IsFieldWord}
use Rattle.op_eval.specs.Finding.{Found, node_finds}
use Rattle.op_eval.specs.steps.Planned.{Serves}
use Rattle.word_rows.specs.RowMarks.{AreMarks, asks_boundaries, asks_spans}
use Rattle.word_rows.specs.Slots.{AreAt, AreSlots, keys_of, number_among}
use Rattle.word_rows.specs.Terms.{AreSeenIn}
use Rattle.word_rows.specs.declared.slots.Slots.{Slots}

-- what the node finds in the row
abbrev pub node_found : Node → DocRow → Found
node_found node row = node_finds row (number_among (node_keys node)) node []

-- where a row is known, each cursor has gone over the rows before it, and the terms know its words
abbrev pub KnowsRow : (Cursor → CursorPlace) → List DocRow → Slots → Option ℕ → Type 0
KnowsRow place rows slots None = Unit {0}
KnowsRow place rows slots (Some row) = AreAt place rows row slots × ((found : DocRow) → slice_get rows row ≡ Some found → AreSeenIn found (keys_of slots) slots.terms.items)

-- The search is one of the node over these rows, and has gone over no row from this one on.
pub record IsSearch (belongs : Cursor → Type 0) (place : Cursor → CursorPlace) (rows : List DocRow) (from : ℕ) (node : Node) (search : Search) : Type 0 where
  pub root : search.root.now ≡ node
  pub keys : keys_of search.slots ≡ node_keys node
  pub slots : AreSlots belongs place rows from search.slots
  pub marks : AreMarks search.marks
  pub boundaries : search.asked.boundaries ≡ asks_boundaries node
  pub spans : search.asked.spans ≡ asks_spans node
  pub none : search.work.spans.items ≡ []
  pub plan : Serves search.plan node
  pub fields : IsTrue search.by_fields ↔ IsFieldWord node
  pub known : KnowsRow place rows search.slots search.known
