-- What was read of records of a log, over the rows before them.
use Rattle.std.specs.Prelude.{◌≡◌, ℕ, ◌<◌, List, Bool, true, ◌||◌, Option, None, if◌then◌else◌, IfSome}
use Rattle.std.specs.BTreeMap.{BTreeMap, get}
use Rattle.std.specs.BTreeSet.{contains}
use Rattle.std.specs.Option.{is_some, option_or}
use Rattle.std.specs.Ordering.{nat_cmp}
use Rattle.doc_types.specs.declared.documents.DocRow.{DocRow}
use Rattle.doc_types.specs.declared.schema.Schema.{Schema}
use Rattle.doc_types.specs.Commits.{Change}
use Rattle.doc_types.specs.Documents.{IsDocOf}
use Rattle.layer_commit.specs.Commits.{named}
use Rattle.layer_commit.specs.steps.Trying.{row_after}
use Rattle.store_reads.specs.declared.recent.Recent.{Recent}

-- A row of this id that the chunks don't have.
pub record IsRowAt (schema : Schema) (through id : ℕ) (row : DocRow) : Type 0 where
  pub id_is : row.doc.id ≡ id
  pub newer : through < row.born
  pub of : IsDocOf schema row.doc

abbrev pub AreRowsAt : Schema → ℕ → BTreeMap ℕ DocRow → Type 0
AreRowsAt schema through rows = (id : ℕ) → IfSome (get nat_cmp rows id) (IsRowAt schema through id)

-- the row that the layers have of this id is gone
abbrev pub is_gone : Recent → ℕ → Bool
is_gone recent id = recent.cleared || contains nat_cmp recent.named id

-- the row of this id, over one that was there before: the one that was put, or else the old one where it isn't gone
abbrev pub row_from : Recent → Option DocRow → ℕ → Option DocRow
row_from recent before id = option_or (get nat_cmp recent.rows id) (if is_gone recent id then None else before)

-- the rows that were put were named
abbrev pub Owns : Recent → Type 0
Owns recent = (id : ℕ) → is_some (get nat_cmp recent.rows id) ≡ true → is_gone recent id ≡ true

-- Changes of the commit of this number were made.
pub record Changes (number : ℕ) (changes : List Change) (old new : Recent) : Type 0 where
  pub rows : (id : ℕ) → get nat_cmp new.rows id ≡ row_after number id (get nat_cmp old.rows id) changes
  pub gone : (id : ℕ) → is_gone new id ≡ (is_gone old id || named changes id)
