-- Flags of rows that follow one another.
use Rattle.std.specs.Prelude.{◌≡◌, ◌+◌, ◌<◌, ℕ, List, [], Bool, true, Some, ◌==◌, length, slice_get, slice_index_or}
use Rattle.std.specs.List.{list_all, list_any}
use Rattle.doc_types.specs.declared.documents.DocRow.{DocRow}
use Rattle.query_tree.specs.declared.key.Key.{Key}
use Rattle.query_tree.specs.declared.query.Item.{Item}
use Rattle.query_tree.specs.declared.query.Node.{Node}
use Rattle.word_rows.specs.Keywords.{has_field, key_places}
use Rattle.op_eval.specs.Finding.{is_some, node_finds}
use Rattle.op_eval.specs.steps.Verdicts.{item_passes}
use Rattle.op_eval.specs.steps.Wanted.{is_wanted}

-- There is a flag for each of the rows from one on, as many as there are flags: it tells whether the row passes.
abbrev pub AreFlags : (DocRow → Bool) → List DocRow → ℕ → List Bool → Type 0
AreFlags passes rows from flags =
    (i : ℕ) (row : DocRow) (d : Bool) → i < length flags → slice_get rows (from + i) ≡ Some row → slice_index_or flags i d ≡ passes row

-- The flag of a row tells whether the tree matches it and it isn't dead.
abbrev pub AreLivingFlags : Node → List ℕ → List DocRow → ℕ → List Bool → Type 0
AreLivingFlags root dead rows from flags =
    (i : ℕ) (row : DocRow) (d : Bool) → i < length flags → slice_get rows (from + i) ≡ Some row → slice_index_or flags i d ≡ is_wanted root dead (from + i, row)

-- the keyword has a place in the row
abbrev pub has_place : Key → DocRow → Bool
has_place key row = is_some (key_places row key)

-- the keyword may stand in each of so many fields
abbrev pub IsFree : Key → ℕ → Type 0
IsFree key fields = (field : ℕ) → field < fields → has_field key.limit.fields field ≡ true

-- the node matches
abbrev pub node_matches : (List ℕ → ℕ) → Node → DocRow → Bool
node_matches number node row = (node_finds row number node []).matches

-- each item of an AND passes
abbrev pub all_pass : (List ℕ → ℕ) → List Item → DocRow → Bool
all_pass number items row = list_all (item_passes row number []) items

-- the row of this number is one of these
abbrev pub is_dead : List ℕ → ℕ → Bool
is_dead dead row = list_any (λ d. d == row) dead

-- the row of this number is among these
abbrev pub is_one_of : List ℕ → ℕ → Bool
is_one_of rows row = list_any (λ other. other == row) rows
