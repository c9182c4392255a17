-- a query's tree on its way over the rows of a chunk, from one that may match to the next
use Rattle.std.specs.Prelude.{◌≡◌, ◌<◌, ◌≤◌, ◌^◌, ◌==◌, ◌&&◌, ℕ, List, [], length, Bool, not, Option, Some, None, false, AllPairs}
use Rattle.std.specs.List.{list_any}
use Rattle.doc_types.specs.declared.cursor.Cursor.{Cursor}
use Rattle.doc_types.specs.declared.documents.DocRow.{DocRow}
use Rattle.doc_types.specs.Chunks.{CursorPlace}
use Rattle.query_tree.specs.declared.query.Node.{Node}
use Rattle.query_tree.specs.declared.query.Query.{Query}
use Rattle.query_tree.specs.TreeKeys.{query_keys}
use Rattle.row_plans.specs.Living.{HasGone}
use Rattle.op_eval.specs.declared.search.Search.{Search}
use Rattle.op_eval.specs.Matching.{matches}
use Rattle.op_eval.specs.steps.Searching.{IsSearch}
use Rattle.op_eval.specs.steps.Wanted.{is_wanted, numbers_from}

-- the row matches the query, and is none of the dead ones
abbrev pub is_matching : Query → List ℕ → ℕ × DocRow → Bool
is_matching query dead e = matches query e.1 && not (list_any (λ d. d == e.0) dead)

-- It is a row from this one on that isn't dead, and none before it passes.
pub record IsOpen (passes : ℕ × DocRow → Bool) (dead : List ℕ) (rows : List DocRow) (from row : ℕ) : Type 0 where
  pub on : from ≤ row
  pub within : row < length rows
  pub living : list_any (λ d. d == row) dead ≡ false
  pub passed : numbers_from passes row rows ≡ numbers_from passes from rows

-- it is the first such row that is looked for; where there is none, no row passes
abbrev pub IsFirstOpen : (ℕ × DocRow → Bool) → List ℕ → List DocRow → ℕ → Option ℕ → Type 0
IsFirstOpen passes dead rows from None = numbers_from passes from rows ≡ []
IsFirstOpen passes dead rows from (Some row) = IsOpen passes dead rows from row

-- The search has gone over no row from this one on, and none from the start up to it passes.
pub record LooksFrom (belongs : Cursor → Type 0) (place : Cursor → CursorPlace) (rows : List DocRow) (root : Node) (dead : List ℕ) (gone start from : ℕ) (search : Search) : Type 0 where
  pub on : start ≤ from
  pub within : from ≤ length rows
  pub tree : search.root.now ≡ root
  pub behind : HasGone dead gone from
  pub at : IsSearch belongs place rows from search.root.now search
  pub ahead : numbers_from (is_wanted root dead) start rows ≡ numbers_from (is_wanted root dead) from rows

-- There is a search where the query has a tree: it is of that one, and has gone over no row from this one on.
abbrev pub StandsAt : (Cursor → Type 0) → (Cursor → CursorPlace) → List DocRow → ℕ → Query → Option Search → Type 0
StandsAt belongs place rows from query None = query.root ≡ None
StandsAt belongs place rows from query (Some its) = (query.root ≡ Some its.root.now) × IsSearch belongs place rows from its.root.now its

-- What is so between two rows: so far all rows before this one went by.
pub record IsStream (belongs : Cursor → Type 0) (place : Cursor → CursorPlace) (rows : List DocRow) (from : ℕ) (query : Query) (dead : List ℕ) (gone : ℕ) (search : Option Search) : Type 0 where
  pub within : from ≤ length rows
  pub few : length (query_keys query) < 2 ^ 16
  pub ascend : AllPairs (λ row later. row < later) dead
  pub behind : HasGone dead gone from
  pub stands : StandsAt belongs place rows from query search
