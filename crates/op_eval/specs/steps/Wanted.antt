-- the rows that are wanted: those that match and aren't dead
use Rattle.std.specs.Prelude.{◌≡◌, ◌≤◌, ◌++◌, ℕ, List, map, length, Bool, ◌&&◌, ◌==◌, not, take, drop}
use Rattle.std.specs.List.{filter, list_any, enumerate_from}
use Rattle.doc_types.specs.declared.cursor.Cursor.{Cursor}
use Rattle.doc_types.specs.declared.documents.DocRow.{DocRow}
use Rattle.doc_types.specs.Chunks.{CursorPlace}
use Rattle.query_tree.specs.declared.query.Node.{Node}
use Rattle.row_plans.specs.Living.{HasGone}
use Rattle.op_eval.specs.declared.search.Search.{Search}
use Rattle.op_eval.specs.steps.Searching.{IsSearch, node_found}

-- the numbers of the rows that pass, ascending
abbrev pub numbers_of : {X : Type 0} → (ℕ × X → Bool) → List X → List ℕ
numbers_of passes rows = map (λ e. e.0) (filter passes (enumerate_from 0 rows))

-- the numbers of the rows from this one on that pass, ascending
abbrev pub numbers_from : {X : Type 0} → (ℕ × X → Bool) → ℕ → List X → List ℕ
numbers_from passes n rows = map (λ e. e.0) (filter passes (drop n (enumerate_from 0 rows)))

-- and of those before the row of this number
abbrev pub numbers_before : {X : Type 0} → (ℕ × X → Bool) → ℕ → List X → List ℕ
numbers_before passes n rows = map (λ e. e.0) (filter passes (take n (enumerate_from 0 rows)))

-- the row is none of the dead ones
abbrev pub lives : List ℕ → ℕ → Bool
lives dead row = not (list_any (λ d. d == row) dead)

-- it matches as well
abbrev pub is_wanted : Node → List ℕ → ℕ × DocRow → Bool
is_wanted root dead e = (node_found root e.1).matches && lives dead e.0

-- The wanted rows before this one were found, so many of the dead ones lie before it, and the search has gone over no row from it on.
pub record HasVisited (belongs : Cursor → Type 0) (place : Cursor → CursorPlace) (rows : List DocRow) (root : Node) (dead : List ℕ) (gone from : ℕ) (search : Search) (found : List ℕ) : Type 0 where
  pub within : from ≤ length rows
  pub tree : search.root.now ≡ root
  pub behind : HasGone dead gone from
  pub at : IsSearch belongs place rows from search.root.now search
  pub all : found ++ numbers_from (is_wanted root dead) from rows ≡ numbers_of (is_wanted root dead) rows
