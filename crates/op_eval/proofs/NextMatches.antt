-- The next row that may match a query: what a search that goes from row to row leaves behind, and that a tree finds what its query does.
use Rattle.std.proofs.Common.{◌≡◌, ℕ, ◌+◌, ◌<◌, ◌≤◌, false, true, cond, List, [], ◌∷◌, ◌++◌, length, get_or, Option, Some, None, Bor, refl, sym, ap, ◌∙◌, subst, arith, ◌^◌}
use Rattle.std.specs.Prelude.{slice_get, ◌&&◌, ◌==◌, not, AllPairs}
use Rattle.std.specs.List.{list_any}
use Rattle.std.proofs.Math.Bool.{and-true}
use Rattle.std.proofs.lemmas.Bool.{and_left, and_right}
use Rattle.std.proofs.lemmas.Option.{get_or_from_slice_get, slice_get-get_or, slice_get_within}
use Rattle.doc_types.specs.declared.cursor.Cursor.{Cursor}
use Rattle.doc_types.specs.declared.documents.DocRow.{DocRow}
use Rattle.doc_types.specs.Chunks.{CursorPlace}
use Rattle.query_tree.specs.declared.query.Node.{Node}
use Rattle.query_tree.specs.declared.query.Query.{Query}
use Rattle.op_eval.specs.declared.search.Search.{Search}
use Rattle.query_tree.specs.TreeKeys.{query_keys}
use Rattle.op_eval.specs.Matching.{matches, query_finds}
use Rattle.op_eval.specs.Streams.{Stream, ahead}
use Rattle.op_eval.specs.steps.Searching.{IsSearch, node_found}
use Rattle.op_eval.specs.steps.Streaming.{IsFirstOpen, IsOpen, IsStream, LooksFrom, StandsAt, is_matching}
use Rattle.op_eval.specs.steps.Wanted.{is_wanted, lives, numbers_from}
use Rattle.row_plans.specs.Living.{HasGone}
use Rattle.row_plans.proofs.LivingRows.{gone_later}
use Rattle.op_eval.proofs.RowsAhead.{row_ahead}
use Rattle.op_eval.proofs.Searches.{own_search, search_from, search_of}

-- the search at a later row, under another name of its tree
pub search_at : (belongs : Cursor → Type 0) (place : Cursor → CursorPlace) (rows : List DocRow) (from row : ℕ) (other root : Node) (search : Search) → from ≤ row → other ≡ root → IsSearch belongs place rows from other search → IsSearch belongs place rows row root search
search_at belongs place rows from row other root search up same at =
    subst (λ tree. IsSearch belongs place rows row tree search) same (search_from belongs place rows from row other search up at)

-- ---- rows that are left behind
module _ (root : Node) (dead : List ℕ) where
  -- a row that is left, if it isn't wanted
  not_this : (rows : List DocRow) (row : ℕ) → row < length rows → ((its : DocRow) → slice_get rows row ≡ Some its → is_wanted root dead (row, its) ≡ false) → numbers_from (is_wanted root dead) row rows ≡ numbers_from (is_wanted root dead) (row + 1) rows
  not_this [] row within is = absurd (omega arith)
  not_this (r ∷ rows) row within is = row_ahead (is_wanted root dead) (r ∷ rows) row r false within (is (get_or (r ∷ rows) row r) (slice_get-get_or (r ∷ rows) row r within))

module _ (belongs : Cursor → Type 0) (place : Cursor → CursorPlace) (rows : List DocRow) (root : Node) (dead : List ℕ) (gone start from : ℕ) (before : Search) (looks : LooksFrom belongs place rows root dead gone start from before) where
  -- the next row that isn't dead and has words that the plan wants, as the tree has it
  of_tree : (row : ℕ) → IsOpen (is_wanted before.root.now dead) dead rows from row → IsOpen (is_wanted root dead) dead rows from row
  of_tree row first = subst (λ tree. IsOpen (is_wanted tree dead) dead rows from row) looks.tree first

  -- it doesn't match
  pub looks_on : (now row : ℕ) (there later : Search) → IsOpen (is_wanted before.root.now dead) dead rows from row → HasGone dead now row → there.root ≡ before.root → later.root ≡ there.root → IsSearch belongs place rows row there.root.now later → ((its : DocRow) → slice_get rows row ≡ Some its → (node_found there.root.now its).matches ≡ false) → LooksFrom belongs place rows root dead now start (row + 1) later
  looks_on now row there later first behind same stays at is =
      let tree : there.root.now ≡ root = ap (λ (tree : Bor Node). tree.now) same ∙ looks.tree in
      record {
        on = omega (arith, looks.on, first.on);
        within = omega (arith, first.within);
        tree = ap (λ (tree : Bor Node). tree.now) stays ∙ tree;
        behind = gone_later dead now row (row + 1) (omega arith) behind;
        at = search_of belongs place rows row (row + 1) there later (omega arith) stays at;
        ahead = looks.ahead ∙ sym (of_tree row first).passed
            ∙ not_this root dead rows row first.within (λ its here. and_left (node_found root its).matches (lives dead row) (ap (λ node. (node_found node its).matches) (sym tree) ∙ is its here));
      }

  -- it may match
  pub is_first : (row : ℕ) → IsOpen (is_wanted before.root.now dead) dead rows from row → IsFirstOpen (is_wanted root dead) dead rows start (Some row)
  is_first row first = record {
    on = omega (arith, looks.on, first.on);
    within = first.within;
    living = first.living;
    passed = (of_tree row first).passed ∙ sym looks.ahead;
  }

  -- no row is left
  pub none_left : IsFirstOpen (is_wanted before.root.now dead) dead rows from None → IsFirstOpen (is_wanted root dead) dead rows start None
  none_left first = looks.ahead ∙ subst (λ tree. numbers_from (is_wanted tree dead) from rows ≡ []) looks.tree first

-- a row that is dead is passed over
pub dead_row : (query : Query) (rows : List DocRow) (dead : List ℕ) (row : ℕ) → row < length rows → list_any (λ d. d == row) dead ≡ true → numbers_from (is_matching query dead) row rows ≡ numbers_from (is_matching query dead) (row + 1) rows
dead_row query [] dead row within gone = absurd (omega arith)
dead_row query (r ∷ rows) dead row within gone =
    row_ahead (is_matching query dead) (r ∷ rows) row r false within (and_right (matches query (get_or (r ∷ rows) row r)) (not (list_any (λ d. d == row) dead)) (ap not gone))

-- ---- a query and its tree
matching_root : (tree : Option Node) (keywords : ℕ) (root : Node) (dead : List ℕ) → tree ≡ Some root → is_wanted root dead ≡ is_matching (record { root = tree; keywords = keywords }) dead
matching_root None keywords root dead is = cc
matching_root (Some node) keywords root dead is = let same : root ≡ node = cc in ap (λ node. is_wanted node dead) same

pub tree_matches : (query : Query) (root : Node) (dead : List ℕ) → query.root ≡ Some root → is_wanted root dead ≡ is_matching query dead
tree_matches query root dead is = matching_root query.root query.keywords root dead is

finds_root : (tree : Option Node) (keywords : ℕ) (root : Node) → tree ≡ Some root → node_found root ≡ query_finds (record { root = tree; keywords = keywords })
finds_root None keywords root is = cc
finds_root (Some node) keywords root is = let same : root ≡ node = cc in ap node_found same

pub tree_finds : (query : Query) (root : Node) → query.root ≡ Some root → node_found root ≡ query_finds query
tree_finds query root is = finds_root query.root query.keywords root is

none_finds_root : (tree : Option Node) (keywords : ℕ) (row : DocRow) → tree ≡ None → query_finds (record { root = tree; keywords = keywords }) row ≡ record { matches = true; occurrences = []; hits = [] }
none_finds_root None keywords row is = refl
none_finds_root (Some node) keywords row is = cc

-- a query without a tree finds nothing, and matches
pub none_finds : (query : Query) (row : DocRow) → query.root ≡ None → query_finds query row ≡ record { matches = true; occurrences = []; hits = [] }
none_finds query row is = none_finds_root query.root query.keywords row is

-- ---- where a stream stands
module _ (belongs : Cursor → Type 0) (place : Cursor → CursorPlace) (rows : List DocRow) (query : Query) where
  -- where there is no search the query has no tree
  pub no_tree : (from : ℕ) (search : Option Search) → search ≡ None → StandsAt belongs place rows from query search → query.root ≡ None
  no_tree from None is stands = stands
  no_tree from (Some its) is stands = cc

  -- where there is one, it is of the query's tree
  pub tree_of : (from : ℕ) (search : Option Search) (old : Search) → search ≡ Some old → StandsAt belongs place rows from query search → query.root ≡ Some old.root.now
  tree_of from None old is stands = cc
  tree_of from (Some its) old is stands = let same : its ≡ old = cc in stands.0 ∙ ap (λ (search : Search). Some search.root.now) same

  -- the query's matches are those of the tree of the search that is there
  pub opens_for : (from : ℕ) (dead : List ℕ) (next : Option ℕ) (search : Option Search) (old : Search) → search ≡ Some old → StandsAt belongs place rows from query search → IsFirstOpen (is_wanted old.root.now dead) dead rows from next → IsFirstOpen (is_matching query dead) dead rows from next
  opens_for from dead next search old is stands first = subst (λ passes. IsFirstOpen passes dead rows from next) (tree_matches query old.root.now dead (tree_of from search old is stands)) first

  -- and it stays of that tree
  pub stands_now : (from to : ℕ) (search : Option Search) (old new : Search) → search ≡ Some old → IsSearch belongs place rows to old.root.now new → StandsAt belongs place rows from query search → StandsAt belongs place rows to query (Some new)
  stands_now from to search old new is at stands = (tree_of from search old is stands ∙ ap Some (sym at.root), own_search belongs place rows to to old.root.now new (omega arith) at)

  -- the search that is there
  pub search_there : (from : ℕ) (search : Option Search) (old : Search) → search ≡ Some old → StandsAt belongs place rows from query search → IsSearch belongs place rows from old.root.now old
  search_there from None old is stands = cc
  search_there from (Some its) old is stands = let same : its ≡ old = cc in subst (λ (search : Search). IsSearch belongs place rows from search.root.now search) same stands.1

  -- what has gone over no row from one on has gone over none from a later one on
  pub stands_later : (from row : ℕ) (search : Option Search) → from ≤ row → StandsAt belongs place rows from query search → StandsAt belongs place rows row query search
  stands_later from row None up stands = stands
  stands_later from row (Some search) up stands = (stands.0, search_from belongs place rows from row search.root.now search up stands.1)

  -- it is behind the row at which it stood
  pub behind : (from : ℕ) (dead : List ℕ) (gone : ℕ) (search : Option Search) → from < length rows → length (query_keys query) < 2 ^ 16 → AllPairs (λ row later. row < later) dead → HasGone dead gone from → StandsAt belongs place rows from query search → IsStream belongs place rows (from + 1) query dead gone search
  behind from dead gone search within few ascend before stands = record {
    within = omega (arith, within);
    few = few;
    ascend = ascend;
    behind = gone_later dead gone from (from + 1) (omega arith) before;
    stands = stands_later from (from + 1) search (omega arith) stands;
  }

-- the row at which a stream stands is ahead of it where it matches
pub ahead_here : (stream : Stream) (doc : DocRow) → slice_get stream.rows stream.at ≡ Some doc → list_any (λ d. d == stream.at) stream.dead ≡ false → ahead stream ≡ cond (matches stream.query doc) (stream.at ∷ []) [] ++ ahead (record stream { at = stream.at + 1 })
ahead_here stream doc there living =
    row_ahead (is_matching stream.query stream.dead) stream.rows stream.at doc (matches stream.query doc) (slice_get_within stream.rows stream.at doc there)
    (ap (λ row. matches stream.query row && not (list_any (λ d. d == stream.at) stream.dead)) (get_or_from_slice_get stream.rows stream.at doc doc there)
    ∙ ap (λ b. matches stream.query doc && not b) living
    ∙ and-true (matches stream.query doc))
