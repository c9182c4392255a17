-- What a search answers, as what a query finds: the rows that it has visited, and that a tree over rows finds what its query does.
use Rattle.std.proofs.Common.{◌≡◌, ℕ, ◌+◌, ◌<◌, ◌≤◌, ◌^◌, Bool, cond, List, [], ◌∷◌, ◌++◌, length, map, get_or, Option, Some, None, Bor, refl, sym, ap, ◌∙◌, subst, append_assoc, append-nil, arith}
use Rattle.std.specs.Prelude.{slice_get, if◌then◌else◌, not, ◌==◌, ◌&&◌, AllPairs, IsTrue}
use Rattle.std.specs.List.{list_any}
use Rattle.std.specs.Coded.{le_prop}
use Rattle.std.proofs.Math.Bool.{and-true}
use Rattle.std.proofs.Math.Logic.{∥∥₁_elim}
use Rattle.std.proofs.lemmas.List.{length-map}
use Rattle.std.proofs.lemmas.Option.{slice_get-get_or}
use Rattle.doc_types.specs.declared.cursor.Cursor.{Cursor}
use Rattle.doc_types.specs.declared.documents.DocRow.{DocRow}
use Rattle.doc_types.specs.Chunks.{IsContent, CursorPlace, rows_with}
use Rattle.query_tree.specs.declared.key.Key.{Key}
use Rattle.query_tree.specs.declared.query.Node.{Node}
use Rattle.query_tree.specs.declared.query.Query.{Query}
use Rattle.query_tree.specs.TreeKeys.{node_keys, query_keys}
use Rattle.op_eval.specs.declared.search.Search.{Search}
use Rattle.doc_types.specs.declared.hits.Hit.{Hit}
use Rattle.occ_lists.specs.declared.occ.Occ.{Occ}
use Rattle.occ_lists.specs.OccLists.{Ascend, SameMembers}
use Rattle.occ_lists.proofs.Members.{same_trans}
use Rattle.word_rows.specs.Keywords.{present_in}
use Rattle.op_eval.specs.Finding.{Found}
use Rattle.op_eval.specs.Hits.{AreHits, comes_before}
use Rattle.op_eval.specs.Matching.{matching, query_finds}
use Rattle.op_eval.specs.Occurrences.{AreOccurrences}
use Rattle.op_eval.specs.steps.Searching.{IsSearch, node_found}
use Rattle.op_eval.specs.steps.Streaming.{IsFirstOpen, IsOpen}
use Rattle.word_rows.specs.Slots.{words_of}
use Rattle.op_eval.specs.steps.Wanted.{HasVisited, is_wanted, lives, numbers_before, numbers_from, numbers_of}
use Rattle.word_rows.proofs.Passing.{all_weaken}
use Rattle.row_plans.specs.Living.{HasGone}
use Rattle.row_plans.proofs.LivingRows.{gone_later}
use Rattle.op_eval.proofs.RowNumbers.{next_passes}
use Rattle.op_eval.proofs.RowsAhead.{row_ahead}

-- ---- where a search stands
-- the search that has gone over no row from one on has gone over none from a later one on
pub search_from : (belongs : Cursor → Type 0) (place : Cursor → CursorPlace) (rows : List DocRow) (from row : ℕ) (root : Node) (search : Search) → from ≤ row → IsSearch belongs place rows from root search → IsSearch belongs place rows row root search
search_from belongs place rows from row root search up at = record {
  root = at.root;
  keys = at.keys;
  slots = record {
    cursors = all_weaken belongs place rows from row up (words_of search.slots) search.slots.cursors.items at.slots.cursors;
    terms = at.slots.terms;
  };
  marks = at.marks;
  boundaries = at.boundaries;
  spans = at.spans;
  none = at.none;
  plan = at.plan;
  fields = at.fields;
  known = at.known;
}

-- under another name of the tree
pub search_of : (belongs : Cursor → Type 0) (place : Cursor → CursorPlace) (rows : List DocRow) (from row : ℕ) (before there : Search) → from ≤ row → there.root ≡ before.root → IsSearch belongs place rows from before.root.now there → IsSearch belongs place rows row there.root.now there
search_of belongs place rows from row before there up same at =
    subst (λ root. IsSearch belongs place rows row root there) (sym at.root) (search_from belongs place rows from row before.root.now there up at)

-- as its own tree has it
pub own_search : (belongs : Cursor → Type 0) (place : Cursor → CursorPlace) (rows : List DocRow) (from row : ℕ) (root : Node) (search : Search) → from ≤ row → IsSearch belongs place rows from root search → IsSearch belongs place rows row search.root.now search
own_search belongs place rows from row root search up at =
    subst (λ tree. IsSearch belongs place rows row tree search) (sym at.root) (search_from belongs place rows from row root search up at)

-- a chunk's rows have numbers
pub few : (rows : List DocRow) → ∥ IsContent rows ∥₁ → length rows < 2 ^ 32
few rows content = ∥∥₁_elim content (hlevel le_prop) (λ is. is.small.few_rows)

-- a count for each keyword
pub as_many_counts : (rows : List DocRow) (keys given : List (Bor Key)) (counts told : List ℕ) (root : Node) → map (λ (key : Bor Key). key.now) keys ≡ node_keys root → given ≡ keys → counts ≡ map (λ (key : Bor Key). length (rows_with key.now.word rows)) given → told ≡ counts → length told ≡ length (node_keys root)
as_many_counts rows keys given counts told root own same made as_told =
    ap length as_told ∙ ap length made ∙ length-map given (λ (key : Bor Key). length (rows_with key.now.word rows)) ∙ ap length same
    ∙ sym (length-map keys (λ (key : Bor Key). key.now)) ∙ ap length own

-- ---- the rows that are wanted
some_row : (rows : List DocRow) (row : ℕ) → row < length rows → DocRow
some_row [] row within = absurd (omega arith)
some_row (r ∷ rows) row within = r

-- one row more, dead or not
pub next_living : (rows : List DocRow) (dead : List ℕ) (row : ℕ) (gone : Bool) → row < length rows → gone ≡ list_any (λ d. d == row) dead → numbers_before (λ (e : ℕ × DocRow). lives dead e.0) (row + 1) rows ≡ numbers_before (λ (e : ℕ × DocRow). lives dead e.0) row rows ++ cond (not gone) (row ∷ []) []
next_living rows dead row gone within is = next_passes (λ (e : ℕ × DocRow). lives dead e.0) rows row (some_row rows row within) (not gone) within (ap not (sym is))

-- one row more is visited
pub visited_next : (belongs : Cursor → Type 0) (place : Cursor → CursorPlace) (rows : List DocRow) (root : Node) (dead : List ℕ) (gone now from row : ℕ) (before there after : Search) (old new : List ℕ) → HasVisited belongs place rows root dead gone from before old → IsOpen (is_wanted before.root.now dead) dead rows from row → HasGone dead now row → there.root ≡ before.root → after.root ≡ there.root → IsSearch belongs place rows row there.root.now after → ((r : DocRow) → slice_get rows row ≡ Some r → new ≡ old ++ (if (node_found there.root.now r).matches then row ∷ [] else [])) → HasVisited belongs place rows root dead now (row + 1) after new
visited_next belongs place rows root dead gone now from row before there after old new visited first behind same_first same_second at is =
    let within : row < length rows = first.within in
    let some : DocRow = some_row rows row within in
    let r : DocRow = get_or rows row some in
    let m : Bool = (node_found root r).matches in
    let its : there.root.now ≡ root = ap (λ (tree : Bor Node). tree.now) same_first ∙ visited.tree in
    let open_row : IsOpen (is_wanted root dead) dead rows from row = subst (λ tree. IsOpen (is_wanted tree dead) dead rows from row) visited.tree first in
    let step : numbers_from (is_wanted root dead) row rows ≡ cond m (row ∷ []) [] ++ numbers_from (is_wanted root dead) (row + 1) rows =
    row_ahead (is_wanted root dead) rows row some m within (ap (λ b. m && not b) open_row.living ∙ and-true m) in
    record {
      within = omega arith;
      tree = ap (λ (tree : Bor Node). tree.now) same_second ∙ its;
      behind = gone_later dead now row (row + 1) (omega arith) behind;
      at = search_of belongs place rows row (row + 1) there after (omega arith) same_second at;
      all =
          ap (λ ns. ns ++ numbers_from (is_wanted root dead) (row + 1) rows)
          (is r (slice_get-get_or rows row some within) ∙ ap (λ tree. old ++ (if (node_found tree r).matches then row ∷ [] else [])) its)
          ∙ append_assoc old (cond m (row ∷ []) []) (numbers_from (is_wanted root dead) (row + 1) rows)
          ∙ ap (λ ns. old ++ ns) (sym step ∙ open_row.passed)
          ∙ visited.all;
    }

-- no row is left
pub visited_all : (belongs : Cursor → Type 0) (place : Cursor → CursorPlace) (rows : List DocRow) (root : Node) (dead : List ℕ) (gone from : ℕ) (search : Search) (found : List ℕ) → HasVisited belongs place rows root dead gone from search found → IsFirstOpen (is_wanted search.root.now dead) dead rows from None → found ≡ numbers_of (is_wanted root dead) rows
visited_all belongs place rows root dead gone from search found visited first =
    let none : numbers_from (is_wanted root dead) from rows ≡ [] = subst (λ tree. numbers_from (is_wanted tree dead) from rows ≡ []) visited.tree first in
    sym (append-nil found) ∙ ap (λ ns. found ++ ns) (sym none) ∙ visited.all

-- ---- a query and its tree
matching_root : (tree : Option Node) (keywords : ℕ) (root : Node) (rows : List DocRow) (dead : List ℕ) → tree ≡ Some root → matching (record { root = tree; keywords = keywords }) rows dead ≡ numbers_of (is_wanted root dead) rows
matching_root None keywords root rows dead is = cc
matching_root (Some node) keywords root rows dead is = let same : node ≡ root = cc in ap (λ node. numbers_of (is_wanted node dead) rows) same

pub matching_is : (query : Query) (root : Node) (rows : List DocRow) (dead : List ℕ) → query.root ≡ Some root → matching query rows dead ≡ numbers_of (is_wanted root dead) rows
matching_is query root rows dead is = matching_root query.root query.keywords root rows dead is

matching_none : (tree : Option Node) (keywords : ℕ) (rows : List DocRow) (dead : List ℕ) → tree ≡ None → matching (record { root = tree; keywords = keywords }) rows dead ≡ numbers_of (λ e. lives dead e.0) rows
matching_none None keywords rows dead is = refl
matching_none (Some node) keywords rows dead is = cc

pub matching_living : (query : Query) (rows : List DocRow) (dead : List ℕ) → query.root ≡ None → matching query rows dead ≡ numbers_of (λ e. lives dead e.0) rows
matching_living query rows dead is = matching_none query.root query.keywords rows dead is

tree_found : (tree : Option Node) (keywords : ℕ) (root : Node) (row : DocRow) → tree ≡ Some root → node_found root row ≡ query_finds (record { root = tree; keywords = keywords }) row
tree_found None keywords root row is = cc
tree_found (Some node) keywords root row is = let same : root ≡ node = cc in ap (λ node. node_found node row) same

-- what the query finds in a row
pub found_is : (query : Query) (root : Node) (row : DocRow) → query.root ≡ Some root → node_found root row ≡ query_finds query row
found_is query root row is = tree_found query.root query.keywords root row is

few_of : (tree : Option Node) (keywords : ℕ) (root : Node) → tree ≡ Some root → length (query_keys (record { root = tree; keywords = keywords })) < 2 ^ 16 → length (node_keys root) < 2 ^ 16
few_of None keywords root is few = cc
few_of (Some node) keywords root is few = let same : node ≡ root = cc in subst (λ (n : Node). length (node_keys n) < 2 ^ 16) same few

-- a query's tree has its keywords
pub few_keys : (query : Query) (root tree : Node) → query.root ≡ Some root → tree ≡ root → length (query_keys query) < 2 ^ 16 → length (node_keys tree) < 2 ^ 16
few_keys query root tree is same few = subst (λ (n : Node). length (node_keys n) < 2 ^ 16) (sym same) (few_of query.root query.keywords root is few)

pub keys_root : (tree : Option Node) (keywords : ℕ) (root : Node) → tree ≡ Some root → query_keys (record { root = tree; keywords = keywords }) ≡ node_keys root
keys_root None keywords root is = cc
keys_root (Some node) keywords root is = let same : node ≡ root = cc in ap node_keys same

pub query_keys_are : (query : Query) (root : Node) → query.root ≡ Some root → query_keys query ≡ node_keys root
query_keys_are query root is = keys_root query.root query.keywords root is

-- what a query's tree opens, as what the query does
pub opened_by : (query : Query) (root tree : Node) (row : DocRow) (old new : ℕ) → query.root ≡ Some root → tree ≡ root → new ≤ old + present_in row (node_keys tree) → new ≤ old + present_in row (query_keys query)
opened_by query root tree row old new is same low =
    subst (λ keys. new ≤ old + present_in row keys) (ap node_keys same ∙ sym (keys_root query.root query.keywords root is)) low

-- what stands in order, each once, is what the query finds
pub are_occurrences : (query : Query) (root tree : Node) (row : DocRow) (occs found : List Occ) → query.root ≡ Some root → tree ≡ root → Ascend occs → SameMembers occs found → SameMembers found (node_found tree row).occurrences → AreOccurrences query row occs
are_occurrences query root tree row occs found is same ascend members all = record {
  ascend = ascend;
  all =
      same_trans occs found (query_finds query row).occurrences members
      (subst (λ (f : Found). SameMembers found f.occurrences) (ap (λ node. node_found node row) same ∙ found_is query root row is) all);
}

pub are_hits : (query : Query) (root tree : Node) (row : DocRow) (hits found : List Hit) → query.root ≡ Some root → tree ≡ root → AllPairs (λ hit later. IsTrue (comes_before hit later)) hits → SameMembers hits found → SameMembers found (node_found tree row).hits → AreHits query row hits
are_hits query root tree row hits found is same ascend members all = record {
  ascend = ascend;
  all =
      same_trans hits found (query_finds query row).hits members
      (subst (λ (f : Found). SameMembers found f.hits) (ap (λ node. node_found node row) same ∙ found_is query root row is) all);
}
