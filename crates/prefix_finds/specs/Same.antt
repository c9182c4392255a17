-- A query and the one that is asked in its place find the same.
use Rattle.std.specs.Prelude.{◌≡◌, ◌≢◌, ℕ, List, [], AllPairs, All, Contains}
use Rattle.doc_types.specs.declared.documents.DocRow.{DocRow}
use Rattle.query_tree.specs.declared.query.Query.{Query}
use Rattle.query_tree.specs.TreeKeys.{query_keys}
use Rattle.occ_lists.specs.OccLists.{SameMembers}
use Rattle.op_eval.specs.Finding.{Found}
use Rattle.op_eval.specs.Matching.{finds}
use Rattle.prefix_terms.specs.Prefixes.{AreExpanded, IsQueryFor, Lists}
use Rattle.prefix_finds.specs.Taken.{query_takes, words_in}

-- the same is found: lists of occurrences and of hits stand for sets
pub record IsSame (found other : Found) : Type 0 where
  pub matches : found.matches ≡ other.matches
  pub occurrences : SameMembers found.occurrences other.occurrences
  pub hits : SameMembers found.hits other.hits

-- In one of these documents, a query finds what the query finds that is asked in its place, whatever numbers the words have: where each
-- prefix has its list, no two keywords have one query position, and the row has no empty word.
abbrev pub FindTheSame : Type 0
FindTheSame =
    (docs : List DocRow) (query other : Query) (lists : Lists) (row : DocRow) (number : List ℕ → ℕ)
    → AreExpanded docs (query_keys query) lists → AllPairs (λ key later. key.query ≢ later.query) (query_keys query) → IsQueryFor query lists other
    → Contains docs row → All (λ word. word ≢ []) (words_in row)
    → IsSame (query_takes query.root row number) (finds other.root row number)
