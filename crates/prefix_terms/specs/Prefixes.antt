-- Prefixes: the words that they stand for in a snapshot, and the query without prefixes that asks for these words.
use Rattle.std.specs.Prelude.{◌≡◌, ◌<◌, ◌≤◌, ◌+◌, ℕ, List, [], ◌∷◌, ◌++◌, Bool, true, false, ◌==◌, Option, Some, None, Result, Ok, Err, All, AllPairs, Contains, length, map, find}
use Rattle.std.specs.List.{AllZip, filter, list_any, sum_by}
use Rattle.std.specs.Cmp.Lexicographic.{slice_cmp}
use Rattle.std.specs.Ordering.{nat_cmp}
use Rattle.std.specs.declared.cmp.Ordering.TheVariants.{Less}
use Rattle.srch_base.specs.declared.faults.Or.{Or}
use Rattle.srch_base.specs.declared.faults.Or.TheVariants as causes
use Rattle.doc_types.specs.Chunks.{has_word}
use Rattle.doc_types.specs.declared.documents.DocRow.{DocRow}
use Rattle.doc_types.specs.Snapshots.{SnapshotValue, all_living}
use Rattle.query_tree.specs.declared.key.Key.{Key}
use Rattle.query_tree.specs.declared.key.How.{How}
use Rattle.query_tree.specs.declared.query.Item.{Item}
use Rattle.query_tree.specs.declared.query.Node.{Node}
use Rattle.query_tree.specs.declared.query.Node.TheVariants as nodes
use Rattle.query_tree.specs.declared.query.Query.{Query}
use Rattle.query_tree.specs.Taking.{begins_so, HasNoPrefix}
use Rattle.query_tree.specs.TreeKeys.{query_keys}
use Rattle.prefix_terms.specs.declared.expansion.TheConstants.{MAX_PREFIX_WORDS}
use Rattle.prefix_terms.specs.declared.expansion.Expansion.{Expansion}
use Rattle.prefix_terms.specs.declared.expansion.TooMany.{TooMany}

-- ---- the words of a prefix

-- the words that prefixes stand for, each with the query position of its prefix
abbrev pub Lists : Type 0
Lists = List (ℕ × List (List ℕ))

-- one of the documents has the word
abbrev pub lives : List DocRow → List ℕ → Bool
lives docs word = list_any (has_word word) docs

-- The words that begin so and that one of the documents has: ascending by their bytes, so that each stands there once.
pub record AreWordsWith (docs : List DocRow) (beginning : List ℕ) (words : List (List ℕ)) : Type 0 where
  pub ascend : AllPairs (λ word later. slice_cmp nat_cmp word later ≡ Less) words
  pub begin : All (λ word. begins_so word beginning ≡ true) words
  pub live : All (λ word. lives docs word ≡ true) words
  pub all : (word : List ℕ) → begins_so word beginning ≡ true → lives docs word ≡ true → Contains words word

-- the prefixes among keywords
abbrev pub prefixes : List Key → List Key
prefixes keys = filter (λ key. key.prefix) keys

-- the list is that of the prefix
pub record IsListOf (docs : List DocRow) (key : Key) (list : ℕ × List (List ℕ)) : Type 0 where
  pub query : list.0 ≡ key.query
  pub words : AreWordsWith docs key.word list.1

-- a list for each of the prefixes among these keywords, in their order
abbrev pub AreExpanded : List DocRow → List Key → Lists → Type 0
AreExpanded docs keys lists = AllZip (IsListOf docs) (prefixes keys) lists

-- how many words the lists have together
abbrev pub words_together : Lists → ℕ
words_together lists = sum_by (λ list. length list.1) lists

-- What expansion answers: the lists where they have few words together, and else how many these are. Without memory nothing is said.
abbrev pub Expands : SnapshotValue → Query → Result Expansion (Or TooMany) → Type 0
Expands snapshot query (Ok expansion) = AreExpanded (all_living snapshot.layers) (query_keys query) expansion.keys × (words_together expansion.keys ≤ MAX_PREFIX_WORDS)
Expands snapshot query (Err causes.NoMemory) = Unit {0}
Expands snapshot query (Err (causes.Fault many)) =
    (lists : Lists) × AreExpanded (all_living snapshot.layers) (query_keys query) lists × (many.count ≡ words_together lists) × (MAX_PREFIX_WORDS < many.count)

-- ---- the query without prefixes

-- the keyword for one of the words of a prefix: under the same limits and marks, with the same query position
abbrev pub with_word : Key → List ℕ → Key
with_word key word = record { query = key.query; word = word; limit = key.limit; start = key.start; end = key.end; prefix = false }

-- the keyword as a whole word
abbrev pub whole : Key → Key
whole key = with_word key key.word

-- the words that are asked for: those of the prefix, or the empty one, which no document has
abbrev pub asked : List (List ℕ) → List (List ℕ)
asked [] = [] ∷ []
asked (word ∷ words) = word ∷ words

-- the list of the prefix with this query position
abbrev pub list_of : ℕ → Lists → List (List ℕ)
list_of query lists = elim (find (λ list. list.0 == query) lists) [ None ↦ [] | Some list ↦ list.1 ]

-- A tree of ORs of these keywords, in their order, whose halves have equally many, or the first one more.
pub data IsChoice : List Key → Node → Type 0 where
  of_one : (key : Key) → IsChoice (key ∷ []) (nodes.Word key)
  of_halves : (first second : List Key) (a b : Node) → length second ≤ length first → length first ≤ length second + 1 → IsChoice first a → IsChoice second b → IsChoice (first ++ second) (nodes.Or a b)

mutual
  -- The second tree is the first one with an OR of plain keywords in the place of each prefix. Between quotes there are no prefixes.
  pub data IsRewritten (lists : Lists) : Node → Node → Type 0 where
    of_word : (key : Key) → key.prefix ≡ false → IsRewritten lists (nodes.Word key) (nodes.Word key)
    of_prefix : (key : Key) (choice : Node) → key.prefix ≡ true → IsChoice (map (with_word key) (asked (list_of key.query lists))) choice → IsRewritten lists (nodes.Word key) choice
    of_quoted : (keys : List Key) (how : How) → IsRewritten lists (nodes.Quoted keys how) (nodes.Quoted (map whole keys) how)
    of_and : (items others : List Item) → AreRewritten lists items others → IsRewritten lists (nodes.And items) (nodes.And others)
    of_or : (a b c d : Node) → IsRewritten lists a c → IsRewritten lists b d → IsRewritten lists (nodes.Or a b) (nodes.Or c d)
    of_maybe : (a b c d : Node) → IsRewritten lists a c → IsRewritten lists b d → IsRewritten lists (nodes.Maybe a b) (nodes.Maybe c d)
    of_before : (a b c d : Node) → IsRewritten lists a c → IsRewritten lists b d → IsRewritten lists (nodes.Before a b) (nodes.Before c d)
    of_near : (n : ℕ) (a b c d : Node) → IsRewritten lists a c → IsRewritten lists b d → IsRewritten lists (nodes.Near n a b) (nodes.Near n c d)
    of_sentence : (a b c d : Node) → IsRewritten lists a c → IsRewritten lists b d → IsRewritten lists (nodes.Sentence a b) (nodes.Sentence c d)
    of_paragraph : (a b c d : Node) → IsRewritten lists a c → IsRewritten lists b d → IsRewritten lists (nodes.Paragraph a b) (nodes.Paragraph c d)
    of_span : (zones : List ℕ) (a c : Node) → IsRewritten lists a c → IsRewritten lists (nodes.ZoneSpan zones a) (nodes.ZoneSpan zones c)

  -- the items of an AND, one for one
  pub data AreRewritten (lists : Lists) : List Item → List Item → Type 0 where
    no_items : AreRewritten lists [] []
    more_items : (item other : Item) (items others : List Item) → other.negated ≡ item.negated → IsRewritten lists item.node other.node → AreRewritten lists items others → AreRewritten lists (item ∷ items) (other ∷ others)

-- a tree is there exactly where the other one is
abbrev pub IsRootRewritten : Lists → Option Node → Option Node → Type 0
IsRootRewritten lists None None = Unit {0}
IsRootRewritten lists (Some root) (Some other) = IsRewritten lists root other
IsRootRewritten lists _ _ = ⊥

-- What is asked in the place of a query: as many keywords count, and none of them is a prefix.
pub record IsQueryFor (query : Query) (lists : Lists) (other : Query) : Type 0 where
  pub root : IsRootRewritten lists query.root other.root
  pub keywords : other.keywords ≡ query.keywords
  pub plain : HasNoPrefix other
