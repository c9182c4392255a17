-- The numbers of the words that a query with prefixes asks for: as in evaluation, with the words of a prefix in its place.
use Rattle.std.specs.Prelude.{ℕ, List, [], ◌∷◌, map, Some, None, unwrap_or, if◌then◌else◌}
use Rattle.std.specs.List.{position}
use Rattle.std.specs.Str.{bytes_eq}
use Rattle.query_tree.specs.declared.key.Key.{Key}
use Rattle.query_tree.specs.declared.query.Node.{Node}
use Rattle.query_tree.specs.declared.query.Node.TheOpen.{Node-F}
use Rattle.query_tree.specs.declared.query.Node.TheFolds.{fold-Node}
use Rattle.query_tree.specs.declared.query.Query.{Query}
use Rattle.query_tree.specs.TreeKeys.{item_step, keys_step}
use Rattle.word_rows.specs.Keywords.{first_uses}
use Rattle.prefix_terms.specs.Prefixes.{Lists, asked, list_of, whole, with_word}

-- the keywords that are asked for in the place of a tree's: for a prefix one for each of its words, and else each as a whole word
abbrev pub asked_step : Lists → Node-F (List Key) (List Key) → List Key
asked_step lists (Node-F.Word key) = if key.prefix then map (with_word key) (asked (list_of key.query lists)) else key ∷ []
asked_step lists (Node-F.Quoted keys how) = map whole keys
asked_step lists node = keys_step node

unfoldable pub keys_asked : Lists → Node → List Key
keys_asked lists = fold-Node (List Key) (List Key) (asked_step lists) item_step

abbrev pub query_asked : Lists → Query → List Key
query_asked lists query = elim query.root [ None ↦ [] | Some node ↦ keys_asked lists node ]

-- the number of a word, from 0: its place among the distinct words that are asked for, by first use from left to right
abbrev pub number_with : Lists → Query → List ℕ → ℕ
number_with lists query word = unwrap_or (position (bytes_eq word) (first_uses (map (λ key. key.word) (query_asked lists query)))) 0
