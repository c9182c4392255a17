-- Which rows match a query.
use Rattle.std.specs.Prelude.{ℕ, List, [], map, Bool, true, ◌&&◌, ◌==◌, not, Option, Some, None, unwrap_or}
use Rattle.std.specs.List.{filter, list_any, enumerate_from, position}
use Rattle.std.specs.Str.{bytes_eq}
use Rattle.doc_types.specs.declared.documents.DocRow.{DocRow}
use Rattle.query_tree.specs.declared.query.Node.{Node}
use Rattle.query_tree.specs.declared.query.Query.{Query}
use Rattle.query_tree.specs.TreeKeys.{query_keys}
use Rattle.word_rows.specs.Keywords.{first_uses}
use Rattle.op_eval.specs.Finding.{Found, node_finds}

-- the number of a word of the query, from 0: its place among the distinct words of the query, by first use from left to right
abbrev pub number_in : Query → List ℕ → ℕ
number_in query word = unwrap_or (position (bytes_eq word) (first_uses (map (λ key. key.word) (query_keys query)))) 0

-- a query without a keyword matches every document, with no occurrence and no hit
abbrev pub finds : Option Node → DocRow → (List ℕ → ℕ) → Found
finds None row number = record { matches = true; occurrences = []; hits = [] }
finds (Some node) row number = node_finds row number node []

-- what the query finds in the row
abbrev pub query_finds : Query → DocRow → Found
query_finds query row = finds query.root row (number_in query)

-- the row matches
abbrev pub matches : Query → DocRow → Bool
matches query row = (query_finds query row).matches

-- the rows that match and aren't dead, by their numbers, ascending
abbrev pub matching : Query → List DocRow → List ℕ → List ℕ
matching query rows dead =
    map (λ e. e.0) (filter (λ e. matches query e.1 && not (list_any (λ d. d == e.0) dead)) (enumerate_from 0 rows))
