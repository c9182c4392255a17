-- The keywords of a query, and how many documents have each. "SHOW META syntax" of the manual.
use Rattle.std.specs.Prelude.{ℕ, List, [], ◌∷◌, ◌++◌, Bool, ◌&&◌, codes, map, not, if◌then◌else◌}
use Rattle.std.specs.List.{count_by, filter, list_any}
use Rattle.std.specs.Str.{bytes_eq}
use Rattle.doc_types.specs.declared.documents.DocRow.{DocRow}
use Rattle.query_tree.specs.declared.key.Key.{Key}
use Rattle.query_tree.specs.declared.query.Query.{Query}
use Rattle.query_tree.specs.Taking.{takes}
use Rattle.query_tree.specs.TreeKeys.{query_keys}
use Rattle.prefix_finds.specs.Taken.{words_in}
use Rattle.table_search.specs.declared.keywords.WordDocs.{WordDocs}

-- both keywords are the same word, or the same prefix
abbrev pub are_one : Key → Key → Bool
are_one key other = bytes_eq key.word other.word && (if key.prefix then other.prefix else not other.prefix)

-- each of these once, in the order of first use
abbrev pub first_keys : List Key → List Key
first_keys [] = []
first_keys (key ∷ keys) = key ∷ filter (λ other. not (are_one other key)) (first_keys keys)

-- a document has a word that the keyword takes
abbrev pub has_taken : Key → DocRow → Bool
has_taken key doc = list_any (takes key) (words_in doc)

-- how many of the documents have such a word, each counted once
abbrev pub docs_taking : Key → List DocRow → ℕ
docs_taking key docs = count_by (has_taken key) docs

-- how a keyword is shown: a prefix with its `*`
abbrev pub shown_key : Key → List ℕ
shown_key key = if key.prefix then key.word ++ codes "*" else key.word

-- a keyword, with the number of the documents that have it
abbrev pub counted : List DocRow → Key → WordDocs
counted docs key = record { word = shown_key key; docs = docs_taking key docs }

-- the keywords of a query, each once, in the order of first use, each with the number of the documents that have it
abbrev pub word_docs : Query → List DocRow → List WordDocs
word_docs query docs = map (counted docs) (first_keys (query_keys query))
