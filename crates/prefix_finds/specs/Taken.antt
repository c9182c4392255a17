-- What a query with prefixes finds in a row: as in evaluation, but that a keyword finds what each word of the row that it takes would
-- find in its place, under the same limits and marks.
use Rattle.std.specs.Prelude.{ℕ, List, [], map, true, Option, Some, None}
use Rattle.std.specs.List.{filter, flat_map}
use Rattle.doc_types.specs.declared.documents.DocRow.{DocRow}
use Rattle.query_tree.specs.declared.key.Key.{Key}
use Rattle.query_tree.specs.declared.query.Node.{Node}
use Rattle.query_tree.specs.declared.query.Node.TheOpen.{Node-F}
use Rattle.query_tree.specs.declared.query.Node.TheFolds.{fold-Node}
use Rattle.query_tree.specs.Taking.{takes}
use Rattle.word_rows.specs.Keywords.{Spans, places_within}
use Rattle.op_eval.specs.Finding.{Found, SpannedPart, any_of, item_step, keyword, node_step}
use Rattle.prefix_terms.specs.Prefixes.{with_word}

-- the words that stand in the row
abbrev pub words_in : DocRow → List (List ℕ)
words_in row = flat_map (λ field. map (λ token. token.word) field.words) row.doc.fields

-- those of them that the keyword takes
abbrev pub taken_in : DocRow → Key → List (List ℕ)
taken_in row key = filter (takes key) (words_in row)

-- what one of these finds in the place of the keyword
abbrev pub found_as : DocRow → (List ℕ → ℕ) → Key → Spans → List ℕ → Found
found_as row number key spans word = keyword number (with_word key word) (places_within row spans (with_word key word))

abbrev pub taking_step : DocRow → (List ℕ → ℕ) → Node-F (Spans → Found) SpannedPart → Spans → Found
taking_step row number (Node-F.Word key) spans = any_of (map (found_as row number key spans) (taken_in row key))
taking_step row number node spans = node_step row number node spans

-- what a tree finds within the spans in force
unfoldable pub node_takes : DocRow → (List ℕ → ℕ) → Node → Spans → Found
node_takes row number = fold-Node (Spans → Found) SpannedPart (taking_step row number) item_step

-- a query without a keyword matches every document, with no occurrence and no hit
abbrev pub query_takes : Option Node → DocRow → (List ℕ → ℕ) → Found
query_takes None row number = record { matches = true; occurrences = []; hits = [] }
query_takes (Some node) row number = node_takes row number node []
