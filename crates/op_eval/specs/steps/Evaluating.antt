-- what evaluation answers of a node, by what the node finds in a row
use Rattle.std.specs.Prelude.{◌≡◌, ℕ, List, [], ◌∷◌, ◌++◌, map, Bool, All, if◌then◌else◌}
use Rattle.std.specs.List.{flat_map, filter}
use Rattle.doc_types.specs.declared.documents.DocRow.{DocRow}
use Rattle.doc_types.specs.declared.hits.Hit.{Hit}
use Rattle.doc_types.specs.declared.tokens.ZoneSpan.{ZoneSpan}
use Rattle.query_tree.specs.declared.key.Key.{Key}
use Rattle.query_tree.specs.declared.query.Item.{Item}
use Rattle.query_tree.specs.declared.query.Node.{Node}
use Rattle.query_tree.specs.TreeKeys.{node_keys}
use Rattle.occ_lists.specs.declared.occ.Occ.{Occ}
use Rattle.occ_lists.specs.declared.term.Term.{Term}
use Rattle.occ_lists.specs.Joined.{before, near, together}
use Rattle.occ_lists.specs.OccLists.{SameMembers}
use Rattle.op_eval.specs.declared.finding.Finding.{Finding}
use Rattle.op_eval.specs.declared.joining.Join.{Join}
use Rattle.op_eval.specs.declared.joining.Join.TheVariants as joins
use Rattle.word_rows.specs.declared.marks.RowMarks.{RowMarks}
use Rattle.word_rows.specs.Keywords.{Spans, is_among}
use Rattle.op_eval.specs.Finding.{Found, Part, node_finds, passes}
use Rattle.word_rows.specs.Terms.{AreTermsOf}
use Rattle.word_rows.specs.RowMarks.{Knows}

-- members of a list, in any order, were appended
pub record Appends {X : Type 0} (old new found : List X) : Type 0 where
  pub added : List X
  pub is : new ≡ old ++ added
  pub same : SameMembers added found

-- What was found was appended, and whether it matches was told; of hits this is said where the numbers of words are short
-- enough for them.
pub record Finds (short : Type 0) (found : Found) (old new : Finding) (result : Bool) : Type 0 where
  pub matches : result ≡ found.matches
  pub occurrences : Appends old.occs.items new.occs.items found.occurrences
  pub hits : short → Appends old.hits.items new.hits.items found.hits

-- this is so of each row whose terms and marks these are
abbrev pub OfEachRow : Node → List Term → RowMarks → ((DocRow → (List ℕ → ℕ) → Type 0) → Type 0)
OfEachRow node terms marks holds = (row : DocRow) (number : List ℕ → ℕ) → AreTermsOf row number (node_keys node) terms → Knows row node marks → holds row number

-- ---- items of an AND

-- the keywords of items
abbrev pub items_keys : List Item → List Key
items_keys items = flat_map (λ (item : Item). node_keys item.node) items

-- an item with what its node finds within the spans
abbrev pub part_in : DocRow → (List ℕ → ℕ) → Spans → Item → Part
part_in row number spans item = record { negated = item.negated; found = node_finds row number item.node spans }

-- what an item adds
abbrev pub part_occs : Part → List Occ
part_occs part = if part.negated then [] else part.found.occurrences

abbrev pub part_hits : Part → List Hit
part_hits part = if part.negated then [] else part.found.hits

abbrev pub part_finds : Part → Found
part_finds part = record { matches = passes part; occurrences = part_occs part; hits = part_hits part }

-- this is so of each row whose terms these are, and whose marks they are for each item
abbrev pub OfEachItem : List Item → List Term → RowMarks → ((DocRow → (List ℕ → ℕ) → Type 0) → Type 0)
OfEachItem items terms marks holds = (row : DocRow) (number : List ℕ → ℕ) → AreTermsOf row number (items_keys items) terms → All (λ (item : Item). Knows row item.node marks) items → holds row number

-- ---- operators on occurrences

-- what the operator makes of two lists, by the marks
abbrev pub join_by : RowMarks → Join → List Occ → List Occ → List Occ
join_by marks joins.Before = before
join_by marks (joins.Near n) = near n
join_by marks joins.Sentence = together marks.sentences.items
join_by marks joins.Paragraph = together marks.paragraphs.items

-- a list of what a node finds: its occurrences and, where numbers are short enough, its hits, in any order
pub record Holds (short : Type 0) (found : Found) (finding : Finding) : Type 0 where
  pub occurrences : SameMembers finding.occs.items found.occurrences
  pub hits : short → SameMembers finding.hits.items found.hits

-- this is so of each row whose terms are those of the two, and whose marks they are for both
abbrev pub OfEachPair : Node → Node → List Term → RowMarks → ((DocRow → (List ℕ → ℕ) → Type 0) → Type 0)
OfEachPair a b terms marks holds = (row : DocRow) (number : List ℕ → ℕ) → AreTermsOf row number (node_keys a ++ node_keys b) terms → Knows row a marks → Knows row b marks → holds row number

-- ---- single spans

-- what the node finds within each of these spans alone that is of the zones, beside those in force
abbrev pub founds_in : DocRow → (List ℕ → ℕ) → Node → Spans → List ℕ → Spans → List Found
founds_in row number node spans zones all = map (λ (span : ℕ × ZoneSpan). node_finds row number node (spans ++ span ∷ [])) (filter (λ (span : ℕ × ZoneSpan). is_among zones span.1.zone) all)
