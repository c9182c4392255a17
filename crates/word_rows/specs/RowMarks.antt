-- what a query asks of a row beside the places of its words
use Rattle.std.specs.Prelude.{◌≡◌, Bool, true, false, ◌||◌, IsTrue}
use Rattle.std.specs.List.{list_any}
use Rattle.doc_types.specs.declared.documents.DocRow.{DocRow}
use Rattle.doc_types.specs.Chunks.{spans_of}
use Rattle.query_tree.specs.declared.query.Node.{Node}
use Rattle.query_tree.specs.declared.query.Node.TheOpen.{Node-F, Item-F}
use Rattle.query_tree.specs.declared.query.Node.TheFolds.{fold-Node}
use Rattle.query_tree.specs.declared.key.Key.{Key}
use Rattle.occ_lists.specs.Places.{ArePlaces}
use Rattle.word_rows.specs.declared.marks.RowMarks.{RowMarks}
use Rattle.word_rows.specs.Keywords.{sentence_ends, paragraph_ends}

-- the node has a SENTENCE or PARAGRAPH in it
abbrev pub boundary_step : Node-F Bool Bool → Bool
boundary_step (Node-F.Word key) = false
boundary_step (Node-F.Quoted keys how) = false
boundary_step (Node-F.And items) = list_any (λ item. item) items
boundary_step (Node-F.Or a b) = a || b
boundary_step (Node-F.Maybe a b) = a || b
boundary_step (Node-F.Before a b) = a || b
boundary_step (Node-F.Near n a b) = a || b
boundary_step (Node-F.Sentence a b) = true
boundary_step (Node-F.Paragraph a b) = true
boundary_step (Node-F.ZoneSpan zones a) = a

abbrev pub item_step : Item-F Bool Bool → Bool
item_step item = item.node

unfoldable pub asks_boundaries : Node → Bool
asks_boundaries = fold-Node Bool Bool boundary_step item_step

-- the keyword's limit has zones
abbrev pub has_zones : Key → Bool
has_zones key = list_any (λ zone. true) key.limit.zones

-- the node has a ZONESPAN in it, or a keyword with a limit to zones
abbrev pub span_step : Node-F Bool Bool → Bool
span_step (Node-F.Word key) = has_zones key
span_step (Node-F.Quoted keys how) = list_any has_zones keys
span_step (Node-F.And items) = list_any (λ item. item) items
span_step (Node-F.Or a b) = a || b
span_step (Node-F.Maybe a b) = a || b
span_step (Node-F.Before a b) = a || b
span_step (Node-F.Near n a b) = a || b
span_step (Node-F.Sentence a b) = a || b
span_step (Node-F.Paragraph a b) = a || b
span_step (Node-F.ZoneSpan zones a) = true

unfoldable pub asks_spans : Node → Bool
asks_spans = fold-Node Bool Bool span_step item_step

-- The marks are in order.
pub record AreMarks (marks : RowMarks) : Type 0 where
  pub sentences : ArePlaces marks.sentences.items
  pub paragraphs : ArePlaces marks.paragraphs.items

-- The marks are those of the row, as far as the node asks for them.
pub record Knows (row : DocRow) (node : Node) (marks : RowMarks) : Type 0 where
  pub sentences : IsTrue (asks_boundaries node) → marks.sentences.items ≡ sentence_ends row
  pub paragraphs : IsTrue (asks_boundaries node) → marks.paragraphs.items ≡ paragraph_ends row
  pub spans : IsTrue (asks_spans node) → marks.spans.items ≡ spans_of row
