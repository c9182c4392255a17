-- Which boundaries and spans a node asks for, by the kinds of nodes.
use Rattle.std.proofs.Common.{◌≡◌, refl, sym, ap, ◌∙◌, ℕ, List, [], ◌∷◌, Bool, true, false}
use Rattle.std.specs.Prelude.{map, ◌||◌}
use Rattle.std.specs.List.{list_any}
use Rattle.query_tree.specs.declared.key.Key.{Key}
use Rattle.query_tree.specs.declared.key.How.{How}
use Rattle.query_tree.specs.declared.query.Item.{Item}
use Rattle.query_tree.specs.declared.query.Node.{Node}
use Rattle.query_tree.specs.declared.query.Node.TheVariants as nodes
use Rattle.query_tree.specs.declared.query.Node.TheOpen.{Node-F}
use Rattle.query_tree.specs.declared.query.Node.TheVariants.{rolls-Word, rolls-Quoted, rolls-And, rolls-Or, rolls-Maybe, rolls-Before, rolls-Near, rolls-Sentence, rolls-Paragraph, rolls-ZoneSpan}
use Rattle.query_tree.specs.declared.query.Node.TheFolds.{fold-Item, fold-roll-Node, fold_out-Item}
use Rattle.word_rows.specs.RowMarks as asking
use Rattle.word_rows.specs.RowMarks.{boundary_step, span_step, has_zones, asks_boundaries, asks_spans}

-- ---- whether boundaries are asked for

bounded_items : (items : List Item) → list_any (λ (item : Bool). item) (map (fold-Item Bool Bool boundary_step asking.item_step) items) ≡ list_any (λ (item : Item). asks_boundaries item.node) items
unfolding asks_boundaries
bounded_items [] = refl
bounded_items (item ∷ items) =
    ap (λ b. b || list_any (λ (i : Bool). i) (map (fold-Item Bool Bool boundary_step asking.item_step) items)) (fold_out-Item Bool Bool boundary_step asking.item_step item)
    ∙ ap (λ b. asks_boundaries item.node || b) (bounded_items items)

pub bounds_word : (key : Key) → asks_boundaries (nodes.Word key) ≡ false
unfolding asks_boundaries
bounds_word key = ap asks_boundaries (sym (rolls-Word key)) ∙ fold-roll-Node Bool Bool boundary_step asking.item_step (Node-F.Word key)

pub bounds_quoted : (keys : List Key) (how : How) → asks_boundaries (nodes.Quoted keys how) ≡ false
unfolding asks_boundaries
bounds_quoted keys how = ap asks_boundaries (sym (rolls-Quoted keys how)) ∙ fold-roll-Node Bool Bool boundary_step asking.item_step (Node-F.Quoted keys how)

pub bounds_and : (items : List Item) → asks_boundaries (nodes.And items) ≡ list_any (λ (item : Item). asks_boundaries item.node) items
unfolding asks_boundaries
bounds_and items = ap asks_boundaries (sym (rolls-And items)) ∙ fold-roll-Node Bool Bool boundary_step asking.item_step (Node-F.And items) ∙ bounded_items items

pub bounds_or : (a b : Node) → asks_boundaries (nodes.Or a b) ≡ (asks_boundaries a || asks_boundaries b)
unfolding asks_boundaries
bounds_or a b = ap asks_boundaries (sym (rolls-Or a b)) ∙ fold-roll-Node Bool Bool boundary_step asking.item_step (Node-F.Or a b)

pub bounds_maybe : (a b : Node) → asks_boundaries (nodes.Maybe a b) ≡ (asks_boundaries a || asks_boundaries b)
unfolding asks_boundaries
bounds_maybe a b = ap asks_boundaries (sym (rolls-Maybe a b)) ∙ fold-roll-Node Bool Bool boundary_step asking.item_step (Node-F.Maybe a b)

pub bounds_before : (a b : Node) → asks_boundaries (nodes.Before a b) ≡ (asks_boundaries a || asks_boundaries b)
unfolding asks_boundaries
bounds_before a b = ap asks_boundaries (sym (rolls-Before a b)) ∙ fold-roll-Node Bool Bool boundary_step asking.item_step (Node-F.Before a b)

pub bounds_near : (n : ℕ) (a b : Node) → asks_boundaries (nodes.Near n a b) ≡ (asks_boundaries a || asks_boundaries b)
unfolding asks_boundaries
bounds_near n a b = ap asks_boundaries (sym (rolls-Near n a b)) ∙ fold-roll-Node Bool Bool boundary_step asking.item_step (Node-F.Near n a b)

pub bounds_sentence : (a b : Node) → asks_boundaries (nodes.Sentence a b) ≡ true
unfolding asks_boundaries
bounds_sentence a b = ap asks_boundaries (sym (rolls-Sentence a b)) ∙ fold-roll-Node Bool Bool boundary_step asking.item_step (Node-F.Sentence a b)

pub bounds_paragraph : (a b : Node) → asks_boundaries (nodes.Paragraph a b) ≡ true
unfolding asks_boundaries
bounds_paragraph a b = ap asks_boundaries (sym (rolls-Paragraph a b)) ∙ fold-roll-Node Bool Bool boundary_step asking.item_step (Node-F.Paragraph a b)

pub bounds_span : (zones : List ℕ) (a : Node) → asks_boundaries (nodes.ZoneSpan zones a) ≡ asks_boundaries a
unfolding asks_boundaries
bounds_span zones a = ap asks_boundaries (sym (rolls-ZoneSpan zones a)) ∙ fold-roll-Node Bool Bool boundary_step asking.item_step (Node-F.ZoneSpan zones a)

-- ---- whether spans are asked for

zoned_items : (items : List Item) → list_any (λ (item : Bool). item) (map (fold-Item Bool Bool span_step asking.item_step) items) ≡ list_any (λ (item : Item). asks_spans item.node) items
unfolding asks_spans
zoned_items [] = refl
zoned_items (item ∷ items) =
    ap (λ b. b || list_any (λ (i : Bool). i) (map (fold-Item Bool Bool span_step asking.item_step) items)) (fold_out-Item Bool Bool span_step asking.item_step item)
    ∙ ap (λ b. asks_spans item.node || b) (zoned_items items)

pub zones_word : (key : Key) → asks_spans (nodes.Word key) ≡ has_zones key
unfolding asks_spans
zones_word key = ap asks_spans (sym (rolls-Word key)) ∙ fold-roll-Node Bool Bool span_step asking.item_step (Node-F.Word key)

pub zones_quoted : (keys : List Key) (how : How) → asks_spans (nodes.Quoted keys how) ≡ list_any has_zones keys
unfolding asks_spans
zones_quoted keys how = ap asks_spans (sym (rolls-Quoted keys how)) ∙ fold-roll-Node Bool Bool span_step asking.item_step (Node-F.Quoted keys how)

pub zones_and : (items : List Item) → asks_spans (nodes.And items) ≡ list_any (λ (item : Item). asks_spans item.node) items
unfolding asks_spans
zones_and items = ap asks_spans (sym (rolls-And items)) ∙ fold-roll-Node Bool Bool span_step asking.item_step (Node-F.And items) ∙ zoned_items items

pub zones_or : (a b : Node) → asks_spans (nodes.Or a b) ≡ (asks_spans a || asks_spans b)
unfolding asks_spans
zones_or a b = ap asks_spans (sym (rolls-Or a b)) ∙ fold-roll-Node Bool Bool span_step asking.item_step (Node-F.Or a b)

pub zones_maybe : (a b : Node) → asks_spans (nodes.Maybe a b) ≡ (asks_spans a || asks_spans b)
unfolding asks_spans
zones_maybe a b = ap asks_spans (sym (rolls-Maybe a b)) ∙ fold-roll-Node Bool Bool span_step asking.item_step (Node-F.Maybe a b)

pub zones_before : (a b : Node) → asks_spans (nodes.Before a b) ≡ (asks_spans a || asks_spans b)
unfolding asks_spans
zones_before a b = ap asks_spans (sym (rolls-Before a b)) ∙ fold-roll-Node Bool Bool span_step asking.item_step (Node-F.Before a b)

pub zones_near : (n : ℕ) (a b : Node) → asks_spans (nodes.Near n a b) ≡ (asks_spans a || asks_spans b)
unfolding asks_spans
zones_near n a b = ap asks_spans (sym (rolls-Near n a b)) ∙ fold-roll-Node Bool Bool span_step asking.item_step (Node-F.Near n a b)

pub zones_sentence : (a b : Node) → asks_spans (nodes.Sentence a b) ≡ (asks_spans a || asks_spans b)
unfolding asks_spans
zones_sentence a b = ap asks_spans (sym (rolls-Sentence a b)) ∙ fold-roll-Node Bool Bool span_step asking.item_step (Node-F.Sentence a b)

pub zones_paragraph : (a b : Node) → asks_spans (nodes.Paragraph a b) ≡ (asks_spans a || asks_spans b)
unfolding asks_spans
zones_paragraph a b = ap asks_spans (sym (rolls-Paragraph a b)) ∙ fold-roll-Node Bool Bool span_step asking.item_step (Node-F.Paragraph a b)

pub zones_span : (zones : List ℕ) (a : Node) → asks_spans (nodes.ZoneSpan zones a) ≡ true
unfolding asks_spans
zones_span zones a = ap asks_spans (sym (rolls-ZoneSpan zones a)) ∙ fold-roll-Node Bool Bool span_step asking.item_step (Node-F.ZoneSpan zones a)
