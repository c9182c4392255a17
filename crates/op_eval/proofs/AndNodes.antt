-- The nodes of a query in which AND stands for SENTENCE and PARAGRAPH, by their kinds.
use Rattle.std.proofs.Common.{◌≡◌, refl, sym, ap, ◌∙◌, ℕ, List, [], ◌∷◌}
use Rattle.std.specs.Prelude.{map}
use Rattle.query_tree.specs.declared.key.Key.{Key}
use Rattle.query_tree.specs.declared.key.How.{How}
use Rattle.query_tree.specs.declared.query.Item.{Item}
use Rattle.query_tree.specs.declared.query.Node.{Node}
use Rattle.query_tree.specs.declared.query.Node.TheVariants as nodes
use Rattle.query_tree.specs.declared.query.Node.TheOpen.{Node-F}
use Rattle.query_tree.specs.declared.query.Node.TheVariants.{rolls-Word, rolls-Quoted, rolls-And, rolls-Or, rolls-Maybe, rolls-Before, rolls-Near, rolls-Sentence, rolls-Paragraph, rolls-ZoneSpan}
use Rattle.query_tree.specs.declared.query.Node.TheFolds.{fold-Item, fold-roll-Node, fold_out-Item}
use Rattle.op_eval.specs.Sentences.{both, and_step, and_item, joined_by_and, item_joined_by_and}

item_is : (item : Item) → fold-Item Node Item and_step and_item item ≡ item_joined_by_and item
unfolding joined_by_and
item_is = fold_out-Item Node Item and_step and_item

items_are : (items : List Item) → map (fold-Item Node Item and_step and_item) items ≡ map item_joined_by_and items
items_are [] = refl
items_are (item ∷ items) = ap (λ t. t ∷ map (fold-Item Node Item and_step and_item) items) (item_is item) ∙ ap (λ t. item_joined_by_and item ∷ t) (items_are items)

pub of_word : (key : Key) → joined_by_and (nodes.Word key) ≡ nodes.Word key
unfolding joined_by_and
of_word key = ap joined_by_and (sym (rolls-Word key)) ∙ fold-roll-Node Node Item and_step and_item (Node-F.Word key)

pub of_quoted : (keys : List Key) (how : How) → joined_by_and (nodes.Quoted keys how) ≡ nodes.Quoted keys how
unfolding joined_by_and
of_quoted keys how = ap joined_by_and (sym (rolls-Quoted keys how)) ∙ fold-roll-Node Node Item and_step and_item (Node-F.Quoted keys how)

pub of_and : (items : List Item) → joined_by_and (nodes.And items) ≡ nodes.And (map item_joined_by_and items)
unfolding joined_by_and
of_and items = ap joined_by_and (sym (rolls-And items)) ∙ fold-roll-Node Node Item and_step and_item (Node-F.And items) ∙ ap nodes.And (items_are items)

pub of_or : (a b : Node) → joined_by_and (nodes.Or a b) ≡ nodes.Or (joined_by_and a) (joined_by_and b)
unfolding joined_by_and
of_or a b = ap joined_by_and (sym (rolls-Or a b)) ∙ fold-roll-Node Node Item and_step and_item (Node-F.Or a b)

pub of_maybe : (a b : Node) → joined_by_and (nodes.Maybe a b) ≡ nodes.Maybe (joined_by_and a) (joined_by_and b)
unfolding joined_by_and
of_maybe a b = ap joined_by_and (sym (rolls-Maybe a b)) ∙ fold-roll-Node Node Item and_step and_item (Node-F.Maybe a b)

pub of_before : (a b : Node) → joined_by_and (nodes.Before a b) ≡ nodes.Before (joined_by_and a) (joined_by_and b)
unfolding joined_by_and
of_before a b = ap joined_by_and (sym (rolls-Before a b)) ∙ fold-roll-Node Node Item and_step and_item (Node-F.Before a b)

pub of_near : (n : ℕ) (a b : Node) → joined_by_and (nodes.Near n a b) ≡ nodes.Near n (joined_by_and a) (joined_by_and b)
unfolding joined_by_and
of_near n a b = ap joined_by_and (sym (rolls-Near n a b)) ∙ fold-roll-Node Node Item and_step and_item (Node-F.Near n a b)

pub of_sentence : (a b : Node) → joined_by_and (nodes.Sentence a b) ≡ both (joined_by_and a) (joined_by_and b)
unfolding joined_by_and
of_sentence a b = ap joined_by_and (sym (rolls-Sentence a b)) ∙ fold-roll-Node Node Item and_step and_item (Node-F.Sentence a b)

pub of_paragraph : (a b : Node) → joined_by_and (nodes.Paragraph a b) ≡ both (joined_by_and a) (joined_by_and b)
unfolding joined_by_and
of_paragraph a b = ap joined_by_and (sym (rolls-Paragraph a b)) ∙ fold-roll-Node Node Item and_step and_item (Node-F.Paragraph a b)

pub of_zonespan : (zones : List ℕ) (a : Node) → joined_by_and (nodes.ZoneSpan zones a) ≡ nodes.ZoneSpan zones (joined_by_and a)
unfolding joined_by_and
of_zonespan zones a = ap joined_by_and (sym (rolls-ZoneSpan zones a)) ∙ fold-roll-Node Node Item and_step and_item (Node-F.ZoneSpan zones a)
