-- The keywords of a tree, by the kinds of nodes.
use Rattle.std.proofs.Common.{◌≡◌, refl, sym, ap, ◌∙◌, ℕ, List, [], ◌∷◌, ◌++◌}
use Rattle.std.specs.Prelude.{map}
use Rattle.std.specs.List.{flat_map}
use Rattle.query_tree.specs.declared.key.Key.{Key}
use Rattle.query_tree.specs.declared.key.How.{How}
use Rattle.query_tree.specs.declared.query.Item.{Item}
use Rattle.query_tree.specs.declared.query.Node.{Node}
use Rattle.query_tree.specs.declared.query.Node.TheVariants as nodes
use Rattle.query_tree.specs.declared.query.Node.TheOpen.{Node-F}
use Rattle.query_tree.specs.declared.query.Node.TheVariants.{rolls-Word, rolls-Quoted, rolls-And, rolls-Or, rolls-Maybe, rolls-Before, rolls-Near, rolls-Sentence, rolls-Paragraph, rolls-ZoneSpan}
use Rattle.query_tree.specs.declared.query.Node.TheFolds.{fold-Item, fold-roll-Node, fold_out-Item}
use Rattle.query_tree.specs.TreeKeys.{keys_step, item_step, node_keys}

item_is : (item : Item) → fold-Item (List Key) (List Key) keys_step item_step item ≡ node_keys item.node
unfolding node_keys
item_is = fold_out-Item (List Key) (List Key) keys_step item_step

items_are : (items : List Item) → flat_map (λ item. item) (map (fold-Item (List Key) (List Key) keys_step item_step) items) ≡ flat_map (λ (item : Item). node_keys item.node) items
items_are [] = refl
items_are (item ∷ items) =
    ap (λ t. t ++ flat_map (λ i. i) (map (fold-Item (List Key) (List Key) keys_step item_step) items)) (item_is item)
    ∙ ap (λ t. node_keys item.node ++ t) (items_are items)

pub keys_and : (items : List Item) → node_keys (nodes.And items) ≡ flat_map (λ (item : Item). node_keys item.node) items
unfolding node_keys
keys_and items = ap node_keys (sym (rolls-And items)) ∙ fold-roll-Node (List Key) (List Key) keys_step item_step (Node-F.And items) ∙ items_are items

pub keys_word : (key : Key) → node_keys (nodes.Word key) ≡ key ∷ []
unfolding node_keys
keys_word key = ap node_keys (sym (rolls-Word key)) ∙ fold-roll-Node (List Key) (List Key) keys_step item_step (Node-F.Word key)

pub keys_quoted : (keys : List Key) (how : How) → node_keys (nodes.Quoted keys how) ≡ keys
unfolding node_keys
keys_quoted keys how = ap node_keys (sym (rolls-Quoted keys how)) ∙ fold-roll-Node (List Key) (List Key) keys_step item_step (Node-F.Quoted keys how)

pub keys_or : (a b : Node) → node_keys (nodes.Or a b) ≡ node_keys a ++ node_keys b
unfolding node_keys
keys_or a b = ap node_keys (sym (rolls-Or a b)) ∙ fold-roll-Node (List Key) (List Key) keys_step item_step (Node-F.Or a b)

pub keys_maybe : (a b : Node) → node_keys (nodes.Maybe a b) ≡ node_keys a ++ node_keys b
unfolding node_keys
keys_maybe a b = ap node_keys (sym (rolls-Maybe a b)) ∙ fold-roll-Node (List Key) (List Key) keys_step item_step (Node-F.Maybe a b)

pub keys_before : (a b : Node) → node_keys (nodes.Before a b) ≡ node_keys a ++ node_keys b
unfolding node_keys
keys_before a b = ap node_keys (sym (rolls-Before a b)) ∙ fold-roll-Node (List Key) (List Key) keys_step item_step (Node-F.Before a b)

pub keys_near : (n : ℕ) (a b : Node) → node_keys (nodes.Near n a b) ≡ node_keys a ++ node_keys b
unfolding node_keys
keys_near n a b = ap node_keys (sym (rolls-Near n a b)) ∙ fold-roll-Node (List Key) (List Key) keys_step item_step (Node-F.Near n a b)

pub keys_sentence : (a b : Node) → node_keys (nodes.Sentence a b) ≡ node_keys a ++ node_keys b
unfolding node_keys
keys_sentence a b = ap node_keys (sym (rolls-Sentence a b)) ∙ fold-roll-Node (List Key) (List Key) keys_step item_step (Node-F.Sentence a b)

pub keys_paragraph : (a b : Node) → node_keys (nodes.Paragraph a b) ≡ node_keys a ++ node_keys b
unfolding node_keys
keys_paragraph a b = ap node_keys (sym (rolls-Paragraph a b)) ∙ fold-roll-Node (List Key) (List Key) keys_step item_step (Node-F.Paragraph a b)

pub keys_span : (zones : List ℕ) (a : Node) → node_keys (nodes.ZoneSpan zones a) ≡ node_keys a
unfolding node_keys
keys_span zones a = ap node_keys (sym (rolls-ZoneSpan zones a)) ∙ fold-roll-Node (List Key) (List Key) keys_step item_step (Node-F.ZoneSpan zones a)
