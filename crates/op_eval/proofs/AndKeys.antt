-- AND in the place of SENTENCE and PARAGRAPH keeps a query's keywords.
use Rattle.std.proofs.Common.{◌≡◌, refl, sym, ap, ◌∙◌, subst, List, [], ◌∷◌, ◌++◌, map}
use Rattle.std.specs.List.{flat_map}
use Rattle.std.proofs.lemmas.List.{append-nil}
use Rattle.query_tree.specs.declared.key.Key.{Key}
use Rattle.query_tree.specs.declared.query.Item.{Item}
use Rattle.query_tree.specs.declared.query.Node.{Node}
use Rattle.query_tree.specs.declared.query.Node.TheOpen.{Node-F}
use Rattle.query_tree.specs.declared.query.Node.TheVariants.{rolls-Word, rolls-Quoted, rolls-And, rolls-Or, rolls-Maybe, rolls-Before, rolls-Near, rolls-Sentence, rolls-Paragraph, rolls-ZoneSpan}
use Rattle.query_tree.specs.declared.query.Node.TheViews.{roll-Node}
use Rattle.query_tree.specs.declared.query.Node.TheFolds.{map-Node, ind-Node}
use Rattle.query_tree.specs.TreeKeys.{node_keys}
use Rattle.query_tree.proofs.NodeKeys.{keys_and, keys_or, keys_maybe, keys_before, keys_near, keys_sentence, keys_paragraph, keys_span}
use Rattle.op_eval.specs.Sentences.{both, joined_by_and, item_joined_by_and}
use Rattle.op_eval.proofs.AndNodes.{of_word, of_quoted, of_and, of_or, of_maybe, of_before, of_near, of_sentence, of_paragraph, of_zonespan}

-- the keywords stay
abbrev pub KeepsKeys : Node → Type 0
KeepsKeys node = node_keys (joined_by_and node) ≡ node_keys node

abbrev keys_of_two : Node → Node → List Key
keys_of_two a b = node_keys a ++ node_keys b

two_keep : (a b : Node) → KeepsKeys a → KeepsKeys b → keys_of_two (joined_by_and a) (joined_by_and b) ≡ keys_of_two a b
two_keep a b keep_a keep_b = ap (λ t. t ++ node_keys (joined_by_and b)) keep_a ∙ ap (λ t. node_keys a ++ t) keep_b

-- a node that stands for another and has the keywords of two, as that one has
kept : (node made a b : Node) → joined_by_and node ≡ made → node_keys made ≡ keys_of_two (joined_by_and a) (joined_by_and b) → node_keys node ≡ keys_of_two a b → KeepsKeys a → KeepsKeys b → KeepsKeys node
kept node made a b is made_keys keys keep_a keep_b = ap node_keys is ∙ made_keys ∙ two_keep a b keep_a keep_b ∙ sym keys

both_keys : (a b : Node) → node_keys (both a b) ≡ keys_of_two a b
both_keys a b = keys_and _ ∙ ap (λ t. node_keys a ++ t) (append-nil (node_keys b))

items_keep : (items : List ((i : Item) × KeepsKeys i.node)) → flat_map (λ (i : Item). node_keys i.node) (map item_joined_by_and (map (λ e. e.0) items)) ≡ flat_map (λ (i : Item). node_keys i.node) (map (λ e. e.0) items)
items_keep [] = refl
items_keep (item ∷ items) =
    ap (λ t. t ++ flat_map (λ (i : Item). node_keys i.node) (map item_joined_by_and (map (λ e. e.0) items))) item.1
    ∙ ap (λ t. node_keys item.0.node ++ t) (items_keep items)

layer_keeps : (y : Node-F ((n : Node) × KeepsKeys n) ((i : Item) × KeepsKeys i.node)) → KeepsKeys (roll-Node (map-Node _ _ _ _ (λ e. e.0) (λ e. e.0) y))
layer_keeps (Node-F.Word key) = subst KeepsKeys (sym (rolls-Word key)) (ap node_keys (of_word key))
layer_keeps (Node-F.Quoted keys how) = subst KeepsKeys (sym (rolls-Quoted keys how)) (ap node_keys (of_quoted keys how))
layer_keeps (Node-F.And items) = subst KeepsKeys (sym (rolls-And _)) (ap node_keys (of_and _) ∙ keys_and _ ∙ items_keep items ∙ sym (keys_and _))
layer_keeps (Node-F.Or a b) = subst KeepsKeys (sym (rolls-Or a.0 b.0)) (kept _ _ a.0 b.0 (of_or a.0 b.0) (keys_or _ _) (keys_or _ _) a.1 b.1)
layer_keeps (Node-F.Maybe a b) = subst KeepsKeys (sym (rolls-Maybe a.0 b.0)) (kept _ _ a.0 b.0 (of_maybe a.0 b.0) (keys_maybe _ _) (keys_maybe _ _) a.1 b.1)
layer_keeps (Node-F.Before a b) = subst KeepsKeys (sym (rolls-Before a.0 b.0)) (kept _ _ a.0 b.0 (of_before a.0 b.0) (keys_before _ _) (keys_before _ _) a.1 b.1)
layer_keeps (Node-F.Near n a b) = subst KeepsKeys (sym (rolls-Near n a.0 b.0)) (kept _ _ a.0 b.0 (of_near n a.0 b.0) (keys_near n _ _) (keys_near n _ _) a.1 b.1)
layer_keeps (Node-F.Sentence a b) = subst KeepsKeys (sym (rolls-Sentence a.0 b.0)) (kept _ _ a.0 b.0 (of_sentence a.0 b.0) (both_keys _ _) (keys_sentence _ _) a.1 b.1)
layer_keeps (Node-F.Paragraph a b) = subst KeepsKeys (sym (rolls-Paragraph a.0 b.0)) (kept _ _ a.0 b.0 (of_paragraph a.0 b.0) (both_keys _ _) (keys_paragraph _ _) a.1 b.1)
layer_keeps (Node-F.ZoneSpan zones a) = subst KeepsKeys (sym (rolls-ZoneSpan zones a.0)) (ap node_keys (of_zonespan zones a.0) ∙ keys_span zones _ ∙ a.1 ∙ sym (keys_span zones _))

pub node_keeps : (node : Node) → KeepsKeys node
node_keeps = ind-Node KeepsKeys (λ i. KeepsKeys i.node) (λ x y is. subst (λ z. KeepsKeys (roll-Node z)) is (layer_keeps y)) (λ x y is. subst (λ z. KeepsKeys z.node) is y.node.1)
