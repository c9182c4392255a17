-- Spans are asked for where a keyword has a limit to zones.
use Rattle.std.proofs.Common.{◌≡◌, refl, sym, ap, ◌∙◌, subst, inl, inr, Bool, true, false, List, [], ◌∷◌, ◌++◌, map}
use Rattle.std.specs.Prelude.{◌||◌}
use Rattle.std.specs.List.{list_any}
use Rattle.std.proofs.lemmas.Bool.{or_cases, or_left, or_right}
use Rattle.std.proofs.lemmas.List.Folds.{list_any-append}
use Rattle.query_tree.specs.declared.key.Key.{Key}
use Rattle.query_tree.specs.declared.query.Item.{Item}
use Rattle.query_tree.specs.declared.query.Node.{Node}
use Rattle.query_tree.specs.declared.query.Node.TheVariants as nodes
use Rattle.query_tree.specs.declared.query.Node.TheOpen.{Node-F}
use Rattle.query_tree.specs.declared.query.Node.TheVariants.{rolls-Word, rolls-Quoted, rolls-And, rolls-Or, rolls-Maybe, rolls-Before, rolls-Near, rolls-Sentence, rolls-Paragraph, rolls-ZoneSpan}
use Rattle.query_tree.specs.declared.query.Node.TheViews.{roll-Node}
use Rattle.query_tree.specs.declared.query.Node.TheFolds.{map-Node, ind-Node}
use Rattle.query_tree.specs.TreeKeys.{node_keys}
use Rattle.query_tree.proofs.NodeKeys.{keys_word, keys_quoted, keys_and, keys_or, keys_maybe, keys_before, keys_near, keys_sentence, keys_paragraph}
use Rattle.occ_lists.proofs.Members.{any_flat_map}
use Rattle.word_rows.specs.RowMarks.{asks_spans, has_zones}
use Rattle.word_rows.proofs.MarkedNodes.{zones_word, zones_quoted, zones_and, zones_or, zones_maybe, zones_before, zones_near, zones_sentence, zones_paragraph, zones_span}

abbrev zoned : List Key → Bool
zoned keys = list_any has_zones keys

abbrev Asks : Node → Type 0
Asks node = zoned (node_keys node) ≡ true → asks_spans node ≡ true

-- two nodes joined
of_two : (node a b : Node) → node_keys node ≡ node_keys a ++ node_keys b → asks_spans node ≡ (asks_spans a || asks_spans b) → Asks a → Asks b → Asks node
of_two node a b keys asks first second has =
    elim (or_cases (zoned (node_keys a)) (zoned (node_keys b)) (sym (ap zoned keys ∙ list_any-append has_zones (node_keys a) (node_keys b)) ∙ has)) [
      | inl there ↦ asks ∙ or_left (asks_spans a) (asks_spans b) (first there)
      | inr there ↦ asks ∙ or_right (asks_spans a) (asks_spans b) (second there)
    ]

some_item : (es : List ((i : Item) × Asks i.node)) → list_any (λ (i : Item). zoned (node_keys i.node)) (map (λ e. e.0) es) ≡ true → list_any (λ (i : Item). asks_spans i.node) (map (λ e. e.0) es) ≡ true
some_item [] has = has
some_item (e ∷ es) has =
    elim (or_cases (zoned (node_keys e.0.node)) (list_any (λ (i : Item). zoned (node_keys i.node)) (map (λ e. e.0) es)) has) [
      | inl here ↦ or_left (asks_spans e.0.node) (list_any (λ (i : Item). asks_spans i.node) (map (λ e. e.0) es)) (e.1 here)
      | inr later ↦ or_right (asks_spans e.0.node) (list_any (λ (i : Item). asks_spans i.node) (map (λ e. e.0) es)) (some_item es later)
    ]

of_items : (es : List ((i : Item) × Asks i.node)) → Asks (nodes.And (map (λ e. e.0) es))
of_items es has =
    zones_and (map (λ e. e.0) es)
    ∙ some_item es (sym (ap zoned (keys_and (map (λ e. e.0) es)) ∙ any_flat_map has_zones (λ (i : Item). node_keys i.node) (map (λ e. e.0) es)) ∙ has)

no_more : (b : Bool) → (b || false) ≡ b
no_more true = refl
no_more false = refl

-- a node, where its parts ask
layer : (y : Node-F ((n : Node) × Asks n) ((i : Item) × Asks i.node)) → Asks (roll-Node (map-Node _ _ _ _ (λ e. e.0) (λ e. e.0) y))
layer (Node-F.Word key) = subst Asks (sym (rolls-Word key)) (λ has. zones_word key ∙ sym (no_more (has_zones key)) ∙ sym (ap zoned (keys_word key)) ∙ has)
layer (Node-F.Quoted keys how) = subst Asks (sym (rolls-Quoted keys how)) (λ has. zones_quoted keys how ∙ sym (ap zoned (keys_quoted keys how)) ∙ has)
layer (Node-F.And items) = subst Asks (sym (rolls-And _)) (of_items items)
layer (Node-F.Or a b) = subst Asks (sym (rolls-Or a.0 b.0)) (of_two _ a.0 b.0 (keys_or a.0 b.0) (zones_or a.0 b.0) a.1 b.1)
layer (Node-F.Maybe a b) = subst Asks (sym (rolls-Maybe a.0 b.0)) (of_two _ a.0 b.0 (keys_maybe a.0 b.0) (zones_maybe a.0 b.0) a.1 b.1)
layer (Node-F.Before a b) = subst Asks (sym (rolls-Before a.0 b.0)) (of_two _ a.0 b.0 (keys_before a.0 b.0) (zones_before a.0 b.0) a.1 b.1)
layer (Node-F.Near n a b) = subst Asks (sym (rolls-Near n a.0 b.0)) (of_two _ a.0 b.0 (keys_near n a.0 b.0) (zones_near n a.0 b.0) a.1 b.1)
layer (Node-F.Sentence a b) = subst Asks (sym (rolls-Sentence a.0 b.0)) (of_two _ a.0 b.0 (keys_sentence a.0 b.0) (zones_sentence a.0 b.0) a.1 b.1)
layer (Node-F.Paragraph a b) = subst Asks (sym (rolls-Paragraph a.0 b.0)) (of_two _ a.0 b.0 (keys_paragraph a.0 b.0) (zones_paragraph a.0 b.0) a.1 b.1)
layer (Node-F.ZoneSpan zones a) = subst Asks (sym (rolls-ZoneSpan zones a.0)) (λ has. zones_span zones a.0)

pub zones_asked : (node : Node) → zoned (node_keys node) ≡ true → asks_spans node ≡ true
zones_asked = ind-Node Asks (λ i. Asks i.node) (λ x y is. subst (λ z. Asks (roll-Node z)) is (layer y)) (λ x y is. subst (λ z. Asks z.node) is y.node.1)
