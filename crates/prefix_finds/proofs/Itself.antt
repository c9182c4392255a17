-- A query without prefixes is asked itself.
use Rattle.std.proofs.Common.{◌≡◌, ℕ, ◌+◌, ◌<◌, List, [], ◌∷◌, ◌++◌, Bool, true, false, Option, Some, None, length, map, get_or, refl, sym, ap, ap₂, subst, ◌∙◌, arith, All, length-append}
use Rattle.std.specs.List.{flat_map}
use Rattle.std.proofs.lemmas.List.{get_or-append-add, get_or_append_left}
use Rattle.std.proofs.lemmas.List.Elements.{All-head, All-tail}
use Rattle.query_tree.specs.declared.key.Key.{Key}
use Rattle.query_tree.specs.declared.key.How.{How}
use Rattle.query_tree.specs.declared.query.Item.{Item}
use Rattle.query_tree.specs.declared.query.Node.{Node}
use Rattle.query_tree.specs.declared.query.Node.TheVariants as nodes
use Rattle.query_tree.specs.declared.query.Node.TheOpen.{Node-F}
use Rattle.query_tree.specs.declared.query.Node.TheVariants.{rolls-Word, rolls-Quoted, rolls-And, rolls-Or, rolls-Maybe, rolls-Before, rolls-Near, rolls-Sentence, rolls-Paragraph, rolls-ZoneSpan}
use Rattle.query_tree.specs.declared.query.Node.TheViews.{roll-Node}
use Rattle.query_tree.specs.declared.query.Node.TheFolds.{map-Node, ind-Node}
use Rattle.query_tree.specs.declared.query.Query.{Query}
use Rattle.query_tree.specs.Taking.{HasNoPrefix}
use Rattle.query_tree.specs.TreeKeys.{node_keys, query_keys}
use Rattle.query_tree.proofs.NodeKeys.{keys_and, keys_before, keys_maybe, keys_near, keys_or, keys_paragraph, keys_quoted, keys_sentence, keys_span, keys_word}
use Rattle.prefix_terms.specs.Prefixes.{AreRewritten, IsQueryFor, IsRewritten, IsRootRewritten, Lists, more_items, no_items, of_and, of_before, of_maybe, of_near, of_or, of_paragraph, of_quoted, of_sentence, of_span, of_word, whole}

abbrev IsPlain : Key → Type 0
IsPlain key = key.prefix ≡ false

all_left : (xs ys : List Key) → All IsPlain (xs ++ ys) → All IsPlain xs
all_left xs ys all k d low =
    let within : k < length (xs ++ ys) = let size = length-append xs ys in omega (arith, size, low) in
    subst IsPlain (get_or_append_left xs ys d k low) (all k d within)

all_right : (xs ys : List Key) → All IsPlain (xs ++ ys) → All IsPlain ys
all_right xs ys all k d low =
    let within : length xs + k < length (xs ++ ys) = let size = length-append xs ys in omega (arith, size, low) in
    subst IsPlain (get_or-append-add xs ys k d) (all (length xs + k) d within)

-- plain keywords are whole words as they are
whole_itself : (keys : List Key) → All IsPlain keys → map whole keys ≡ keys
whole_itself [] all = refl
whole_itself (key ∷ keys) all =
    ap₂ ◌∷◌ (ap (λ (b : Bool). record key { prefix = b }) (sym (All-head IsPlain key keys all))) (whole_itself keys (All-tail IsPlain key keys all))

module _ (lists : Lists) where
  abbrev IsItself : Node → Type 0
  IsItself node = All IsPlain (node_keys node) → IsRewritten lists node node

  word_itself : (key : Key) → IsItself (nodes.Word key)
  word_itself key all = of_word key (All-head IsPlain key [] (subst (All IsPlain) (keys_word key) all))

  quoted_itself : (keys : List Key) (how : How) → IsItself (nodes.Quoted keys how)
  quoted_itself keys how all = subst (λ own. IsRewritten lists (nodes.Quoted keys how) (nodes.Quoted own how)) (whole_itself keys (subst (All IsPlain) (keys_quoted keys how) all)) (of_quoted keys how)

  items_itself : (items : List ((i : Item) × IsItself i.node)) → All IsPlain (flat_map (λ (item : Item). node_keys item.node) (map (λ i. i.0) items)) → AreRewritten lists (map (λ i. i.0) items) (map (λ i. i.0) items)
  items_itself [] all = no_items
  items_itself (item ∷ items) all =
      let more = flat_map (λ (i : Item). node_keys i.node) (map (λ i. i.0) items) in
      more_items item.0 item.0 (map (λ i. i.0) items) (map (λ i. i.0) items) refl (item.1 (all_left (node_keys item.0.node) more all)) (items_itself items (all_right (node_keys item.0.node) more all))

  -- a node over two others
  two_itself : (node a b : Node) → node_keys node ≡ node_keys a ++ node_keys b → (IsRewritten lists a a → IsRewritten lists b b → IsRewritten lists node node) → IsItself a → IsItself b → IsItself node
  two_itself node a b keys of one two all =
      let own = subst (All IsPlain) keys all in
      of (one (all_left (node_keys a) (node_keys b) own)) (two (all_right (node_keys a) (node_keys b) own))

  layer_itself : (y : Node-F ((n : Node) × IsItself n) ((i : Item) × IsItself i.node)) → IsItself (roll-Node (map-Node _ _ _ _ (λ e. e.0) (λ e. e.0) y))
  layer_itself (Node-F.Word key) = subst IsItself (sym (rolls-Word key)) (word_itself key)
  layer_itself (Node-F.Quoted keys how) = subst IsItself (sym (rolls-Quoted keys how)) (quoted_itself keys how)
  layer_itself (Node-F.And items) = subst IsItself (sym (rolls-And _)) (λ all. of_and _ _ (items_itself items (subst (All IsPlain) (keys_and _) all)))
  layer_itself (Node-F.Or a b) = subst IsItself (sym (rolls-Or a.0 b.0)) (two_itself _ a.0 b.0 (keys_or a.0 b.0) (of_or a.0 b.0 a.0 b.0) a.1 b.1)
  layer_itself (Node-F.Maybe a b) = subst IsItself (sym (rolls-Maybe a.0 b.0)) (two_itself _ a.0 b.0 (keys_maybe a.0 b.0) (of_maybe a.0 b.0 a.0 b.0) a.1 b.1)
  layer_itself (Node-F.Before a b) = subst IsItself (sym (rolls-Before a.0 b.0)) (two_itself _ a.0 b.0 (keys_before a.0 b.0) (of_before a.0 b.0 a.0 b.0) a.1 b.1)
  layer_itself (Node-F.Near n a b) = subst IsItself (sym (rolls-Near n a.0 b.0)) (two_itself _ a.0 b.0 (keys_near n a.0 b.0) (of_near n a.0 b.0 a.0 b.0) a.1 b.1)
  layer_itself (Node-F.Sentence a b) = subst IsItself (sym (rolls-Sentence a.0 b.0)) (two_itself _ a.0 b.0 (keys_sentence a.0 b.0) (of_sentence a.0 b.0 a.0 b.0) a.1 b.1)
  layer_itself (Node-F.Paragraph a b) = subst IsItself (sym (rolls-Paragraph a.0 b.0)) (two_itself _ a.0 b.0 (keys_paragraph a.0 b.0) (of_paragraph a.0 b.0 a.0 b.0) a.1 b.1)
  layer_itself (Node-F.ZoneSpan zones a) = subst IsItself (sym (rolls-ZoneSpan zones a.0)) (λ all. of_span zones a.0 a.0 (a.1 (subst (All IsPlain) (keys_span zones a.0) all)))

  node_itself : (node : Node) → IsItself node
  node_itself = ind-Node IsItself (λ i. IsItself i.node) (λ x y is. subst (λ z. IsItself (roll-Node z)) is (layer_itself y)) (λ x y is. subst (λ z. IsItself z.node) is y.node.1)

  root_itself : (root : Option Node) → ((node : Node) → root ≡ Some node → All IsPlain (node_keys node)) → IsRootRewritten lists root root
  root_itself None all = tt
  root_itself (Some node) all = node_itself node (all node refl)

  pub plain_itself : (query : Query) → HasNoPrefix query → IsQueryFor query lists query
  plain_itself query plain = record {
    root = root_itself query.root (λ node root. subst (All IsPlain) (of_root node root) plain);
    keywords = refl;
    plain = plain;
  }
    where
      of_root : (node : Node) → query.root ≡ Some node → query_keys query ≡ node_keys node
      of_root node root = rw root refl
