-- The keywords of a query that is asked in the place of another one.
use Rattle.std.proofs.Common.{◌≡◌, refl, sym, ap, ap₂, ◌∙◌, ℕ, Bool, true, false, cond, List, [], ◌∷◌, ◌++◌, Option, Some, None}
use Rattle.std.specs.Prelude.{map, unwrap_or}
use Rattle.std.specs.List.{flat_map, position}
use Rattle.std.specs.Str.{bytes_eq}
use Rattle.query_tree.specs.declared.key.Key.{Key}
use Rattle.query_tree.specs.declared.key.How.{How}
use Rattle.query_tree.specs.declared.query.Item.{Item}
use Rattle.query_tree.specs.declared.query.Node.{Node}
use Rattle.query_tree.specs.declared.query.Node.TheVariants as nodes
use Rattle.query_tree.specs.declared.query.Node.TheOpen.{Node-F}
use Rattle.query_tree.specs.declared.query.Node.TheVariants.{rolls-Word, rolls-Quoted, rolls-And, rolls-Or, rolls-Maybe, rolls-Before, rolls-Near, rolls-Sentence, rolls-Paragraph, rolls-ZoneSpan}
use Rattle.query_tree.specs.declared.query.Node.TheFolds.{fold-Item, fold-roll-Node, fold_out-Item}
use Rattle.query_tree.specs.declared.query.Query.{Query}
use Rattle.query_tree.specs.TreeKeys.{item_step, node_keys, query_keys}
use Rattle.query_tree.proofs.NodeKeys.{keys_and, keys_before, keys_maybe, keys_near, keys_or, keys_paragraph, keys_quoted, keys_sentence, keys_span, keys_word}
use Rattle.prefix_terms.specs.Prefixes.{AreRewritten, IsChoice, IsQueryFor, IsRewritten, IsRootRewritten, Lists, asked, list_of, more_items, no_items, of_and, of_before, of_halves, of_maybe, of_near, of_one, of_or, of_paragraph, of_prefix, of_quoted, of_sentence, of_span, of_word, whole, with_word}
use Rattle.word_rows.specs.Keywords.{first_uses}
use Rattle.op_eval.specs.Matching.{number_in}
use Rattle.prefix_finds.specs.Numbers.{asked_step, keys_asked, number_with, query_asked}

module _ (lists : Lists) where
  item_is : (item : Item) → fold-Item (List Key) (List Key) (asked_step lists) item_step item ≡ keys_asked lists item.node
  unfolding keys_asked
  item_is = fold_out-Item (List Key) (List Key) (asked_step lists) item_step

  items_are : (items : List Item) → flat_map (λ item. item) (map (fold-Item (List Key) (List Key) (asked_step lists) item_step) items) ≡ flat_map (λ (item : Item). keys_asked lists item.node) items
  items_are [] = refl
  items_are (item ∷ items) =
      ap (λ t. t ++ flat_map (λ i. i) (map (fold-Item (List Key) (List Key) (asked_step lists) item_step) items)) (item_is item)
      ∙ ap (λ t. keys_asked lists item.node ++ t) (items_are items)

  pub asked_and : (items : List Item) → keys_asked lists (nodes.And items) ≡ flat_map (λ (item : Item). keys_asked lists item.node) items
  unfolding keys_asked
  asked_and items = ap (keys_asked lists) (sym (rolls-And items)) ∙ fold-roll-Node (List Key) (List Key) (asked_step lists) item_step (Node-F.And items) ∙ items_are items

  pub asked_word : (key : Key) → keys_asked lists (nodes.Word key) ≡ cond key.prefix (map (with_word key) (asked (list_of key.query lists))) (key ∷ [])
  unfolding keys_asked
  asked_word key = ap (keys_asked lists) (sym (rolls-Word key)) ∙ fold-roll-Node (List Key) (List Key) (asked_step lists) item_step (Node-F.Word key)

  pub asked_quoted : (keys : List Key) (how : How) → keys_asked lists (nodes.Quoted keys how) ≡ map whole keys
  unfolding keys_asked
  asked_quoted keys how = ap (keys_asked lists) (sym (rolls-Quoted keys how)) ∙ fold-roll-Node (List Key) (List Key) (asked_step lists) item_step (Node-F.Quoted keys how)

  pub asked_or : (a b : Node) → keys_asked lists (nodes.Or a b) ≡ keys_asked lists a ++ keys_asked lists b
  unfolding keys_asked
  asked_or a b = ap (keys_asked lists) (sym (rolls-Or a b)) ∙ fold-roll-Node (List Key) (List Key) (asked_step lists) item_step (Node-F.Or a b)

  pub asked_maybe : (a b : Node) → keys_asked lists (nodes.Maybe a b) ≡ keys_asked lists a ++ keys_asked lists b
  unfolding keys_asked
  asked_maybe a b = ap (keys_asked lists) (sym (rolls-Maybe a b)) ∙ fold-roll-Node (List Key) (List Key) (asked_step lists) item_step (Node-F.Maybe a b)

  pub asked_before : (a b : Node) → keys_asked lists (nodes.Before a b) ≡ keys_asked lists a ++ keys_asked lists b
  unfolding keys_asked
  asked_before a b = ap (keys_asked lists) (sym (rolls-Before a b)) ∙ fold-roll-Node (List Key) (List Key) (asked_step lists) item_step (Node-F.Before a b)

  pub asked_near : (n : ℕ) (a b : Node) → keys_asked lists (nodes.Near n a b) ≡ keys_asked lists a ++ keys_asked lists b
  unfolding keys_asked
  asked_near n a b = ap (keys_asked lists) (sym (rolls-Near n a b)) ∙ fold-roll-Node (List Key) (List Key) (asked_step lists) item_step (Node-F.Near n a b)

  pub asked_sentence : (a b : Node) → keys_asked lists (nodes.Sentence a b) ≡ keys_asked lists a ++ keys_asked lists b
  unfolding keys_asked
  asked_sentence a b = ap (keys_asked lists) (sym (rolls-Sentence a b)) ∙ fold-roll-Node (List Key) (List Key) (asked_step lists) item_step (Node-F.Sentence a b)

  pub asked_paragraph : (a b : Node) → keys_asked lists (nodes.Paragraph a b) ≡ keys_asked lists a ++ keys_asked lists b
  unfolding keys_asked
  asked_paragraph a b = ap (keys_asked lists) (sym (rolls-Paragraph a b)) ∙ fold-roll-Node (List Key) (List Key) (asked_step lists) item_step (Node-F.Paragraph a b)

  pub asked_span : (zones : List ℕ) (a : Node) → keys_asked lists (nodes.ZoneSpan zones a) ≡ keys_asked lists a
  unfolding keys_asked
  asked_span zones a = ap (keys_asked lists) (sym (rolls-ZoneSpan zones a)) ∙ fold-roll-Node (List Key) (List Key) (asked_step lists) item_step (Node-F.ZoneSpan zones a)

  -- ---- the tree that is asked has these

  -- an OR has its keywords
  choice_keys : {keys : List Key} {node : Node} → IsChoice keys node → node_keys node ≡ keys
  choice_keys (of_one key) = keys_word key
  choice_keys (of_halves first second a b low high one two) = keys_or a b ∙ ap₂ ◌++◌ (choice_keys one) (choice_keys two)

  mutual
    pub node_asked : {node other : Node} → IsRewritten lists node other → node_keys other ≡ keys_asked lists node
    node_asked (of_word key plain) = keys_word key ∙ sym (asked_word key ∙ ap (λ b. cond b (map (with_word key) (asked (list_of key.query lists))) (key ∷ [])) plain)
    node_asked (of_prefix key choice is chosen) = choice_keys chosen ∙ sym (asked_word key ∙ ap (λ b. cond b (map (with_word key) (asked (list_of key.query lists))) (key ∷ [])) is)
    node_asked (of_quoted keys how) = keys_quoted (map whole keys) how ∙ sym (asked_quoted keys how)
    node_asked (of_and items others are) = keys_and others ∙ items_asked are ∙ sym (asked_and items)
    node_asked (of_or a b c d one two) = keys_or c d ∙ ap₂ ◌++◌ (node_asked one) (node_asked two) ∙ sym (asked_or a b)
    node_asked (of_maybe a b c d one two) = keys_maybe c d ∙ ap₂ ◌++◌ (node_asked one) (node_asked two) ∙ sym (asked_maybe a b)
    node_asked (of_before a b c d one two) = keys_before c d ∙ ap₂ ◌++◌ (node_asked one) (node_asked two) ∙ sym (asked_before a b)
    node_asked (of_near n a b c d one two) = keys_near n c d ∙ ap₂ ◌++◌ (node_asked one) (node_asked two) ∙ sym (asked_near n a b)
    node_asked (of_sentence a b c d one two) = keys_sentence c d ∙ ap₂ ◌++◌ (node_asked one) (node_asked two) ∙ sym (asked_sentence a b)
    node_asked (of_paragraph a b c d one two) = keys_paragraph c d ∙ ap₂ ◌++◌ (node_asked one) (node_asked two) ∙ sym (asked_paragraph a b)
    node_asked (of_span zones a c one) = keys_span zones c ∙ node_asked one ∙ sym (asked_span zones a)

    items_asked : {items others : List Item} → AreRewritten lists items others → flat_map (λ (item : Item). node_keys item.node) others ≡ flat_map (λ (item : Item). keys_asked lists item.node) items
    items_asked no_items = refl
    items_asked (more_items item other items others same one rest) = ap₂ ◌++◌ (node_asked one) (items_asked rest)

  abbrev keys_of_root : Option Node → List Key
  keys_of_root root = elim root [ None ↦ [] | Some node ↦ node_keys node ]

  abbrev asked_of_root : Option Node → List Key
  asked_of_root root = elim root [ None ↦ [] | Some node ↦ keys_asked lists node ]

  root_asked : (root other : Option Node) → IsRootRewritten lists root other → keys_of_root other ≡ asked_of_root root
  root_asked None None is = refl
  root_asked (Some node) (Some other) is = node_asked is
  root_asked None (Some other) is = absurd is
  root_asked (Some node) None is = absurd is

  pub keys_are_asked : (query other : Query) → IsQueryFor query lists other → query_keys other ≡ query_asked lists query
  keys_are_asked query other is = root_asked query.root other.root is.root

  -- so its words have these numbers
  pub numbers_are : (query other : Query) (word : List ℕ) → IsQueryFor query lists other → number_in other word ≡ number_with lists query word
  numbers_are query other word is = ap (λ (keys : List Key). unwrap_or (position (bytes_eq word) (first_uses (map (λ key. key.word) keys))) 0) (keys_are_asked query other is)
