-- The parts of a written query, by the kinds of nodes.
use Rattle.std.proofs.Common.{◌≡◌, refl, sym, ap, ◌∙◌, ℕ, List, [], ◌∷◌, ◌++◌}
use Rattle.std.specs.Prelude.{Some, map}
use Rattle.std.specs.List.{flat_map}
use Rattle.query_tree.specs.declared.key.Key.{Key}
use Rattle.query_tree.specs.declared.key.How.{How}
use Rattle.query_tree.specs.declared.query.Item.{Item}
use Rattle.query_tree.specs.declared.query.Node.{Node}
use Rattle.query_tree.specs.declared.query.Node.TheVariants as nodes
use Rattle.query_tree.specs.declared.query.Node.TheOpen.{Node-F}
use Rattle.query_tree.specs.declared.query.Node.TheVariants.{rolls-Word, rolls-Quoted, rolls-And, rolls-Or, rolls-Maybe, rolls-Before, rolls-Near, rolls-Sentence, rolls-Paragraph, rolls-ZoneSpan}
use Rattle.query_tree.specs.declared.query.Node.TheFolds.{fold-Item, fold-roll-Node, fold_out-Item}
use Rattle.query_write.specs.Written.{WrittenToken, Part, Single, Choice, Order, Sentences, Paragraphs, and_tokens, span_tokens, part, part_of, node_step, item_step, item_tokens, joined, left, whole, is_choice, is_order, first_limit}

module _ (names : List (List ℕ)) where
  pub item_is : (item : Item) → fold-Item Part (List WrittenToken) (node_step names) (item_step names) item ≡ item_tokens names item
  unfolding part_of
  item_is = fold_out-Item Part (List WrittenToken) (node_step names) (item_step names)

  pub items_are : (items : List Item) → flat_map (λ item. item) (map (fold-Item Part (List WrittenToken) (node_step names) (item_step names)) items) ≡ flat_map (item_tokens names) items
  items_are [] = refl
  items_are (item ∷ items) = ap (λ t. t ++ flat_map (λ i. i) (map (fold-Item Part (List WrittenToken) (node_step names) (item_step names)) items)) (item_is item) ∙ ap (λ t. item_tokens names item ++ t) (items_are items)

  pub part_word : (key : Key) → part_of names (nodes.Word key) ≡ record { line = Single; limit = Some key.limit; tokens = WrittenToken.Word key ∷ [] }
  unfolding part_of
  part_word key = ap (part_of names) (sym (rolls-Word key)) ∙ fold-roll-Node Part (List WrittenToken) (node_step names) (item_step names) (Node-F.Word key)

  pub part_quoted : (keys : List Key) (how : How) → part_of names (nodes.Quoted keys how) ≡ record { line = Single; limit = first_limit keys; tokens = WrittenToken.Quoted keys how ∷ [] }
  unfolding part_of
  part_quoted keys how = ap (part_of names) (sym (rolls-Quoted keys how)) ∙ fold-roll-Node Part (List WrittenToken) (node_step names) (item_step names) (Node-F.Quoted keys how)

  pub part_and : (items : List Item) → part_of names (nodes.And items) ≡ part Single (and_tokens (flat_map (item_tokens names) items))
  unfolding part_of
  part_and items =
      ap (part_of names) (sym (rolls-And items)) ∙ fold-roll-Node Part (List WrittenToken) (node_step names) (item_step names) (Node-F.And items)
      ∙ ap (λ t. part Single (and_tokens t)) (items_are items)

  pub part_or : (a b : Node) → part_of names (nodes.Or a b) ≡ part Choice (joined (left names is_choice (part_of names a)) WrittenToken.Or (whole names (part_of names b)))
  unfolding part_of
  part_or a b = ap (part_of names) (sym (rolls-Or a b)) ∙ fold-roll-Node Part (List WrittenToken) (node_step names) (item_step names) (Node-F.Or a b)

  pub part_maybe : (a b : Node) → part_of names (nodes.Maybe a b) ≡ part Choice (joined (left names is_choice (part_of names a)) WrittenToken.Maybe (whole names (part_of names b)))
  unfolding part_of
  part_maybe a b = ap (part_of names) (sym (rolls-Maybe a b)) ∙ fold-roll-Node Part (List WrittenToken) (node_step names) (item_step names) (Node-F.Maybe a b)

  pub part_before : (a b : Node) → part_of names (nodes.Before a b) ≡ part Order (joined (left names is_order (part_of names a)) WrittenToken.Before (whole names (part_of names b)))
  unfolding part_of
  part_before a b = ap (part_of names) (sym (rolls-Before a b)) ∙ fold-roll-Node Part (List WrittenToken) (node_step names) (item_step names) (Node-F.Before a b)

  pub part_near : (n : ℕ) (a b : Node) → part_of names (nodes.Near n a b) ≡ part Order (joined (left names is_order (part_of names a)) (WrittenToken.Near n) (whole names (part_of names b)))
  unfolding part_of
  part_near n a b = ap (part_of names) (sym (rolls-Near n a b)) ∙ fold-roll-Node Part (List WrittenToken) (node_step names) (item_step names) (Node-F.Near n a b)

  pub part_sentence : (a b : Node) → part_of names (nodes.Sentence a b) ≡ record { line = Sentences; limit = (part_of names a).limit; tokens = joined (part_of names a).tokens WrittenToken.Sentence (part_of names b).tokens }
  unfolding part_of
  part_sentence a b = ap (part_of names) (sym (rolls-Sentence a b)) ∙ fold-roll-Node Part (List WrittenToken) (node_step names) (item_step names) (Node-F.Sentence a b)

  pub part_paragraph : (a b : Node) → part_of names (nodes.Paragraph a b) ≡ record { line = Paragraphs; limit = (part_of names a).limit; tokens = joined (part_of names a).tokens WrittenToken.Paragraph (part_of names b).tokens }
  unfolding part_of
  part_paragraph a b = ap (part_of names) (sym (rolls-Paragraph a b)) ∙ fold-roll-Node Part (List WrittenToken) (node_step names) (item_step names) (Node-F.Paragraph a b)

  pub part_span : (zones : List ℕ) (a : Node) → part_of names (nodes.ZoneSpan zones a) ≡ part Single (span_tokens zones (whole names (part_of names a)))
  unfolding part_of
  part_span zones a = ap (part_of names) (sym (rolls-ZoneSpan zones a)) ∙ fold-roll-Node Part (List WrittenToken) (node_step names) (item_step names) (Node-F.ZoneSpan zones a)
