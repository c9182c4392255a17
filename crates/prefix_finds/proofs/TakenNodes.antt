-- What a node with prefixes finds, by the kinds of nodes.
use Rattle.std.proofs.Common.{◌≡◌, refl, sym, ap, ◌∙◌, ℕ, List, [], ◌∷◌, ◌++◌}
use Rattle.std.specs.Prelude.{map}
use Rattle.std.specs.List.{flat_map}
use Rattle.doc_types.specs.declared.documents.DocRow.{DocRow}
use Rattle.query_tree.specs.declared.key.Key.{Key}
use Rattle.query_tree.specs.declared.key.How.{How}
use Rattle.query_tree.specs.declared.query.Item.{Item}
use Rattle.query_tree.specs.declared.query.Node.{Node}
use Rattle.query_tree.specs.declared.query.Node.TheVariants as nodes
use Rattle.query_tree.specs.declared.query.Node.TheOpen.{Node-F}
use Rattle.query_tree.specs.declared.query.Node.TheVariants.{rolls-Word, rolls-Quoted, rolls-And, rolls-Or, rolls-Maybe, rolls-Before, rolls-Near, rolls-Sentence, rolls-Paragraph, rolls-ZoneSpan}
use Rattle.query_tree.specs.declared.query.Node.TheFolds.{fold-Item, fold-roll-Node, fold_out-Item}
use Rattle.occ_lists.specs.Joined.{before, near, together}
use Rattle.word_rows.specs.Keywords.{places_within, sentence_ends, paragraph_ends, Spans}
use Rattle.op_eval.specs.Finding.{Found, Part, SpannedPart, quoted, hits_at, all_of, either, perhaps, joined, any_of, spans_in}
use Rattle.op_eval.specs.Finding as finding
use Rattle.prefix_finds.specs.Taken.{found_as, node_takes, taken_in, taking_step}

-- an item of an AND, within spans
abbrev pub taken_within : DocRow → (List ℕ → ℕ) → Spans → Item → Part
taken_within row number spans item = record { negated = item.negated; found = node_takes row number item.node spans }

-- the item, before it is told which spans are in force
abbrev spanned : DocRow → (List ℕ → ℕ) → Item → SpannedPart
spanned row number item = record { negated = item.negated; found = node_takes row number item.node }

module _ (row : DocRow) (number : List ℕ → ℕ) where
  item_is : (item : Item) → fold-Item (Spans → Found) SpannedPart (taking_step row number) finding.item_step item ≡ spanned row number item
  unfolding node_takes
  item_is = fold_out-Item (Spans → Found) SpannedPart (taking_step row number) finding.item_step

  items_are : (spans : Spans) (items : List Item) → map (λ (item : SpannedPart). record { negated = item.negated; found = item.found spans }) (map (fold-Item (Spans → Found) SpannedPart (taking_step row number) finding.item_step) items) ≡ map (taken_within row number spans) items
  items_are spans [] = refl
  items_are spans (item ∷ items) =
      ap (λ (part : SpannedPart). record { negated = part.negated; found = part.found spans } ∷ map (λ (i : SpannedPart). record { negated = i.negated; found = i.found spans }) (map (fold-Item (Spans → Found) SpannedPart (taking_step row number) finding.item_step) items)) (item_is item)
      ∙ ap (λ parts. taken_within row number spans item ∷ parts) (items_are spans items)

  pub takes_word : (key : Key) (spans : Spans) → node_takes row number (nodes.Word key) spans ≡ any_of (map (found_as row number key spans) (taken_in row key))
  unfolding node_takes
  takes_word key spans =
      ap (λ (node : Node). node_takes row number node spans) (sym (rolls-Word key))
      ∙ ap (λ (found : Spans → Found). found spans) (fold-roll-Node (Spans → Found) SpannedPart (taking_step row number) finding.item_step (Node-F.Word key))

  pub takes_quoted : (keys : List Key) (how : How) (spans : Spans) → node_takes row number (nodes.Quoted keys how) spans ≡ quoted number (places_within row spans) keys how (flat_map (λ (key : Key). hits_at number key (places_within row spans key)) keys)
  unfolding node_takes
  takes_quoted keys how spans =
      ap (λ (node : Node). node_takes row number node spans) (sym (rolls-Quoted keys how))
      ∙ ap (λ (found : Spans → Found). found spans) (fold-roll-Node (Spans → Found) SpannedPart (taking_step row number) finding.item_step (Node-F.Quoted keys how))

  pub takes_and : (items : List Item) (spans : Spans) → node_takes row number (nodes.And items) spans ≡ all_of (map (taken_within row number spans) items)
  unfolding node_takes
  takes_and items spans =
      ap (λ (node : Node). node_takes row number node spans) (sym (rolls-And items))
      ∙ ap (λ (found : Spans → Found). found spans) (fold-roll-Node (Spans → Found) SpannedPart (taking_step row number) finding.item_step (Node-F.And items))
      ∙ ap all_of (items_are spans items)

  pub takes_or : (a b : Node) (spans : Spans) → node_takes row number (nodes.Or a b) spans ≡ either (node_takes row number a spans) (node_takes row number b spans)
  unfolding node_takes
  takes_or a b spans =
      ap (λ (node : Node). node_takes row number node spans) (sym (rolls-Or a b))
      ∙ ap (λ (found : Spans → Found). found spans) (fold-roll-Node (Spans → Found) SpannedPart (taking_step row number) finding.item_step (Node-F.Or a b))

  pub takes_maybe : (a b : Node) (spans : Spans) → node_takes row number (nodes.Maybe a b) spans ≡ perhaps (node_takes row number a spans) (node_takes row number b spans)
  unfolding node_takes
  takes_maybe a b spans =
      ap (λ (node : Node). node_takes row number node spans) (sym (rolls-Maybe a b))
      ∙ ap (λ (found : Spans → Found). found spans) (fold-roll-Node (Spans → Found) SpannedPart (taking_step row number) finding.item_step (Node-F.Maybe a b))

  pub takes_before : (a b : Node) (spans : Spans) → node_takes row number (nodes.Before a b) spans ≡ joined before (node_takes row number a spans) (node_takes row number b spans)
  unfolding node_takes
  takes_before a b spans =
      ap (λ (node : Node). node_takes row number node spans) (sym (rolls-Before a b))
      ∙ ap (λ (found : Spans → Found). found spans) (fold-roll-Node (Spans → Found) SpannedPart (taking_step row number) finding.item_step (Node-F.Before a b))

  pub takes_near : (n : ℕ) (a b : Node) (spans : Spans) → node_takes row number (nodes.Near n a b) spans ≡ joined (near n) (node_takes row number a spans) (node_takes row number b spans)
  unfolding node_takes
  takes_near n a b spans =
      ap (λ (node : Node). node_takes row number node spans) (sym (rolls-Near n a b))
      ∙ ap (λ (found : Spans → Found). found spans) (fold-roll-Node (Spans → Found) SpannedPart (taking_step row number) finding.item_step (Node-F.Near n a b))

  pub takes_sentence : (a b : Node) (spans : Spans) → node_takes row number (nodes.Sentence a b) spans ≡ joined (together (sentence_ends row)) (node_takes row number a spans) (node_takes row number b spans)
  unfolding node_takes
  takes_sentence a b spans =
      ap (λ (node : Node). node_takes row number node spans) (sym (rolls-Sentence a b))
      ∙ ap (λ (found : Spans → Found). found spans) (fold-roll-Node (Spans → Found) SpannedPart (taking_step row number) finding.item_step (Node-F.Sentence a b))

  pub takes_paragraph : (a b : Node) (spans : Spans) → node_takes row number (nodes.Paragraph a b) spans ≡ joined (together (paragraph_ends row)) (node_takes row number a spans) (node_takes row number b spans)
  unfolding node_takes
  takes_paragraph a b spans =
      ap (λ (node : Node). node_takes row number node spans) (sym (rolls-Paragraph a b))
      ∙ ap (λ (found : Spans → Found). found spans) (fold-roll-Node (Spans → Found) SpannedPart (taking_step row number) finding.item_step (Node-F.Paragraph a b))

  pub takes_span : (zones : List ℕ) (a : Node) (spans : Spans) → node_takes row number (nodes.ZoneSpan zones a) spans ≡ any_of (map (λ span. node_takes row number a (spans ++ span ∷ [])) (spans_in row zones))
  unfolding node_takes
  takes_span zones a spans =
      ap (λ (node : Node). node_takes row number node spans) (sym (rolls-ZoneSpan zones a))
      ∙ ap (λ (found : Spans → Found). found spans) (fold-roll-Node (Spans → Found) SpannedPart (taking_step row number) finding.item_step (Node-F.ZoneSpan zones a))
