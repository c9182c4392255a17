-- A node that doesn't match finds nothing.
use Rattle.std.proofs.Common.{◌≡◌, refl, sym, ap, ◌∙◌, subst, ℕ, Bool, true, false, cond, List, [], ◌∷◌, ◌++◌, map}
use Rattle.std.specs.Prelude.{◌||◌}
use Rattle.std.specs.List.{filter, list_all}
use Rattle.std.proofs.lemmas.Bool.{or_parts, true≢false}
use Rattle.doc_types.specs.declared.documents.DocRow.{DocRow}
use Rattle.doc_types.specs.declared.hits.Hit.{Hit}
use Rattle.query_tree.specs.declared.key.Key.{Key}
use Rattle.query_tree.specs.declared.key.How.{How}
use Rattle.query_tree.specs.declared.key.How.TheVariants as hows
use Rattle.query_tree.specs.declared.query.Item.{Item}
use Rattle.query_tree.specs.declared.query.Node.{Node}
use Rattle.query_tree.specs.declared.query.Node.TheVariants as nodes
use Rattle.query_tree.specs.declared.query.Node.TheOpen.{Node-F}
use Rattle.query_tree.specs.declared.query.Node.TheVariants.{rolls-Word, rolls-Quoted, rolls-And, rolls-Or, rolls-Maybe, rolls-Before, rolls-Near, rolls-Sentence, rolls-Paragraph, rolls-ZoneSpan}
use Rattle.query_tree.specs.declared.query.Node.TheViews.{roll-Node}
use Rattle.query_tree.specs.declared.query.Node.TheFolds.{map-Node, ind-Node}
use Rattle.occ_lists.specs.declared.occ.Occ.{Occ}
use Rattle.occ_lists.specs.Joined.{before, near, together}
use Rattle.word_rows.specs.Keywords.{places_within, sentence_ends, paragraph_ends, Spans}
use Rattle.op_eval.specs.Finding.{Found, Part, keyword, made, quoted, all_of, either, perhaps, joined, any_of, nothing, is_inside, passes, spans_in, node_finds}
use Rattle.op_eval.proofs.Nodes.{part_within, finds_word, finds_quoted, finds_and, finds_or, finds_maybe, finds_before, finds_near, finds_sentence, finds_paragraph, finds_span}

-- ---- what is found

-- where nothing matches there are no occurrences and no hits
abbrev pub IsSoundFound : Found → Type 0
IsSoundFound found = found.matches ≡ false → found ≡ nothing

word_sound : (number : List ℕ → ℕ) (key : Key) (places : List (ℕ × ℕ)) → IsSoundFound (keyword number key places)
word_sound number key [] e = refl
word_sound number key (p ∷ places) e = cc

inside_none : (hits : List Hit) → filter (is_inside []) hits ≡ []
inside_none [] = refl
inside_none (hit ∷ hits) = inside_none hits

made_sound : (occs : List Occ) (hits : List Hit) → IsSoundFound (made occs hits)
made_sound [] hits e = ap (λ (list : List Hit). record nothing { hits = list }) (inside_none hits)
made_sound (occ ∷ occs) hits e = cc

-- a choice that matches where it is made
guard_sound : (t : Bool) (found : Found) → (t ≡ true → found.matches ≡ true) → IsSoundFound (cond t found nothing)
guard_sound true found m e = absurd (true≢false (sym (m refl) ∙ e))
guard_sound false found m e = refl

quoted_sound : (number : List ℕ → ℕ) (places : Key → List (ℕ × ℕ)) (keys : List Key) (how : How) (hits : List Hit) → IsSoundFound (quoted number places keys how hits)
quoted_sound number places keys hows.Phrase hits = made_sound _ hits
quoted_sound number places keys (hows.Within n) hits = made_sound _ hits
quoted_sound number places keys (hows.AtLeast k) hits = guard_sound _ _ (λ m. refl)
quoted_sound number places keys (hows.Share digits decimals) hits = guard_sound _ _ (λ m. refl)

all_of_sound : (parts : List Part) → IsSoundFound (all_of parts)
all_of_sound parts = guard_sound (list_all passes parts) _ (λ m. refl)

either_sound : (a b : Found) → IsSoundFound a → IsSoundFound b → IsSoundFound (either a b)
either_sound a b sound_a sound_b e =
    let parts = or_parts a.matches b.matches e in
    ap (λ (found : Found). either found b) (sound_a parts.0) ∙ ap (either nothing) (sound_b parts.1)

joined_sound : (join : List Occ → List Occ → List Occ) (a b : Found) → IsSoundFound (joined join a b)
joined_sound join a b = made_sound (join a.occurrences b.occurrences) (a.hits ++ b.hits)

perhaps_sound : (a b : Found) → IsSoundFound (perhaps a b)
perhaps_sound a b = guard_sound a.matches (either a b) (λ m. ap (λ t. t || b.matches) m)

any_of_sound : {X : Type 0} (find : X → Found) → ((x : X) → IsSoundFound (find x)) → (xs : List X) → IsSoundFound (any_of (map find xs))
any_of_sound find each [] e = refl
any_of_sound find each (x ∷ xs) e = either_sound (find x) (any_of (map find xs)) (each x) (any_of_sound find each xs) e

-- ---- the tree

abbrev pub IsSound : DocRow → (List ℕ → ℕ) → Node → Type 0
IsSound row number node = (spans : Spans) → IsSoundFound (node_finds row number node spans)

module _ (row : DocRow) (number : List ℕ → ℕ) where
  sound_word : (key : Key) → IsSound row number (nodes.Word key)
  sound_word key spans = subst IsSoundFound (sym (finds_word row number key spans)) (word_sound number key (places_within row spans key))

  sound_quoted : (keys : List Key) (how : How) → IsSound row number (nodes.Quoted keys how)
  sound_quoted keys how spans = subst IsSoundFound (sym (finds_quoted row number keys how spans)) (quoted_sound number (places_within row spans) keys how _)

  sound_and : (items : List Item) → IsSound row number (nodes.And items)
  sound_and items spans = subst IsSoundFound (sym (finds_and row number items spans)) (all_of_sound (map (part_within row number spans) items))

  sound_or : (a b : Node) → IsSound row number a → IsSound row number b → IsSound row number (nodes.Or a b)
  sound_or a b sound_a sound_b spans =
      subst IsSoundFound (sym (finds_or row number a b spans)) (either_sound (node_finds row number a spans) (node_finds row number b spans) (sound_a spans) (sound_b spans))

  sound_maybe : (a b : Node) → IsSound row number (nodes.Maybe a b)
  sound_maybe a b spans = subst IsSoundFound (sym (finds_maybe row number a b spans)) (perhaps_sound (node_finds row number a spans) (node_finds row number b spans))

  -- a node that finds what its parts find, joined
  sound_joined : (node a b : Node) (join : List Occ → List Occ → List Occ)
      → ((spans : Spans) → node_finds row number node spans ≡ joined join (node_finds row number a spans) (node_finds row number b spans)) → IsSound row number node
  sound_joined node a b join is spans = subst IsSoundFound (sym (is spans)) (joined_sound join (node_finds row number a spans) (node_finds row number b spans))

  sound_span : (zones : List ℕ) (a : Node) → IsSound row number a → IsSound row number (nodes.ZoneSpan zones a)
  sound_span zones a sound_a spans =
      subst IsSoundFound (sym (finds_span row number zones a spans)) (any_of_sound (λ span. node_finds row number a (spans ++ span ∷ [])) (λ span. sound_a (spans ++ span ∷ [])) (spans_in row zones))

  -- a node, where its parts are sound
  layer_sound : (y : Node-F ((n : Node) × IsSound row number n) ((i : Item) × IsSound row number i.node)) → IsSound row number (roll-Node (map-Node _ _ _ _ (λ e. e.0) (λ e. e.0) y))
  layer_sound (Node-F.Word key) = subst (IsSound row number) (sym (rolls-Word key)) (sound_word key)
  layer_sound (Node-F.Quoted keys how) = subst (IsSound row number) (sym (rolls-Quoted keys how)) (sound_quoted keys how)
  layer_sound (Node-F.And items) = subst (IsSound row number) (sym (rolls-And _)) (sound_and _)
  layer_sound (Node-F.Or a b) = subst (IsSound row number) (sym (rolls-Or a.0 b.0)) (sound_or a.0 b.0 a.1 b.1)
  layer_sound (Node-F.Maybe a b) = subst (IsSound row number) (sym (rolls-Maybe a.0 b.0)) (sound_maybe a.0 b.0)
  layer_sound (Node-F.Before a b) = subst (IsSound row number) (sym (rolls-Before a.0 b.0)) (sound_joined _ a.0 b.0 before (finds_before row number a.0 b.0))
  layer_sound (Node-F.Near n a b) = subst (IsSound row number) (sym (rolls-Near n a.0 b.0)) (sound_joined _ a.0 b.0 (near n) (finds_near row number n a.0 b.0))
  layer_sound (Node-F.Sentence a b) = subst (IsSound row number) (sym (rolls-Sentence a.0 b.0)) (sound_joined _ a.0 b.0 (together (sentence_ends row)) (finds_sentence row number a.0 b.0))
  layer_sound (Node-F.Paragraph a b) = subst (IsSound row number) (sym (rolls-Paragraph a.0 b.0)) (sound_joined _ a.0 b.0 (together (paragraph_ends row)) (finds_paragraph row number a.0 b.0))
  layer_sound (Node-F.ZoneSpan zones a) = subst (IsSound row number) (sym (rolls-ZoneSpan zones a.0)) (sound_span zones a.0 a.1)

  pub sound : (node : Node) → IsSound row number node
  sound = ind-Node (IsSound row number) (λ i. IsSound row number i.node) (λ x y is. subst (λ z. IsSound row number (roll-Node z)) is (layer_sound y)) (λ x y is. subst (λ z. IsSound row number z.node) is y.node.1)
