-- A tree and the one without prefixes find the same in a row that lives.
use Rattle.std.proofs.Common.{◌≡◌, ◌≢◌, ℕ, ◌+◌, ◌<◌, List, [], ◌∷◌, ◌++◌, zero, suc, true, Option, Some, None, map, length, get_or, refl, sym, ap, subst, ◌∙◌, arith, All, AllPairs, Contains, length-append}
use Rattle.std.specs.List.{flat_map, list_any}
use Rattle.std.proofs.lemmas.List.{get_or-append-add, get_or_append_left}
use Rattle.std.proofs.lemmas.List.Elements.{All-contains, All-head}
use Rattle.std.proofs.lemmas.List.Folds.{list_any-from_Any}
use Rattle.doc_types.specs.declared.documents.DocRow.{DocRow}
use Rattle.doc_types.specs.Chunks.{has_word}
use Rattle.query_tree.specs.declared.key.Key.{Key}
use Rattle.query_tree.specs.declared.key.How.{How}
use Rattle.query_tree.specs.declared.query.Item.{Item}
use Rattle.query_tree.specs.declared.query.Node.{Node}
use Rattle.query_tree.specs.declared.query.Node.TheVariants as nodes
use Rattle.query_tree.specs.declared.query.Query.{Query}
use Rattle.query_tree.specs.TreeKeys.{node_keys, query_keys}
use Rattle.query_tree.specs.Taking.{begins_so, takes}
use Rattle.query_tree.proofs.NodeKeys.{keys_and, keys_before, keys_maybe, keys_near, keys_or, keys_paragraph, keys_sentence, keys_span, keys_word}
use Rattle.occ_lists.specs.Joined.{before, near, together}
use Rattle.word_rows.specs.Keywords.{Spans, paragraph_ends, sentence_ends}
use Rattle.op_eval.specs.Finding.{Found, Part, all_of, any_of, spans_in}
use Rattle.op_eval.specs.Finding as finding
use Rattle.op_eval.specs.Matching.{finds}
use Rattle.op_eval.proofs.Nodes.{finds_and, finds_before, finds_maybe, finds_near, finds_or, finds_paragraph, finds_quoted, finds_sentence, finds_span, finds_word, part_within}
use Rattle.prefix_terms.specs.Prefixes.{AreExpanded, AreRewritten, IsChoice, IsQueryFor, IsRewritten, IsRootRewritten, Lists, asked, lives, list_of, more_items, no_items, of_and, of_before, of_maybe, of_near, of_or, of_paragraph, of_prefix, of_quoted, of_sentence, of_span, of_word, whole, with_word}
use Rattle.prefix_finds.specs.Same.{FindTheSame, IsSame}
use Rattle.prefix_finds.specs.Taken.{found_as, node_takes, query_takes, taken_in, words_in}
use Rattle.prefix_finds.proofs.Alike.{AreAlike, alike_is, alike_itself, alike_through, and_alike, any_alike, before_keeps, either_alike, joined_alike, near_keeps, perhaps_alike, together_keeps}
use Rattle.prefix_finds.proofs.Leaves.{by_words, choice_alike, has_it, plain_alike, quoted_same, words_alike}
use Rattle.prefix_finds.proofs.Listed.{HasWords, each_listed}
use Rattle.prefix_finds.proofs.TakenNodes.{taken_within, takes_and, takes_before, takes_maybe, takes_near, takes_or, takes_paragraph, takes_quoted, takes_sentence, takes_span, takes_word}

module _ (docs : List DocRow) (lists : Lists) (row : DocRow) (number : List ℕ → ℕ) (living : Contains docs row) (some : All (λ word. word ≢ []) (words_in row)) where
  abbrev HaveWords : List Key → Type 0
  HaveWords keys = All (HasWords docs lists) keys

  left : (xs ys : List Key) → HaveWords (xs ++ ys) → HaveWords xs
  left xs ys all k d low =
      let within : k < length (xs ++ ys) = let size = length-append xs ys in omega (arith, size, low) in
      subst (HasWords docs lists) (get_or_append_left xs ys d k low) (all k d within)

  right : (xs ys : List Key) → HaveWords (xs ++ ys) → HaveWords ys
  right xs ys all k d low =
      let within : length xs + k < length (xs ++ ys) = let size = length-append xs ys in omega (arith, size, low) in
      subst (HasWords docs lists) (get_or-append-add xs ys k d) (all (length xs + k) d within)

  abbrev Alike : Node → Node → Type 0
  Alike node other = (spans : Spans) → IsSame (node_takes row number node spans) (finding.node_finds row number other spans)

  -- ---- a prefix

  lives_here : (word : List ℕ) → Contains (words_in row) word → lives docs word ≡ true
  lives_here word in_it = list_any-from_Any (has_word word) docs (living.0, row, living.1, living.2, has_it row word in_it)

  prefix_alike : (key : Key) (choice : Node) → key.prefix ≡ true → HasWords docs lists key → IsChoice (map (with_word key) (asked (list_of key.query lists))) choice → Alike (nodes.Word key) choice
  prefix_alike key choice is has chosen spans =
      let words = list_of key.query lists in
      let are = has is in
      alike_through _ _ _ (alike_is _ _ (takes_word row number key spans))
      (alike_through _ _ _ (words_alike row number key spans (asked words) (λ word in_it met. found words (are.all word (sym (takes_so word) ∙ met) (lives_here word in_it))) (only words are.begin))
      (alike_through _ _ _ (alike_is _ _ (ap any_of (sym (by_words row number key spans (asked words))))) (choice_alike row number spans chosen)))
    where
      takes_so : (word : List ℕ) → takes key word ≡ begins_so word key.word
      takes_so word = rw is refl

      found : (own : List (List ℕ)) {word : List ℕ} → Contains own word → Contains (asked own) word
      found [] in_it = absurd (omega (arith, in_it.1))
      found (w ∷ ws) in_it = in_it

      only : (own : List (List ℕ)) → All (λ word. begins_so word key.word ≡ true) own → (word : List ℕ) → Contains (asked own) word → Contains (words_in row) word → takes key word ≡ true
      only [] begin word in_it in_row = absurd (nothing word in_it in_row)
        where
          nothing : (word : List ℕ) → Contains ([] ∷ []) word → Contains (words_in row) word → ⊥
          nothing word (zero, low, at) here = All-contains (λ word. word ≢ []) (words_in row) word some here (sym at)
          nothing word (suc n, low, at) here = omega (arith, low)
      only (w ∷ ws) begin word in_it in_row = takes_so word ∙ All-contains (λ word. begins_so word key.word ≡ true) (w ∷ ws) word begin in_it

  -- ---- two parts

  two_parts : (node a b : Node) → node_keys node ≡ node_keys a ++ node_keys b → HaveWords (node_keys node) → HaveWords (node_keys a) × HaveWords (node_keys b)
  two_parts node a b keys all =
      let own = subst HaveWords keys all in
      (left (node_keys a) (node_keys b) own, right (node_keys a) (node_keys b) own)

  mutual
    pub node_alike : {node other : Node} → IsRewritten lists node other → HaveWords (node_keys node) → Alike node other
    node_alike (of_word key plain) all spans =
        alike_through _ _ _ (alike_is _ _ (takes_word row number key spans)) (alike_through _ _ _ (plain_alike row number key spans plain) (alike_is _ _ (sym (finds_word row number key spans))))
    node_alike (of_prefix key choice is chosen) all spans = prefix_alike key choice is (All-head (HasWords docs lists) key [] (subst HaveWords (keys_word key) all)) chosen spans
    node_alike (of_quoted keys how) all spans = alike_is _ _ (takes_quoted row number keys how spans ∙ quoted_same row number spans keys how ∙ sym (finds_quoted row number (map whole keys) how spans))
    node_alike (of_and items others are) all spans =
        alike_through _ _ _ (alike_is _ _ (takes_and row number items spans))
        (alike_through _ _ _ (and_alike _ _ (items_alike are (subst HaveWords (keys_and items) all) spans)) (alike_is _ _ (sym (finds_and row number others spans))))
    node_alike (of_or a b c d one two) all spans =
        let parts = two_parts (nodes.Or a b) a b (keys_or a b) all in
        alike_through _ _ _ (alike_is _ _ (takes_or row number a b spans))
        (alike_through _ _ _ (either_alike _ _ _ _ (node_alike one parts.0 spans) (node_alike two parts.1 spans)) (alike_is _ _ (sym (finds_or row number c d spans))))
    node_alike (of_maybe a b c d one two) all spans =
        let parts = two_parts (nodes.Maybe a b) a b (keys_maybe a b) all in
        alike_through _ _ _ (alike_is _ _ (takes_maybe row number a b spans))
        (alike_through _ _ _ (perhaps_alike _ _ _ _ (node_alike one parts.0 spans) (node_alike two parts.1 spans)) (alike_is _ _ (sym (finds_maybe row number c d spans))))
    node_alike (of_before a b c d one two) all spans =
        let parts = two_parts (nodes.Before a b) a b (keys_before a b) all in
        alike_through _ _ _ (alike_is _ _ (takes_before row number a b spans))
        (alike_through _ _ _ (joined_alike before _ _ _ _ before_keeps (node_alike one parts.0 spans) (node_alike two parts.1 spans)) (alike_is _ _ (sym (finds_before row number c d spans))))
    node_alike (of_near n a b c d one two) all spans =
        let parts = two_parts (nodes.Near n a b) a b (keys_near n a b) all in
        alike_through _ _ _ (alike_is _ _ (takes_near row number n a b spans))
        (alike_through _ _ _ (joined_alike (near n) _ _ _ _ (near_keeps n) (node_alike one parts.0 spans) (node_alike two parts.1 spans)) (alike_is _ _ (sym (finds_near row number n c d spans))))
    node_alike (of_sentence a b c d one two) all spans =
        let parts = two_parts (nodes.Sentence a b) a b (keys_sentence a b) all in
        alike_through _ _ _ (alike_is _ _ (takes_sentence row number a b spans))
        (alike_through _ _ _ (joined_alike (together (sentence_ends row)) _ _ _ _ (together_keeps (sentence_ends row)) (node_alike one parts.0 spans) (node_alike two parts.1 spans)) (alike_is _ _ (sym (finds_sentence row number c d spans))))
    node_alike (of_paragraph a b c d one two) all spans =
        let parts = two_parts (nodes.Paragraph a b) a b (keys_paragraph a b) all in
        alike_through _ _ _ (alike_is _ _ (takes_paragraph row number a b spans))
        (alike_through _ _ _ (joined_alike (together (paragraph_ends row)) _ _ _ _ (together_keeps (paragraph_ends row)) (node_alike one parts.0 spans) (node_alike two parts.1 spans)) (alike_is _ _ (sym (finds_paragraph row number c d spans))))
    node_alike (of_span zones a c one) all spans =
        alike_through _ _ _ (alike_is _ _ (takes_span row number zones a spans))
        (alike_through _ _ _ (any_alike _ _ (λ span. node_alike one (subst HaveWords (keys_span zones a) all) (spans ++ span ∷ [])) (spans_in row zones)) (alike_is _ _ (sym (finds_span row number zones c spans))))

    items_alike : {items others : List Item} → AreRewritten lists items others → HaveWords (flat_map (λ (item : Item). node_keys item.node) items) → (spans : Spans) → AreAlike (map (taken_within row number spans) items) (map (part_within row number spans) others)
    items_alike no_items all spans = tt
    items_alike (more_items item other items others same one rest) all spans =
        let more = flat_map (λ (item : Item). node_keys item.node) items in
        (sym same, node_alike one (left (node_keys item.node) more all) spans, items_alike rest (right (node_keys item.node) more all) spans)

  root_alike : (root other : Option Node) → IsRootRewritten lists root other → ((node : Node) → root ≡ Some node → HaveWords (node_keys node)) → IsSame (query_takes root row number) (finds other row number)
  root_alike None None is have = alike_itself _
  root_alike (Some node) (Some other) is have = node_alike is (have node refl) []
  root_alike None (Some other) is have = absurd is
  root_alike (Some node) None is have = absurd is

pub find_the_same : FindTheSame
find_the_same docs query other lists row number are apart is living some =
    root_alike docs lists row number living some query.root other.root is.root (λ node root. subst (All (HasWords docs lists)) (of_root node root) (each_listed docs (query_keys query) lists apart are))
  where
    of_root : (node : Node) → query.root ≡ Some node → query_keys query ≡ node_keys node
    of_root node root = rw root refl
