-- A tree whose marks carry its keywords one after the other can be written.
use Rattle.std.proofs.Common.{◌≡◌, ℕ, List, [], ◌∷◌, ◌++◌, Bool, true, false, Option, inl, inr, refl, sym, subst}
use Rattle.token_grammar.specs.Values.{◌then◌, AreInRow}
use Rattle.doc_types.specs.declared.schema.Schema.{Schema}
use Rattle.query_tree.specs.declared.key.Limit.{Limit}
use Rattle.query_tree.specs.declared.key.How.TheVariants as hows
use Rattle.query_marks.specs.declared.mark.Mark.{Mark}
use Rattle.query_marks.specs.declared.mark.Sign.{Sign}
use Rattle.query_marks.specs.declared.mark.Sign.TheVariants as signs
use Rattle.query_tree.specs.declared.query.Item.{Item}
use Rattle.query_tree.specs.declared.query.Node.{Node}
use Rattle.query_tree.specs.declared.query.Node.TheVariants as nodes
use Rattle.query_grammar.specs.Grammar.{Is, IsLeaf, IsLoose, joined, AreJoined, IsJoin, IsChoice, chosen, IsAlt, IsItem}
use Rattle.query_write.specs.steps.Writable.{IsRightLimit, IsLeafOf, of_word, of_phrase, AreLeavesOf, one_leaf, more_leaves, IsWritable, AreWritable, of_leaf, of_loose, of_sentences, of_paragraphs, of_or, of_maybe, no_items, more_items}
use Rattle.query_write.specs.steps.Carried.{IsStep, Carries}

module _ (fold : ℕ → Option ℕ) (schema : Schema) where
  -- ---- marks in two rows
  pub carries_split : (n : ℕ) (here : Limit) (a b : List Mark) (m : ℕ) (there : Limit) → Carries fold schema n here (a ++ b) m there → (k : ℕ) × (mid : Limit) × Carries fold schema n here a k mid × Carries fold schema k mid b m there
  carries_split n here [] b m there c = (n, here, (refl, refl), c)
  carries_split n here (x ∷ a) b m there (k, mid, step, rest) =
      let parts = carries_split k mid a b m there rest in
      (parts.0, parts.1, (k, mid, step, parts.2), parts.3)

  pub carries_both : (n : ℕ) (here : Limit) (u a b : List Mark) (m : ℕ) (there : Limit) → u ≡ a ++ b → Carries fold schema n here u m there → (k : ℕ) × (mid : Limit) × Carries fold schema n here a k mid × Carries fold schema k mid b m there
  carries_both n here u a b m there e c = carries_split n here a b m there (subst (λ v. Carries fold schema n here v m there) e c)

  -- the limit stays one that can be written
  step_right : (n : ℕ) (here : Limit) (sign : Sign) (m : ℕ) (there : Limit) → IsRightLimit schema here → IsStep fold schema n here sign m there → IsRightLimit schema there
  step_right n here (signs.Bare key) m there right s = subst (IsRightLimit schema) (sym s.2) right
  step_right n here (signs.Phrase keys) m there right s = subst (IsRightLimit schema) (sym s.2) right
  step_right n here (signs.Loose keys how) m there right s = subst (IsRightLimit schema) (sym s.2) right
  step_right n here signs.Sentence m there right s = subst (IsRightLimit schema) (sym s.1) right
  step_right n here signs.Paragraph m there right s = subst (IsRightLimit schema) (sym s.1) right
  step_right n here (signs.Near distance) m there right s = s.1
  step_right n here (signs.Spans zones) m there right s = s.1
  step_right n here signs.Open m there right s = s.1
  step_right n here signs.Close m there right s = s.1
  step_right n here signs.Or m there right s = s.1
  step_right n here signs.Before m there right s = s.1
  step_right n here signs.Not m there right s = s.1
  step_right n here signs.Maybe m there right s = s.1
  step_right n here signs.Limits m there right s = s.1
  step_right n here signs.Relaxed m there right s = s.1
  step_right n here signs.Unclosed m there right s = s.1
  step_right n here signs.End m there right s = s.1

  pub carries_right : (n : ℕ) (here : Limit) (u : List Mark) (m : ℕ) (there : Limit) → IsRightLimit schema here → Carries fold schema n here u m there → IsRightLimit schema there
  carries_right n here [] m there right c = subst (IsRightLimit schema) (sym c.1) right
  carries_right n here (x ∷ u) m there right (k, mid, step, rest) = carries_right k mid u m there (step_right n here x.sign k mid right step) rest

  -- one mark
  pub one_step : (n : ℕ) (here : Limit) (sign : Sign) (u : List Mark) (m : ℕ) (there : Limit) → Is sign u → Carries fold schema n here u m there → IsStep fold schema n here sign m there
  one_step n here sign u m there (x, e, f) c = last (subst (λ v. Carries fold schema n here v m there) e c)
    where
      last : Carries fold schema n here (x ∷ []) m there → IsStep fold schema n here sign m there
      last (k, mid, step, (em, et)) = subst (λ t. IsStep fold schema n here sign m t) (sym et) (subst (λ j. IsStep fold schema n here sign j mid) (sym em) (subst (λ s. IsStep fold schema n here s k mid) f step))

  -- ---- leaves
  leaf_is : (n : ℕ) (here : Limit) (node : Node) (u : List Mark) (m : ℕ) (there : Limit) → IsLeaf node u → Carries fold schema n here u m there → IsLeafOf fold schema here n node m × (there ≡ here)
  leaf_is n here node u m there (inl (key, e, is)) c =
      let s = one_step n here (signs.Bare key) u m there is c in
      (subst (λ x. IsLeafOf fold schema here n x m) (sym e) (subst (λ j. IsLeafOf fold schema here n (nodes.Word key) j) (sym s.0) (of_word n key s.3 s.4 s.5)), s.2)
  leaf_is n here node u m there (inr (keys, e, is)) c =
      let s = one_step n here (signs.Phrase keys) u m there is c in
      (subst (λ x. IsLeafOf fold schema here n x m) (sym e) (subst (λ j. IsLeafOf fold schema here n (nodes.Quoted keys hows.Phrase) j) (sym s.0) (of_phrase n keys s.3 s.4)), s.2)

  loose_is : (n : ℕ) (here : Limit) (node : Node) (u : List Mark) (m : ℕ) (there : Limit) → IsRightLimit schema here → IsLoose node u → Carries fold schema n here u m there → IsWritable fold schema n node m
  loose_is n here node u m there right (keys, how, e, is) c =
      let s = one_step n here (signs.Loose keys how) u m there is c in
      subst (λ x. IsWritable fold schema n x m) (sym e) (subst (λ j. IsWritable fold schema n (nodes.Quoted keys how) j) (sym s.0) (of_loose n keys how here right s.3 s.4 s.5 s.6))

  -- leaves that are joined, the last of them told from the others
  pub record Chain (here : Limit) (join : Node → Node → Node) (n : ℕ) (node : Node) (m : ℕ) : Type 0 where
    pub front : Node
    pub before : ℕ
    pub leaf : Node
    pub is : node ≡ join front leaf
    pub leaves : AreLeavesOf fold schema here join n front before
    pub last : IsLeafOf fold schema here before leaf m

  module _ (sign : Sign) (join : Node → Node → Node) (keeps : (n : ℕ) (here : Limit) (m : ℕ) (there : Limit) → IsStep fold schema n here sign m there → (m ≡ n) × (there ≡ here)) where
    next_leaf : (k : ℕ) (here : Limit) (leaf : Node) (rest : List Node) (u : List Mark) (m : ℕ) (there : Limit) → AreInRow (λ leaf. Is sign then IsLeaf leaf) (leaf ∷ rest) u → Carries fold schema k here u m there
        → (j : ℕ) × (b : List Mark) × IsLeafOf fold schema here k leaf j × AreInRow (λ leaf. Is sign then IsLeaf leaf) rest b × Carries fold schema j here b m there
    next_leaf k here leaf rest u m there (a, b, e, (a1, b1, e1, operator, is), row) c =
        let parts = carries_both k here u a b m there e c in
        let inner = carries_both k here a a1 b1 parts.0 parts.1 e1 parts.2 in
        let stays = keeps k here inner.0 inner.1 (one_step k here sign a1 inner.0 inner.1 operator inner.2) in
        let next = leaf_is k here leaf b1 parts.0 parts.1 is (subst (λ j. Carries fold schema j here b1 parts.0 parts.1) stays.0 (subst (λ t. Carries fold schema inner.0 t b1 parts.0 parts.1) stays.1 inner.3)) in
        (parts.0, b, next.0, row, subst (λ t. Carries fold schema parts.0 t b m there) next.1 parts.3)

    chain : (n : ℕ) (here : Limit) (front : Node) (k : ℕ) (leaf : Node) (rest : List Node) (u : List Mark) (m : ℕ) (there : Limit) → AreLeavesOf fold schema here join n front k
        → AreInRow (λ leaf. Is sign then IsLeaf leaf) (leaf ∷ rest) u → Carries fold schema k here u m there → Chain here join n (joined join front (leaf ∷ rest)) m
    chain n here front k leaf [] u m there leaves row c =
        let next = next_leaf k here leaf [] u m there row c in
        let none = subst (λ v. Carries fold schema next.0 here v m there) next.3 next.4 in
        record { front = front; before = k; leaf = leaf; is = refl; leaves = leaves; last = subst (IsLeafOf fold schema here k leaf) (sym none.0) next.2 }
    chain n here front k leaf (other ∷ others) u m there leaves row c =
        let next = next_leaf k here leaf (other ∷ others) u m there row c in
        chain n here (join front leaf) next.0 other others next.1 m there (more_leaves n front k leaf next.0 leaves next.2) next.3 next.4

    chain_is : (n : ℕ) (here : Limit) (node : Node) (u : List Mark) (m : ℕ) (there : Limit) → AreJoined sign join node u → Carries fold schema n here u m there → Chain here join n node m
    chain_is n here node u m there (first, [], some, e, is) c = absurd (some refl)
    chain_is n here node u m there (first, leaf ∷ rest, some, e, (a, b, e1, is, row)) c =
        let parts = carries_both n here u a b m there e1 c in
        let begins = leaf_is n here first a parts.0 parts.1 is parts.2 in
        subst (λ x. Chain here join n x m) (sym e)
        (chain n here first parts.0 leaf rest b m there (one_leaf n first parts.0 begins.0) row (subst (λ t. Carries fold schema parts.0 t b m there) begins.1 parts.3))

  sentences_are : (n : ℕ) (here : Limit) (node : Node) (m : ℕ) → IsRightLimit schema here → Chain here nodes.Sentence n node m → IsWritable fold schema n node m
  sentences_are n here node m right h = subst (λ x. IsWritable fold schema n x m) (sym h.is) (of_sentences n h.front h.before h.leaf m here right h.leaves h.last)

  paragraphs_are : (n : ℕ) (here : Limit) (node : Node) (m : ℕ) → IsRightLimit schema here → Chain here nodes.Paragraph n node m → IsWritable fold schema n node m
  paragraphs_are n here node m right h = subst (λ x. IsWritable fold schema n x m) (sym h.is) (of_paragraphs n h.front h.before h.leaf m here right h.leaves h.last)

  -- ---- joins, choices, items
  -- the marks of a part make what can be written
  abbrev pub Makes : (Node → List Mark → Type 0) → Type 0
  Makes P = (n : ℕ) (here : Limit) (node : Node) (u : List Mark) (m : ℕ) (there : Limit) → IsRightLimit schema here → P node u → Carries fold schema n here u m there → IsWritable fold schema n node m

  module _ (G : Node → List Mark → Type 0) (group : Makes G) where
    join_makes : Makes (IsJoin G)
    join_makes n here node u m there right (inl leaf) c = of_leaf n node m here right (leaf_is n here node u m there leaf c).0
    join_makes n here node u m there right (inr (inl loose)) c = loose_is n here node u m there right loose c
    join_makes n here node u m there right (inr (inr (inl row))) c = sentences_are n here node m right (chain_is signs.Sentence nodes.Sentence (λ n here m there s. s) n here node u m there row c)
    join_makes n here node u m there right (inr (inr (inr (inl row)))) c = paragraphs_are n here node m right (chain_is signs.Paragraph nodes.Paragraph (λ n here m there s. s) n here node u m there row c)
    join_makes n here node u m there right (inr (inr (inr (inr is)))) c = group n here node u m there right is c

    choices_make : (n : ℕ) (first : Node) (k : ℕ) (here : Limit) (rest : List (Bool × Node)) (u : List Mark) (m : ℕ) (there : Limit) → IsWritable fold schema n first k → IsRightLimit schema here
        → AreInRow (IsChoice G) rest u → Carries fold schema k here u m there → IsWritable fold schema n (chosen first rest) m
    choices_make n first k here [] u m there is right none c = subst (IsWritable fold schema n first) (sym (subst (λ v. Carries fold schema k here v m there) none c).0) is
    choices_make n first k here ((true, node) ∷ rest) u m there is right (a, b, e, (a1, b1, e1, operator, join), row) c =
        let parts = carries_both k here u a b m there e c in
        let inner = carries_both k here a a1 b1 parts.0 parts.1 e1 parts.2 in
        let s = one_step k here signs.Or a1 inner.0 inner.1 operator inner.2 in
        let next = join_makes k inner.1 node b1 parts.0 parts.1 s.1 join (subst (λ j. Carries fold schema j inner.1 b1 parts.0 parts.1) s.0 inner.3) in
        choices_make n (nodes.Or first node) parts.0 parts.1 rest b m there (of_or n first k node parts.0 is next) (carries_right k here a parts.0 parts.1 right parts.2) row parts.3
    choices_make n first k here ((false, node) ∷ rest) u m there is right (a, b, e, (a1, b1, e1, operator, join), row) c =
        let parts = carries_both k here u a b m there e c in
        let inner = carries_both k here a a1 b1 parts.0 parts.1 e1 parts.2 in
        let s = one_step k here signs.Maybe a1 inner.0 inner.1 operator inner.2 in
        let next = join_makes k inner.1 node b1 parts.0 parts.1 s.1 join (subst (λ j. Carries fold schema j inner.1 b1 parts.0 parts.1) s.0 inner.3) in
        choices_make n (nodes.Maybe first node) parts.0 parts.1 rest b m there (of_maybe n first k node parts.0 is next) (carries_right k here a parts.0 parts.1 right parts.2) row parts.3

    alt_makes : Makes (IsAlt G)
    alt_makes n here node u m there right (first, rest, e, (a, b, e1, join, row)) c =
        let parts = carries_both n here u a b m there e1 c in
        subst (λ x. IsWritable fold schema n x m) (sym e)
        (choices_make n first parts.0 parts.1 rest b m there (join_makes n here first a parts.0 parts.1 right join parts.2) (carries_right n here a parts.0 parts.1 right parts.2) row parts.3)

    item_makes : (n : ℕ) (here : Limit) (item : Item) (u : List Mark) (m : ℕ) (there : Limit) → IsRightLimit schema here → IsItem G item u → Carries fold schema n here u m there → IsWritable fold schema n item.node m
    item_makes n here item u m there right (inl (negated, (a, b, e, sign, join))) c =
        let parts = carries_both n here u a b m there e c in
        let s = one_step n here signs.Not a parts.0 parts.1 sign parts.2 in
        join_makes n parts.1 item.node b m there s.1 join (subst (λ j. Carries fold schema j parts.1 b m there) s.0 parts.3)
    item_makes n here item u m there right (inr (plain, alt)) c = alt_makes n here item.node u m there right alt c

    pub items_make : (n : ℕ) (here : Limit) (items : List Item) (u : List Mark) (m : ℕ) (there : Limit) → IsRightLimit schema here → AreInRow (IsItem G) items u → Carries fold schema n here u m there → AreWritable fold schema n items m
    items_make n here [] u m there right none c = subst (AreWritable fold schema n []) (sym (subst (λ v. Carries fold schema n here v m there) none c).0) (no_items n)
    items_make n here (item ∷ items) u m there right (a, b, e, is, row) c =
        let parts = carries_both n here u a b m there e c in
        more_items n item parts.0 items m (item_makes n here item a parts.0 parts.1 right is parts.2) (items_make parts.0 parts.1 items b m there (carries_right n here a parts.0 parts.1 right parts.2) row parts.3)
