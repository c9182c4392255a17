-- The tokens of a tree that can be written are right, and marks with their signs are the tree.
use Rattle.std.proofs.Common.{arith, ◌≡◌, ◌≤◌, ◌+◌, ℕ, List, true, false, Option, Some, None, inl, inr, refl, sym, subst, if◌then◌else◌}
use Rattle.token_grammar.specs.Values.{◌then◌}
use Rattle.doc_types.specs.declared.schema.Schema.{Schema}
use Rattle.query_marks.specs.declared.mark.Mark.{Mark}
use Rattle.query_marks.specs.declared.mark.Sign.{Sign}
use Rattle.query_marks.specs.declared.mark.Sign.TheVariants as signs
use Rattle.query_tree.specs.declared.query.Item.{Item}
use Rattle.query_tree.specs.declared.query.Node.{Node}
use Rattle.query_tree.specs.declared.query.Node.TheVariants as nodes
use Rattle.query_grammar.specs.Grammar.{Is, IsJoin, IsAlt, IsOpenAnd, IsAndNode, IsExpr}
use Rattle.query_write.specs.Written.{WrittenToken, Choice, Order, Sentences, Paragraphs, Part, part, part_of, joined, left, whole, is_choice, is_order}
use Rattle.query_write.specs.steps.TokenRun.{Standing, standing, token_sign, token_after, IsRight, IsInRange}
use Rattle.query_write.specs.steps.Writable.{IsWritable, AreWritable, of_leaf, of_loose, of_sentences, of_paragraphs, of_items, of_or, of_maybe, of_before, of_near, of_span, no_items, more_items}
use Rattle.query_write.proofs.WrittenParts.{part_or, part_maybe, part_before, part_near, part_sentence, part_paragraph}
use Rattle.query_write.proofs.TreeParts.{makes_as}
use Rattle.query_grammar.proofs.TreeGrammar.{alt_one, alt_more, and_alt, expr_more}
use Rattle.query_write.proofs.TreeGroups.{Groups, ReadsPart, Reads, reads_choice, reads_order}
use Rattle.query_write.proofs.TreeChains.{IsOperator, makes_joined, leaf_rises, leaves_rise, IsJoining}

-- ---- keywords are counted

mutual
  pub tree_rises : {fold : ℕ → Option ℕ} {schema : Schema} (n : ℕ) (node : Node) (m : ℕ) → IsWritable fold schema n node m → n ≤ m
  tree_rises _ _ _ (of_leaf n node m limit right is) = leaf_rises n node m is
  tree_rises _ _ _ (of_loose n keys how limit right some are other right_how) = omega arith
  tree_rises _ _ _ (of_sentences n a k leaf m limit right chain is) = omega (arith, leaves_rise n a k chain, leaf_rises k leaf m is)
  tree_rises _ _ _ (of_paragraphs n a k leaf m limit right chain is) = omega (arith, leaves_rise n a k chain, leaf_rises k leaf m is)
  tree_rises _ _ _ (of_items n items m several has are) = items_rise n items m are
  tree_rises _ _ _ (of_or n a k b m first second) = omega (arith, tree_rises n a k first, tree_rises k b m second)
  tree_rises _ _ _ (of_maybe n a k b m first second) = omega (arith, tree_rises n a k first, tree_rises k b m second)
  tree_rises _ _ _ (of_before n a k b m first second) = omega (arith, tree_rises n a k first, tree_rises k b m second)
  tree_rises _ _ _ (of_near n distance a k b m in_range first second) = omega (arith, tree_rises n a k first, tree_rises k b m second)
  tree_rises _ _ _ (of_span n zones a m right is) = tree_rises n a m is

  pub items_rise : {fold : ℕ → Option ℕ} {schema : Schema} (n : ℕ) (items : List Item) (m : ℕ) → AreWritable fold schema n items m → n ≤ m
  items_rise _ _ _ (no_items n) = omega arith
  items_rise _ _ _ (more_items n item k items m is are) = omega (arith, tree_rises n item.node k is, items_rise k items m are)

module _ {schema : Schema} where
  -- ---- choices and orders

  -- the operators between two nodes
  plain_operator : (token : WrittenToken) (sign : Sign) → ((s : Standing) → token_sign s token ≡ Some sign) → ((s : Standing) → token_after s token ≡ s) → IsOperator schema token sign
  plain_operator token sign sign_is leaves = record { sign_is = sign_is; leaves = leaves }

  choice_tokens : (n : ℕ) (a : Node) (k : ℕ) (b : Node) (m : ℕ) (token : WrittenToken) (sign : Sign) (node : Node)
      → IsOperator schema token sign → ((s : Standing) → IsRight schema s token)
      → ((depth : ℕ) (u : List Mark) → (IsAlt (Groups depth) a then (Is sign then IsJoin (Groups depth) b)) u → IsAlt (Groups depth) node u)
      → Reads schema n a k → Reads schema k b m
      → ReadsPart schema n node (part Choice (joined (left schema.fields is_choice (part_of schema.fields a)) token (whole schema.fields (part_of schema.fields b)))) m
  choice_tokens n a k b m token sign node operator right more first second =
      reads_choice node (joined (left schema.fields is_choice (part_of schema.fields a)) token (whole schema.fields (part_of schema.fields b))) (first.least + second.least)
      (λ depth deep here plain around. makes_as (more depth)
      (makes_joined (standing n here around) (left schema.fields is_choice (part_of schema.fields a)) (whole schema.fields (part_of schema.fields b)) token sign (standing k here around) (standing m here around)
      operator (right (standing k here around)) (first.alt depth (omega (arith, deep)) here plain around) (second.join depth (omega (arith, deep)) here plain around)))

  order_tokens : (n : ℕ) (a : Node) (k : ℕ) (b : Node) (m : ℕ) (token : WrittenToken) (sign : Sign) (node : Node)
      → IsOperator schema token sign → ((s : Standing) → s.here.span ≡ false → IsRight schema s token)
      → ((depth : ℕ) (u : List Mark) → (IsExpr IsOpenAnd (Groups depth) a then (Is sign then IsAndNode IsOpenAnd (Groups depth) b)) u → IsExpr IsOpenAnd (Groups depth) node u)
      → Reads schema n a k → Reads schema k b m
      → ReadsPart schema n node (part Order (joined (left schema.fields is_order (part_of schema.fields a)) token (whole schema.fields (part_of schema.fields b)))) m
  order_tokens n a k b m token sign node operator right more first second =
      reads_order node (joined (left schema.fields is_order (part_of schema.fields a)) token (whole schema.fields (part_of schema.fields b))) (first.least + second.least)
      (λ depth deep here plain span around. makes_as (more depth)
      (makes_joined (standing n here around) (left schema.fields is_order (part_of schema.fields a)) (whole schema.fields (part_of schema.fields b)) token sign (standing k here around) (standing m here around)
      operator (right (standing k here around) span) (first.expr depth (omega (arith, deep)) here plain span around)
      (makes_as (λ u h. and_alt (Groups depth) b u (alt_one (Groups depth) b u h)) (second.join depth (omega (arith, deep)) here plain around))))

  pub or_reads : (n : ℕ) (a : Node) (k : ℕ) (b : Node) (m : ℕ) → Reads schema n a k → Reads schema k b m → Reads schema n (nodes.Or a b) m
  or_reads n a k b m first second =
      subst (λ (p : Part). ReadsPart schema n (nodes.Or a b) p m) (sym (part_or schema.fields a b))
      (choice_tokens n a k b m WrittenToken.Or signs.Or (nodes.Or a b) (plain_operator WrittenToken.Or signs.Or (λ s. refl) (λ s. refl)) (λ s. tt) (λ depth. alt_more (Groups depth) a (true, b)) first second)

  pub maybe_reads : (n : ℕ) (a : Node) (k : ℕ) (b : Node) (m : ℕ) → Reads schema n a k → Reads schema k b m → Reads schema n (nodes.Maybe a b) m
  maybe_reads n a k b m first second =
      subst (λ (p : Part). ReadsPart schema n (nodes.Maybe a b) p m) (sym (part_maybe schema.fields a b))
      (choice_tokens n a k b m WrittenToken.Maybe signs.Maybe (nodes.Maybe a b) (plain_operator WrittenToken.Maybe signs.Maybe (λ s. refl) (λ s. refl)) (λ s. tt) (λ depth. alt_more (Groups depth) a (false, b)) first second)

  pub before_reads : (n : ℕ) (a : Node) (k : ℕ) (b : Node) (m : ℕ) → Reads schema n a k → Reads schema k b m → Reads schema n (nodes.Before a b) m
  before_reads n a k b m first second =
      subst (λ (p : Part). ReadsPart schema n (nodes.Before a b) p m) (sym (part_before schema.fields a b))
      (order_tokens n a k b m WrittenToken.Before signs.Before (nodes.Before a b) (plain_operator WrittenToken.Before signs.Before (λ s. refl) (λ s. refl)) (λ s span. span) (λ depth. expr_more (Groups depth) a (None, b)) first second)

  pub near_reads : (n distance : ℕ) (a : Node) (k : ℕ) (b : Node) (m : ℕ) → IsInRange distance → Reads schema n a k → Reads schema k b m → Reads schema n (nodes.Near distance a b) m
  near_reads n distance a k b m in_range first second =
      subst (λ (p : Part). ReadsPart schema n (nodes.Near distance a b) p m) (sym (part_near schema.fields distance a b))
      (order_tokens n a k b m (WrittenToken.Near distance) (signs.Near distance) (nodes.Near distance a b) (plain_operator (WrittenToken.Near distance) (signs.Near distance) (λ s. refl) (λ s. refl)) (λ s span. (in_range, span)) (λ depth. expr_more (Groups depth) a (Some distance, b)) first second)

  -- ---- SENTENCE and PARAGRAPH

  pub sentences : IsJoining schema WrittenToken.Sentence signs.Sentence Sentences nodes.Sentence
  sentences = record {
    operator = plain_operator WrittenToken.Sentence signs.Sentence (λ s. refl) (λ s. refl);
    right = λ s. tt;
    no_choice = refl;
    no_order = refl;
    closes = λ tokens. refl;
    part_is = part_sentence schema.fields;
    is_join = λ depth node u h. inr (inr (inl h));
  }

  pub paragraphs : IsJoining schema WrittenToken.Paragraph signs.Paragraph Paragraphs nodes.Paragraph
  paragraphs = record {
    operator = plain_operator WrittenToken.Paragraph signs.Paragraph (λ s. refl) (λ s. refl);
    right = λ s. tt;
    no_choice = refl;
    no_order = refl;
    closes = λ tokens. refl;
    part_is = part_paragraph schema.fields;
    is_join = λ depth node u h. inr (inr (inr (inl h)));
  }
