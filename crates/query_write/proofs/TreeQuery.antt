-- A tree that can be written: its tokens are right, and marks with their signs, and the end after them, are the tree.
use Rattle.std.proofs.Common.{arith, ◌≡◌, ◌≤◌, ℕ, List, [], ◌∷◌, ◌++◌, Option, refl}
use Rattle.doc_types.specs.declared.schema.Schema.{Schema}
use Rattle.query_marks.specs.declared.mark.Mark.{Mark}
use Rattle.query_marks.specs.declared.mark.Sign.TheVariants as signs
use Rattle.query_tree.specs.declared.query.Item.{Item}
use Rattle.query_tree.specs.declared.query.Node.{Node}
use Rattle.query_tree.specs.declared.query.Node.TheVariants as nodes
use Rattle.query_grammar.specs.Grammar.{IsOpenAnd, IsQuery}
use Rattle.query_grammar.specs.QueryFaults.{Any}
use Rattle.query_write.specs.Written.{WrittenToken, Sentences, Paragraphs, node_tokens}
use Rattle.query_write.specs.steps.TokenRun.{standing, start, signs_of, after_tokens, AreRight}
use Rattle.query_write.specs.steps.Writable.{IsWritable, AreWritable, of_leaf, of_loose, of_sentences, of_paragraphs, of_items, of_or, of_maybe, of_before, of_near, of_span, no_items, more_items}
use Rattle.query_write.proofs.TreeParts.{signs_in, makes_as, query_by}
use Rattle.query_grammar.proofs.TreeGrammar.{alt_one, expr_alt}
use Rattle.query_write.proofs.TreeGroups.{Groups, Reads}
use Rattle.query_write.proofs.TreeLeaves.{leaf_reads, loose_reads}
use Rattle.query_write.proofs.TreeChains.{joined_reads}
use Rattle.query_write.proofs.TreeTokens.{tree_rises, items_rise, or_reads, maybe_reads, before_reads, near_reads, sentences, paragraphs}
use Rattle.query_write.proofs.TreeItems.{ReadsItems, none_read, more_read, and_reads, span_reads}
use Rattle.query_grammar.proofs.TreePasses.{query_map}

module _ {fold : ℕ → Option ℕ} {schema : Schema} where
  mutual
    pub tree_reads : (n : ℕ) (node : Node) (m : ℕ) → IsWritable fold schema n node m → m ≤ 255 → Reads schema n node m
    tree_reads _ _ _ (of_leaf n node m limit right is) few = leaf_reads n node m right is few
    tree_reads _ _ _ (of_loose n keys how limit right some are other right_how) few = loose_reads n keys how right some are other right_how few
    tree_reads _ _ _ (of_sentences n a k leaf m limit right chain is) few = joined_reads WrittenToken.Sentence signs.Sentence Sentences nodes.Sentence sentences n a k leaf m right chain is few
    tree_reads _ _ _ (of_paragraphs n a k leaf m limit right chain is) few = joined_reads WrittenToken.Paragraph signs.Paragraph Paragraphs nodes.Paragraph paragraphs n a k leaf m right chain is few
    tree_reads _ _ _ (of_items n items m several has are) few = and_reads n items m several has (items_read n items m are few)
    tree_reads _ _ _ (of_or n a k b m first second) few = or_reads n a k b m (tree_reads n a k first (omega (arith, few, tree_rises k b m second))) (tree_reads k b m second few)
    tree_reads _ _ _ (of_maybe n a k b m first second) few = maybe_reads n a k b m (tree_reads n a k first (omega (arith, few, tree_rises k b m second))) (tree_reads k b m second few)
    tree_reads _ _ _ (of_before n a k b m first second) few = before_reads n a k b m (tree_reads n a k first (omega (arith, few, tree_rises k b m second))) (tree_reads k b m second few)
    tree_reads _ _ _ (of_near n distance a k b m in_range first second) few = near_reads n distance a k b m in_range (tree_reads n a k first (omega (arith, few, tree_rises k b m second))) (tree_reads k b m second few)
    tree_reads _ _ _ (of_span n zones a m right is) few = span_reads n zones a m right (tree_reads n a m is few)

    items_read : (n : ℕ) (items : List Item) (m : ℕ) → AreWritable fold schema n items m → m ≤ 255 → ReadsItems schema n items m
    items_read _ _ _ (no_items n) few = none_read n
    items_read _ _ _ (more_items n item k items m is are) few =
        more_read n item k items m (tree_reads n item.node k is (omega (arith, few, items_rise k items m are))) (items_read k items m are few)

-- What is to be read of the tokens of a tree, as a query of m keywords.
pub record ReadsTree (schema : Schema) (node : Node) (m : ℕ) : Type 0 where
  pub right : AreRight schema (start schema.fields) (node_tokens schema.fields node)
  pub after : after_tokens (start schema.fields) (node_tokens schema.fields node) ≡ standing m (start schema.fields).here []
  -- the depth of its groups
  pub depth : ℕ
  pub query : (u : List Mark) → signs_in u ≡ signs_of (start schema.fields) (node_tokens schema.fields node) ++ signs.End ∷ [] → IsQuery IsOpenAnd depth node u

pub tree_query : {fold : ℕ → Option ℕ} {schema : Schema} (node : Node) (m : ℕ) → IsWritable fold schema 0 node m → m ≤ 255 → ReadsTree schema node m
tree_query {fold} {schema} node m is few =
    let h : Reads schema 0 node m = tree_reads 0 node m is few in
    let made = h.join h.least (omega arith) (start schema.fields).here (refl, refl, refl) [] in
    record {
      right = made.right;
      after = made.after;
      depth = h.least;
      query = query_by (makes_as (λ u x. expr_alt (Groups h.least) node u (alt_one (Groups h.least) node u x)) made).by;
    }

-- so the marks are a query, whatever its ANDs hold
pub tree_any : {schema : Schema} {node : Node} {m : ℕ} (h : ReadsTree schema node m) (u : List Mark) → signs_in u ≡ signs_of (start schema.fields) (node_tokens schema.fields node) ++ signs.End ∷ [] → IsQuery Any h.depth node u
tree_any {schema} {node} {m} h u e = query_map IsOpenAnd Any (λ sections passes. tt) h.depth h.depth (omega arith) node u (h.query u e)
