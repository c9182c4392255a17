-- A tree that can be written where a table has all characters can be written where it keeps those of the tree's words.
use Rattle.std.proofs.Common.{arith, ◌≡◌, ℕ, zero, suc, true, List, [], ◌∷◌, ◌++◌, Some, refl, sym, ◌∙◌, ap, subst, chars}
use Rattle.std.specs.Prelude.{Option, All, Contains}
use Rattle.std.specs.List.{flat_map}
use Rattle.std.proofs.Math.Utf8.{scalar, scalars}
use Rattle.std.proofs.lemmas.Bool.{and_from}
use Rattle.std.proofs.lemmas.List.Elements.{All-nil, All-cons, All-head, All-tail}
use Rattle.std.proofs.lemmas.Str.{chars-encodes}
use Rattle.doc_types.specs.declared.schema.Schema.{Schema}
use Rattle.query_tree.specs.declared.key.Key.{Key}
use Rattle.query_tree.specs.declared.key.Limit.{Limit}
use Rattle.query_tree.specs.declared.key.How.TheVariants as hows
use Rattle.query_tree.specs.declared.query.Item.{Item}
use Rattle.query_tree.specs.declared.query.Node.{Node}
use Rattle.query_tree.specs.declared.query.Node.TheVariants as nodes
use Rattle.query_tree.specs.TreeKeys.{node_keys}
use Rattle.query_write.specs.steps.Signs.{IsPlainWord}
use Rattle.query_write.specs.steps.Writable.{AreKeys, IsLeafOf, of_word, of_phrase, AreLeavesOf, one_leaf, more_leaves, IsWritable, AreWritable, of_leaf, of_loose, of_sentences, of_paragraphs, of_items, of_or, of_maybe, of_before, of_near, of_span, no_items, more_items}
use Rattle.query_write.specs.steps.Carried.{every}
use Rattle.query_write.proofs.CarriedMarks.{Each}
use Rattle.query_tree.proofs.NodeKeys.{keys_word, keys_quoted, keys_and, keys_or, keys_maybe, keys_before, keys_near, keys_sentence, keys_paragraph, keys_span}

each_split : {X : Type 0} (P : X → Type 0) (a b : List X) → Each P (a ++ b) → Each P a × Each P b
each_split P [] b h = (tt, h)
each_split P (x ∷ a) b (first, h) = let rest = each_split P a b h in ((first, rest.0), rest.1)

pub each_from : {X : Type 0} (P : X → Type 0) (xs : List X) → ((x : X) → Contains xs x → P x) → Each P xs
each_from P [] h = tt
each_from P (x ∷ xs) h = (h x (zero, omega arith, refl), each_from P xs (λ y (k, within, at). h y (suc k, omega (arith, within), at)))

all_scalars : (cs : List ℕ) → ((c : ℕ) → Contains cs c → scalar c ≡ true) → scalars cs ≡ true
all_scalars [] h = refl
all_scalars (c ∷ cs) h = and_from (scalar c) (scalars cs) (h c (zero, omega arith, refl)) (all_scalars cs (λ d (k, within, at). h d (suc k, omega (arith, within), at)))

module _ (fold : ℕ → Option ℕ) where
  -- the table keeps each character of a word
  abbrev pub Kept : Key → Type 0
  Kept key = (c : ℕ) → Contains (chars key.word) c → fold c ≡ Some c

  plain_kept : (word : List ℕ) → IsPlainWord every word → ((c : ℕ) → Contains (chars word) c → fold c ≡ Some c) → IsPlainWord fold word
  plain_kept word plain keeps =
      let same : chars word ≡ plain.chars = ap chars plain.is ∙ chars-encodes plain.chars (all_scalars plain.chars plain.are_chars) in
      record {
        chars = plain.chars;
        is = plain.is;
        some = plain.some;
        short = plain.short;
        are_chars = plain.are_chars;
        folded = λ c has. keeps c (subst (λ l. Contains l c) (sym same) has);
      }

  words_kept : (keys : List Key) → All (λ key. IsPlainWord every key.word) keys → Each Kept keys → All (λ key. IsPlainWord fold key.word) keys
  words_kept [] all kept = All-nil (λ (key : Key). IsPlainWord fold key.word)
  words_kept (key ∷ keys) all (first, rest) =
      All-cons (λ (key : Key). IsPlainWord fold key.word) key keys (plain_kept key.word (All-head (λ (key : Key). IsPlainWord every key.word) key keys all) first)
      (words_kept keys (All-tail (λ (key : Key). IsPlainWord every key.word) key keys all) rest)

  keys_kept : (limit : Limit) (n : ℕ) (keys : List Key) → AreKeys every limit n keys → Each Kept keys → AreKeys fold limit n keys
  keys_kept limit n keys are kept = record { are = are.are; plain = words_kept keys are.plain kept }

  leaf_kept : (schema : Schema) (limit : Limit) (n : ℕ) (node : Node) (m : ℕ) → IsLeafOf every schema limit n node m → Each Kept (node_keys node) → IsLeafOf fold schema limit n node m
  leaf_kept schema limit _ _ _ (of_word n key is plain takes) kept = of_word n key is (plain_kept key.word plain (subst (Each Kept) (keys_word key) kept).0) takes
  leaf_kept schema limit _ _ _ (of_phrase n keys several are) kept = of_phrase n keys several (keys_kept limit n keys are (subst (Each Kept) (keys_quoted keys hows.Phrase) kept))

  both_kept : (whole first second : List Key) → whole ≡ first ++ second → Each Kept whole → Each Kept first × Each Kept second
  both_kept whole first second e kept = each_split Kept first second (subst (Each Kept) e kept)

  leaves_kept : (schema : Schema) (limit : Limit) (join : Node → Node → Node) → ((a b : Node) → node_keys (join a b) ≡ node_keys a ++ node_keys b) → (n : ℕ) (node : Node) (m : ℕ) → AreLeavesOf every schema limit join n node m → Each Kept (node_keys node) → AreLeavesOf fold schema limit join n node m
  leaves_kept schema limit join keys _ _ _ (one_leaf n leaf m is) kept = one_leaf n leaf m (leaf_kept schema limit n leaf m is kept)
  leaves_kept schema limit join keys _ _ _ (more_leaves n front k leaf m leaves is) kept =
      let both = both_kept (node_keys (join front leaf)) (node_keys front) (node_keys leaf) (keys front leaf) kept in
      more_leaves n front k leaf m (leaves_kept schema limit join keys n front k leaves both.0) (leaf_kept schema limit k leaf m is both.1)

  module _ (schema : Schema) where
    mutual
      pub writable_kept : (n : ℕ) (node : Node) (m : ℕ) → IsWritable every schema n node m → Each Kept (node_keys node) → IsWritable fold schema n node m
      writable_kept _ _ _ (of_leaf n node m limit right is) kept = of_leaf n node m limit right (leaf_kept schema limit n node m is kept)
      writable_kept _ _ _ (of_loose n keys how limit right some are other right_how) kept = of_loose n keys how limit right some (keys_kept limit n keys are (subst (Each Kept) (keys_quoted keys how) kept)) other right_how
      writable_kept _ _ _ (of_sentences n a k leaf m limit right leaves is) kept =
          let both = both_kept (node_keys (nodes.Sentence a leaf)) (node_keys a) (node_keys leaf) (keys_sentence a leaf) kept in
          of_sentences n a k leaf m limit right (leaves_kept schema limit nodes.Sentence keys_sentence n a k leaves both.0) (leaf_kept schema limit k leaf m is both.1)
      writable_kept _ _ _ (of_paragraphs n a k leaf m limit right leaves is) kept =
          let both = both_kept (node_keys (nodes.Paragraph a leaf)) (node_keys a) (node_keys leaf) (keys_paragraph a leaf) kept in
          of_paragraphs n a k leaf m limit right (leaves_kept schema limit nodes.Paragraph keys_paragraph n a k leaves both.0) (leaf_kept schema limit k leaf m is both.1)
      writable_kept _ _ _ (of_items n items m several has are) kept = of_items n items m several has (items_kept n items m are (subst (Each Kept) (keys_and items) kept))
      writable_kept _ _ _ (of_or n a k b m first second) kept =
          let both = both_kept (node_keys (nodes.Or a b)) (node_keys a) (node_keys b) (keys_or a b) kept in
          of_or n a k b m (writable_kept n a k first both.0) (writable_kept k b m second both.1)
      writable_kept _ _ _ (of_maybe n a k b m first second) kept =
          let both = both_kept (node_keys (nodes.Maybe a b)) (node_keys a) (node_keys b) (keys_maybe a b) kept in
          of_maybe n a k b m (writable_kept n a k first both.0) (writable_kept k b m second both.1)
      writable_kept _ _ _ (of_before n a k b m first second) kept =
          let both = both_kept (node_keys (nodes.Before a b)) (node_keys a) (node_keys b) (keys_before a b) kept in
          of_before n a k b m (writable_kept n a k first both.0) (writable_kept k b m second both.1)
      writable_kept _ _ _ (of_near n distance a k b m in_range first second) kept =
          let both = both_kept (node_keys (nodes.Near distance a b)) (node_keys a) (node_keys b) (keys_near distance a b) kept in
          of_near n distance a k b m in_range (writable_kept n a k first both.0) (writable_kept k b m second both.1)
      writable_kept _ _ _ (of_span n zones a m right is) kept = of_span n zones a m right (writable_kept n a m is (subst (Each Kept) (keys_span zones a) kept))

      items_kept : (n : ℕ) (items : List Item) (m : ℕ) → AreWritable every schema n items m → Each Kept (flat_map (λ (item : Item). node_keys item.node) items) → AreWritable fold schema n items m
      items_kept _ _ _ (no_items n) kept = no_items n
      items_kept _ _ _ (more_items n item k items m is are) kept =
          let both = each_split Kept (node_keys item.node) (flat_map (λ (item : Item). node_keys item.node) items) kept in
          more_items n item k items m (writable_kept n item.node k is both.0) (items_kept k items m are both.1)
