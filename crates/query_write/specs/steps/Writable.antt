-- Which trees can be written: those that are values of the grammar. Their keywords are numbered in the tree's order.
use Rattle.std.specs.Prelude.{◌≡◌, ◌≢◌, ◌≤◌, ◌+◌, ℕ, List, [], ◌∷◌, false, Option, IsTrue, All, length}
use Rattle.doc_types.specs.declared.schema.Schema.{Schema}
use Rattle.query_tree.specs.declared.key.Key.{Key}
use Rattle.query_tree.specs.declared.key.Limit.{Limit}
use Rattle.query_tree.specs.declared.key.How.{How}
use Rattle.query_tree.specs.declared.key.How.TheVariants as hows
use Rattle.query_marks.specs.Marks.{keys_after}
use Rattle.query_tree.specs.declared.query.Item.{Item}
use Rattle.query_tree.specs.declared.query.Node.{Node}
use Rattle.query_tree.specs.declared.query.Node.TheVariants as nodes
use Rattle.query_grammar.specs.Grammar.{has_item}
use Rattle.query_write.specs.Written.{all_fields}
use Rattle.query_write.specs.steps.Signs.{IsPlainWord, IsKeyOf}
use Rattle.query_write.specs.steps.TokenRun.{key_after, words_of, IsInRange, IsRightHow, IsRightZone, AreRightZones}

-- a limit that can be written
pub record IsRightLimit (schema : Schema) (limit : Limit) : Type 0 where
  pub fields : limit.fields ≤ all_fields schema.fields
  pub positions : IsInRange limit.positions
  pub zones : All (IsRightZone schema) limit.zones

-- the keywords of a quoted piece, after so many, under a limit
pub record AreKeys (fold : ℕ → Option ℕ) (limit : Limit) (n : ℕ) (keys : List Key) : Type 0 where
  pub are : keys ≡ keys_after n limit false false (words_of keys)
  pub plain : All (λ key. IsPlainWord fold key.word) keys

-- A word or a phrase under a limit. The first number is that of the keywords before the tree, the second one that of those to its end.
pub data IsLeafOf (fold : ℕ → Option ℕ) (schema : Schema) (limit : Limit) : ℕ → Node → ℕ → Type 0 where
  of_word : (n : ℕ) (key : Key) → key ≡ key_after n limit key → IsPlainWord fold key.word → IsKeyOf schema key → IsLeafOf fold schema limit n (nodes.Word key) (n + 1)
  of_phrase : (n : ℕ) (keys : List Key) → 2 ≤ length keys → AreKeys fold limit n keys → IsLeafOf fold schema limit n (nodes.Quoted keys hows.Phrase) (n + length keys)

-- leaves under one limit, joined from the left
pub data AreLeavesOf (fold : ℕ → Option ℕ) (schema : Schema) (limit : Limit) (join : Node → Node → Node) : ℕ → Node → ℕ → Type 0 where
  one_leaf : (n : ℕ) (leaf : Node) (m : ℕ) → IsLeafOf fold schema limit n leaf m → AreLeavesOf fold schema limit join n leaf m
  more_leaves : (n : ℕ) (left : Node) (k : ℕ) (leaf : Node) (m : ℕ) → AreLeavesOf fold schema limit join n left k → IsLeafOf fold schema limit k leaf m → AreLeavesOf fold schema limit join n (join left leaf) m

mutual
  pub data IsWritable (fold : ℕ → Option ℕ) (schema : Schema) : ℕ → Node → ℕ → Type 0 where
    of_leaf : (n : ℕ) (node : Node) (m : ℕ) (limit : Limit) → IsRightLimit schema limit → IsLeafOf fold schema limit n node m → IsWritable fold schema n node m
    of_loose : (n : ℕ) (keys : List Key) (how : How) (limit : Limit) → IsRightLimit schema limit → keys ≢ [] → AreKeys fold limit n keys → how ≢ hows.Phrase → IsRightHow how → IsWritable fold schema n (nodes.Quoted keys how) (n + length keys)
    of_sentences : (n : ℕ) (left : Node) (k : ℕ) (leaf : Node) (m : ℕ) (limit : Limit) → IsRightLimit schema limit → AreLeavesOf fold schema limit nodes.Sentence n left k → IsLeafOf fold schema limit k leaf m → IsWritable fold schema n (nodes.Sentence left leaf) m
    of_paragraphs : (n : ℕ) (left : Node) (k : ℕ) (leaf : Node) (m : ℕ) (limit : Limit) → IsRightLimit schema limit → AreLeavesOf fold schema limit nodes.Paragraph n left k → IsLeafOf fold schema limit k leaf m → IsWritable fold schema n (nodes.Paragraph left leaf) m
    of_items : (n : ℕ) (items : List Item) (m : ℕ) → 2 ≤ length items → IsTrue (has_item items) → AreWritable fold schema n items m → IsWritable fold schema n (nodes.And items) m
    of_or : (n : ℕ) (a : Node) (k : ℕ) (b : Node) (m : ℕ) → IsWritable fold schema n a k → IsWritable fold schema k b m → IsWritable fold schema n (nodes.Or a b) m
    of_maybe : (n : ℕ) (a : Node) (k : ℕ) (b : Node) (m : ℕ) → IsWritable fold schema n a k → IsWritable fold schema k b m → IsWritable fold schema n (nodes.Maybe a b) m
    of_before : (n : ℕ) (a : Node) (k : ℕ) (b : Node) (m : ℕ) → IsWritable fold schema n a k → IsWritable fold schema k b m → IsWritable fold schema n (nodes.Before a b) m
    of_near : (n : ℕ) (distance : ℕ) (a : Node) (k : ℕ) (b : Node) (m : ℕ) → IsInRange distance → IsWritable fold schema n a k → IsWritable fold schema k b m → IsWritable fold schema n (nodes.Near distance a b) m
    of_span : (n : ℕ) (zones : List ℕ) (a : Node) (m : ℕ) → AreRightZones schema zones → IsWritable fold schema n a m → IsWritable fold schema n (nodes.ZoneSpan zones a) m

  -- the items of an AND
  pub data AreWritable (fold : ℕ → Option ℕ) (schema : Schema) : ℕ → List Item → ℕ → Type 0 where
    no_items : (n : ℕ) → AreWritable fold schema n [] n
    more_items : (n : ℕ) (item : Item) (k : ℕ) (items : List Item) (m : ℕ) → IsWritable fold schema n item.node k → AreWritable fold schema k items m → AreWritable fold schema n (item ∷ items) m
