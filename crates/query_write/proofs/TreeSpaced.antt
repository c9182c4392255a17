-- The tokens of a tree that can be written: they stand side by side as they may, begin and end as a node does, and can be read.
use Rattle.std.proofs.Common.{arith, ◌≡◌, ◌≢◌, ◌≤◌, ℕ, List, [], ◌∷◌, ◌++◌, Bool, true, false, Option, Some, None, length, refl, sym, ◌∙◌, ap, subst, append_assoc, append-nil, if◌then◌else◌}
use Rattle.std.specs.Prelude.{All}
use Rattle.std.specs.List.{flat_map}
use Rattle.doc_types.specs.declared.schema.Schema.{Schema}
use Rattle.doc_types.specs.Schemas.{IsSchema}
use Rattle.query_tree.specs.declared.key.Key.{Key}
use Rattle.query_tree.specs.declared.key.Limit.{Limit}
use Rattle.query_tree.specs.declared.key.How.TheVariants as hows
use Rattle.query_tree.specs.declared.query.Item.{Item}
use Rattle.query_tree.specs.declared.query.Node.{Node}
use Rattle.query_tree.specs.declared.query.Node.TheVariants as nodes
use Rattle.query_write.specs.Written.{WrittenToken, Space, Open, Close, Line, Single, Sentences, Paragraphs, Choice, Order, Part, part, part_of, item_tokens, node_tokens, joined, left, whole, is_choice, is_order, first_limit}
use Rattle.query_write.specs.steps.Signs.{CanBeRead, AreSpaced, follows, is_spaced}
use Rattle.query_write.specs.steps.Writable.{IsRightLimit, AreKeys, IsLeafOf, of_word, of_phrase, AreLeavesOf, one_leaf, more_leaves, IsWritable, AreWritable, of_leaf, of_loose, of_sentences, of_paragraphs, of_items, of_or, of_maybe, of_before, of_near, of_span, no_items, more_items}
use Rattle.query_write.proofs.WrittenParts.{part_word, part_quoted, part_and, part_or, part_maybe, part_before, part_near, part_sentence, part_paragraph, part_span}
use Rattle.query_write.proofs.SpellRows.{begins_well, ends_well, may_be_last}
use Rattle.query_write.proofs.TreeLeaves.{keys_limit}
use Rattle.query_write.proofs.TreeSpaces.{begins_atom, stands_after, spaced_first, after_space, after_not, after_close, atom_longer, Stands, joined_stands, read_cons, read_append, read_none}
use Rattle.query_write.proofs.TreeStands.{PartStands, word_stands, quoted_stands, span_stands, small_range, whole_stands, left_stands}

-- ---- leaves

-- a leaf's tokens, and those of leaves that are joined
record UnderOne (fold : ℕ → Option ℕ) (schema : Schema) (limit : Limit) (p : Part) : Type 0 where
  inner : Stands fold schema p.tokens
  limit_is : p.limit ≡ Some limit

one_limit : (schema : Schema) (limit : Limit) (found : Option Limit) → found ≡ Some limit → IsRightLimit schema limit → (l : Limit) → found ≡ Some l → IsRightLimit schema l
one_limit schema limit found is right l e =
    let same : limit ≡ l = cc in
    subst (IsRightLimit schema) same right

some_limit : (n : ℕ) (limit : Limit) (keys : List Key) (fold : ℕ → Option ℕ) → keys ≢ [] → AreKeys fold limit n keys → first_limit keys ≡ Some limit
some_limit n limit [] fold some are = absurd (some refl)
some_limit n limit (key ∷ keys) fold some are = keys_limit n limit key keys are.are

several_keys : (keys : List Key) → 2 ≤ length keys → keys ≢ []
several_keys [] several e = omega (arith, several)
several_keys (key ∷ keys) several e = cc

-- a part without a limit
unlimited : (schema : Schema) (l : Limit) → None ≡ Some l → IsRightLimit schema l
unlimited schema l e = cc

module _ (fold : ℕ → Option ℕ) (schema : Schema) (is_schema : IsSchema schema) where
  one_part : (limit : Limit) (p : Part) → IsRightLimit schema limit → UnderOne fold schema limit p → PartStands fold schema p
  one_part limit p right h = record { inner = h.inner; limit = one_limit schema limit p.limit h.limit_is right }

  leaf_stands : (limit : Limit) (n : ℕ) (leaf : Node) (m : ℕ) → IsLeafOf fold schema limit n leaf m → UnderOne fold schema limit (part_of schema.fields leaf)
  leaf_stands limit _ _ _ (of_word n key is plain takes) =
      subst (UnderOne fold schema limit) (sym (part_word schema.fields key))
      (record { inner = word_stands fold schema is_schema key plain takes; limit_is = ap (λ (k : Key). Some k.limit) is })
  leaf_stands limit _ _ _ (of_phrase n keys several are) =
      subst (UnderOne fold schema limit) (sym (part_quoted schema.fields keys hows.Phrase))
      (record { inner = quoted_stands fold schema is_schema limit n keys hows.Phrase are tt; limit_is = some_limit n limit keys fold (several_keys keys several) are })

  both_stand : (limit : Limit) (line : Line) (token : WrittenToken) (a b : Node) → is_spaced token ≡ true → follows token Space ≡ true → CanBeRead fold schema token
      → UnderOne fold schema limit (part_of schema.fields a) → UnderOne fold schema limit (part_of schema.fields b)
      → UnderOne fold schema limit (record { line = line; limit = (part_of schema.fields a).limit; tokens = joined (part_of schema.fields a).tokens token (part_of schema.fields b).tokens })
  both_stand limit line token a b before after read first second = record {
    inner = joined_stands (part_of schema.fields a).tokens (part_of schema.fields b).tokens token before after read first.inner second.inner;
    limit_is = first.limit_is;
  }

  sentence_stands : (limit : Limit) (a b : Node) → UnderOne fold schema limit (part_of schema.fields a) → UnderOne fold schema limit (part_of schema.fields b) → UnderOne fold schema limit (part_of schema.fields (nodes.Sentence a b))
  sentence_stands limit a b first second = subst (UnderOne fold schema limit) (sym (part_sentence schema.fields a b)) (both_stand limit Sentences WrittenToken.Sentence a b refl refl tt first second)

  paragraph_stands : (limit : Limit) (a b : Node) → UnderOne fold schema limit (part_of schema.fields a) → UnderOne fold schema limit (part_of schema.fields b) → UnderOne fold schema limit (part_of schema.fields (nodes.Paragraph a b))
  paragraph_stands limit a b first second = subst (UnderOne fold schema limit) (sym (part_paragraph schema.fields a b)) (both_stand limit Paragraphs WrittenToken.Paragraph a b refl refl tt first second)

  chain_stands : (limit : Limit) (join : Node → Node → Node)
      → ((a b : Node) → UnderOne fold schema limit (part_of schema.fields a) → UnderOne fold schema limit (part_of schema.fields b) → UnderOne fold schema limit (part_of schema.fields (join a b)))
      → (n : ℕ) (node : Node) (m : ℕ) → AreLeavesOf fold schema limit join n node m → UnderOne fold schema limit (part_of schema.fields node)
  chain_stands limit join more _ _ _ (one_leaf n leaf m is) = leaf_stands limit n leaf m is
  chain_stands limit join more _ _ _ (more_leaves n a k leaf m chain is) = more a leaf (chain_stands limit join more n a k chain) (leaf_stands limit k leaf m is)

  -- ---- nodes of nodes

  abbrev Good : Node → Type 0
  Good node = PartStands fold schema (part_of schema.fields node)

  pair_stands : (line : Line) (token : WrittenToken) (same : Line → Bool) (a b : Node) → is_spaced token ≡ true → follows token Space ≡ true → CanBeRead fold schema token → Good a → Good b
      → PartStands fold schema (part line (joined (left schema.fields same (part_of schema.fields a)) token (whole schema.fields (part_of schema.fields b))))
  pair_stands line token same a b before after read first second = record {
    inner = joined_stands (left schema.fields same (part_of schema.fields a)) (whole schema.fields (part_of schema.fields b)) token before after read
        (left_stands fold schema is_schema same (part_of schema.fields a) first) (whole_stands fold schema is_schema (part_of schema.fields b) second);
    limit = unlimited schema;
  }

  -- items, each with a blank after it
  record ItemsStand (tokens : List WrittenToken) : Type 0 where
    after : (rest : List WrittenToken) → stands_after Space rest ≡ true → stands_after Space (tokens ++ rest) ≡ true
    spaced : (rest : List WrittenToken) → stands_after Space rest ≡ true → AreSpaced rest → AreSpaced (tokens ++ rest)
    read : All (CanBeRead fold schema) tokens

  item_spaced : (tokens rest : List WrittenToken) → Stands fold schema tokens → stands_after Space rest ≡ true → AreSpaced rest → AreSpaced ((tokens ++ Space ∷ []) ++ rest)
  item_spaced tokens rest h after spaced = subst AreSpaced (sym (append_assoc tokens (Space ∷ []) rest)) (h.spaced (Space ∷ rest) refl (spaced_first Space rest after spaced))

  item_begins : (tokens rest : List WrittenToken) → Stands fold schema tokens → begins_atom ((tokens ++ Space ∷ []) ++ rest) ≡ true
  item_begins tokens rest h = atom_longer (tokens ++ Space ∷ []) rest (atom_longer tokens (Space ∷ []) h.begins)

  one_item : (negated : Bool) (tokens : List WrittenToken) → Stands fold schema tokens → ItemsStand ((if negated then WrittenToken.Not ∷ [] else []) ++ (tokens ++ Space ∷ []))
  one_item true tokens h = record {
    after = λ rest after. refl;
    spaced = λ rest after spaced. spaced_first WrittenToken.Not ((tokens ++ Space ∷ []) ++ rest) (after_not ((tokens ++ Space ∷ []) ++ rest) (item_begins tokens rest h)) (item_spaced tokens rest h after spaced);
    read = read_cons fold schema WrittenToken.Not (tokens ++ Space ∷ []) tt (read_append fold schema tokens (Space ∷ []) h.read (read_cons fold schema Space [] tt (read_none fold schema)));
  }
  one_item false tokens h = record {
    after = λ rest after. after_space ((tokens ++ Space ∷ []) ++ rest) (item_begins tokens rest h);
    spaced = λ rest after spaced. item_spaced tokens rest h after spaced;
    read = read_append fold schema tokens (Space ∷ []) h.read (read_cons fold schema Space [] tt (read_none fold schema));
  }

  none_stand : ItemsStand []
  none_stand = record { after = λ rest after. after; spaced = λ rest after spaced. spaced; read = read_none fold schema }

  more_stand : (a b : List WrittenToken) → ItemsStand a → ItemsStand b → ItemsStand (a ++ b)
  more_stand a b first second = record {
    after = λ rest after. ap (stands_after Space) (append_assoc a b rest) ∙ first.after (b ++ rest) (second.after rest after);
    spaced = λ rest after spaced. subst AreSpaced (sym (append_assoc a b rest)) (first.spaced (b ++ rest) (second.after rest after) (second.spaced rest after spaced));
    read = read_append fold schema a b first.read second.read;
  }

  and_stands : (tokens : List WrittenToken) → ItemsStand tokens → Stands fold schema (Open ∷ Space ∷ (tokens ++ Close ∷ []))
  and_stands tokens h = record {
    begins = refl;
    spaced = λ rest ended spaced. (
      refl,
      subst (λ x. AreSpaced (Space ∷ x)) (sym (append_assoc tokens (Close ∷ []) rest))
          (spaced_first Space (tokens ++ Close ∷ rest) (h.after (Close ∷ rest) refl) (h.spaced (Close ∷ rest) refl (spaced_first Close rest (after_close rest ended) spaced))),
    );
    read = read_cons fold schema Open (Space ∷ (tokens ++ Close ∷ [])) tt (read_cons fold schema Space (tokens ++ Close ∷ []) tt (read_append fold schema tokens (Close ∷ []) h.read (read_cons fold schema Close [] tt (read_none fold schema))));
  }

  single_part : (tokens : List WrittenToken) → Stands fold schema tokens → PartStands fold schema (part Single tokens)
  single_part tokens h = record { inner = h; limit = unlimited schema }

  mutual
    tree_stands : (n : ℕ) (node : Node) (m : ℕ) → IsWritable fold schema n node m → Good node
    tree_stands _ _ _ (of_leaf n node m limit right is) = one_part limit (part_of schema.fields node) right (leaf_stands limit n node m is)
    tree_stands _ _ _ (of_loose n keys how limit right some are other right_how) =
        subst (PartStands fold schema) (sym (part_quoted schema.fields keys how))
        (record { inner = quoted_stands fold schema is_schema limit n keys how are right_how; limit = one_limit schema limit (first_limit keys) (some_limit n limit keys fold some are) right })
    tree_stands _ _ _ (of_sentences n a k leaf m limit right chain is) =
        one_part limit (part_of schema.fields (nodes.Sentence a leaf)) right (sentence_stands limit a leaf (chain_stands limit nodes.Sentence (sentence_stands limit) n a k chain) (leaf_stands limit k leaf m is))
    tree_stands _ _ _ (of_paragraphs n a k leaf m limit right chain is) =
        one_part limit (part_of schema.fields (nodes.Paragraph a leaf)) right (paragraph_stands limit a leaf (chain_stands limit nodes.Paragraph (paragraph_stands limit) n a k chain) (leaf_stands limit k leaf m is))
    tree_stands _ _ _ (of_items n items m several has are) =
        subst (PartStands fold schema) (sym (part_and schema.fields items)) (single_part (Open ∷ Space ∷ (flat_map (item_tokens schema.fields) items ++ Close ∷ [])) (and_stands (flat_map (item_tokens schema.fields) items) (items_stand n items m are)))
    tree_stands _ _ _ (of_or n a k b m first second) =
        subst (PartStands fold schema) (sym (part_or schema.fields a b)) (pair_stands Choice WrittenToken.Or is_choice a b refl refl tt (tree_stands n a k first) (tree_stands k b m second))
    tree_stands _ _ _ (of_maybe n a k b m first second) =
        subst (PartStands fold schema) (sym (part_maybe schema.fields a b)) (pair_stands Choice WrittenToken.Maybe is_choice a b refl refl tt (tree_stands n a k first) (tree_stands k b m second))
    tree_stands _ _ _ (of_before n a k b m first second) =
        subst (PartStands fold schema) (sym (part_before schema.fields a b)) (pair_stands Order WrittenToken.Before is_order a b refl refl tt (tree_stands n a k first) (tree_stands k b m second))
    tree_stands _ _ _ (of_near n distance a k b m in_range first second) =
        subst (PartStands fold schema) (sym (part_near schema.fields distance a b)) (pair_stands Order (WrittenToken.Near distance) is_order a b refl refl (small_range distance in_range) (tree_stands n a k first) (tree_stands k b m second))
    tree_stands _ _ _ (of_span n zones a m right is) =
        subst (PartStands fold schema) (sym (part_span schema.fields zones a)) (single_part (Open ∷ WrittenToken.Spans zones ∷ Space ∷ (whole schema.fields (part_of schema.fields a) ++ Close ∷ []))
        (span_stands fold schema is_schema zones (whole schema.fields (part_of schema.fields a)) right (whole_stands fold schema is_schema (part_of schema.fields a) (tree_stands n a m is))))

    items_stand : (n : ℕ) (items : List Item) (m : ℕ) → AreWritable fold schema n items m → ItemsStand (flat_map (item_tokens schema.fields) items)
    items_stand _ _ _ (no_items n) = none_stand
    items_stand _ _ _ (more_items n item k items m is are) =
        more_stand (item_tokens schema.fields item) (flat_map (item_tokens schema.fields) items)
        (one_item item.negated (whole schema.fields (part_of schema.fields item.node)) (whole_stands fold schema is_schema (part_of schema.fields item.node) (tree_stands n item.node k is))) (items_stand k items m are)

-- ---- a row that a blank may follow doesn't end with NOT

last_well : (token : WrittenToken) → follows token Space ≡ true → may_be_last token ≡ true
last_well WrittenToken.Not e = cc
last_well WrittenToken.Space e = refl
last_well WrittenToken.Open e = refl
last_well WrittenToken.Close e = refl
last_well WrittenToken.Or e = refl
last_well WrittenToken.Maybe e = refl
last_well WrittenToken.Before e = refl
last_well (WrittenToken.Near n) e = refl
last_well WrittenToken.Sentence e = refl
last_well WrittenToken.Paragraph e = refl
last_well (WrittenToken.Word key) e = refl
last_well (WrittenToken.Quoted keys how) e = refl
last_well (WrittenToken.Fields n positions) e = refl
last_well (WrittenToken.Zones zones) e = refl
last_well (WrittenToken.Spans zones) e = refl

row_ends : (tokens : List WrittenToken) → AreSpaced (tokens ++ Space ∷ []) → ends_well tokens ≡ true
row_ends [] spaced = refl
row_ends (token ∷ []) spaced = last_well token spaced.0
row_ends (token ∷ next ∷ tokens) spaced = row_ends (next ∷ tokens) spaced.1

row_spaced : (tokens : List WrittenToken) → AreSpaced (tokens ++ []) → AreSpaced tokens
row_spaced tokens spaced = subst AreSpaced (append-nil tokens) spaced

row_begins : (tokens : List WrittenToken) → begins_atom tokens ≡ true → begins_well tokens ≡ true
row_begins [] e = refl
row_begins (token ∷ tokens) e = e

-- What the tokens of a tree are to the reader of pieces.
pub record TokensStand (fold : ℕ → Option ℕ) (schema : Schema) (tokens : List WrittenToken) : Type 0 where
  pub spaced : AreSpaced tokens
  pub begins : begins_well tokens ≡ true
  pub ends : ends_well tokens ≡ true
  pub read : All (CanBeRead fold schema) tokens

pub tree_tokens : {fold : ℕ → Option ℕ} {schema : Schema} (n : ℕ) (node : Node) (m : ℕ) → IsSchema schema → IsWritable fold schema n node m → TokensStand fold schema (node_tokens schema.fields node)
tree_tokens {fold} {schema} n node m is_schema is =
    let h : Stands fold schema (node_tokens schema.fields node) = whole_stands fold schema is_schema (part_of schema.fields node) (tree_stands fold schema is_schema n node m is) in
    record {
      spaced = row_spaced (node_tokens schema.fields node) (h.spaced [] refl tt);
      begins = row_begins (node_tokens schema.fields node) h.begins;
      ends = row_ends (node_tokens schema.fields node) (h.spaced (Space ∷ []) refl tt);
      read = h.read;
    }
