-- Words, phrases, quoted pieces with a number, and the leaves that SENTENCE or PARAGRAPH joins.
use Rattle.std.proofs.Common.{arith, ◌≡◌, ◌≤◌, ◌+◌, ℕ, List, [], ◌∷◌, false, Option, Some, length, inl, inr, refl, sym, ◌∙◌, ap, subst}
use Rattle.std.specs.Prelude.{◌≢◌}
use Rattle.doc_types.specs.declared.schema.Schema.{Schema}
use Rattle.query_tree.specs.declared.key.Key.{Key}
use Rattle.query_tree.specs.declared.key.Limit.{Limit}
use Rattle.query_tree.specs.declared.key.How.{How}
use Rattle.query_tree.specs.declared.key.How.TheVariants as hows
use Rattle.query_marks.specs.declared.mark.Sign.TheVariants as signs
use Rattle.query_marks.specs.Marks.{keys_after, quoted_sign}
use Rattle.query_tree.specs.declared.query.Node.{Node}
use Rattle.query_tree.specs.declared.query.Node.TheVariants as nodes
use Rattle.query_grammar.specs.Grammar.{IsLeaf, IsJoin}
use Rattle.query_write.specs.Written.{WrittenToken, Line, Single, Part, part_of, first_limit, is_choice, is_order, enclosed}
use Rattle.query_write.specs.steps.TokenRun.{Ambient, standing, ambient_limit, key_after, words_of, token_sign, IsRightHow}
use Rattle.query_write.specs.steps.Writable.{IsRightLimit, AreKeys, IsLeafOf, of_word, of_phrase}
use Rattle.query_write.proofs.WrittenParts.{part_word, part_quoted}
use Rattle.query_write.proofs.TreeParts.{Makes, makes_one, makes_as}
use Rattle.query_write.proofs.TreeGroups.{Groups, ReadsPart, Reads, reads_single}
use Rattle.query_write.proofs.TreeLimits.{under_limit}

-- ---- keywords

some_keys : (key : Key) (keys : List Key) → (key ∷ keys) ≡ [] → ⊥
some_keys key keys e = cc

word_sign : (n : ℕ) (here : Ambient) (around : List Ambient) (limit : Limit) (key : Key) → ambient_limit here ≡ limit → key ≡ key_after n limit key → token_sign (standing n here around) (WrittenToken.Word key) ≡ Some (signs.Bare key)
word_sign n here around limit key e is = ap (λ (l : Limit). Some (signs.Bare (key_after n l key))) e ∙ ap (λ (k : Key). Some (signs.Bare k)) (sym is)

quoted_same : (n : ℕ) (here : Ambient) (around : List Ambient) (limit : Limit) (keys : List Key) (how : How) → ambient_limit here ≡ limit → keys ≡ keys_after n limit false false (words_of keys) → token_sign (standing n here around) (WrittenToken.Quoted keys how) ≡ quoted_sign keys how
quoted_same n here around limit keys how e is =
    ap (λ (l : Limit). quoted_sign (keys_after n l false false (words_of keys)) how) e ∙ ap (λ (ks : List Key). quoted_sign ks how) (sym is)

loose_same : (key : Key) (keys : List Key) (how : How) → how ≢ hows.Phrase → quoted_sign (key ∷ keys) how ≡ Some (signs.Loose (key ∷ keys) how)
loose_same key keys hows.Phrase other = absurd (other refl)
loose_same key keys (hows.Within n) other = refl
loose_same key keys (hows.AtLeast n) other = refl
loose_same key keys (hows.Share digits places) other = refl

pub keys_limit : (n : ℕ) (limit : Limit) (key : Key) (keys : List Key) → (key ∷ keys) ≡ keys_after n limit false false (words_of (key ∷ keys)) → Some key.limit ≡ Some limit
keys_limit n limit key keys is = ap first_limit is

-- ---- leaves

-- a leaf's tokens under its limit
pub record ReadsLeaf (schema : Schema) (limit : Limit) (n : ℕ) (leaf : Node) (m : ℕ) (p : Part) : Type 0 where
  pub single : p.line ≡ Single
  pub limit_is : p.limit ≡ Some limit
  pub makes : (here : Ambient) → ambient_limit here ≡ limit → (around : List Ambient) → Makes schema (IsLeaf leaf) (standing n here around) p.tokens (standing m here around)

module _ {schema : Schema} {limit : Limit} where
  -- a node of one line, read under its limit
  single_reads : (n : ℕ) (node : Node) (m : ℕ) (p : Part) → IsRightLimit schema limit → p.line ≡ Single → p.limit ≡ Some limit
      → ((here : Ambient) → ambient_limit here ≡ limit → (around : List Ambient) → (depth : ℕ) → Makes schema (IsJoin (Groups depth) node) (standing n here around) p.tokens (standing m here around))
      → ReadsPart schema n node p m
  single_reads n node m p right single limit_is makes =
      reads_single node p 1 (ap is_choice single) (ap is_order single)
      (under_limit limit right n node p m 0 limit_is
      (λ depth deep here e around. subst (λ (line : Line). Makes schema (IsJoin (Groups depth) node) (standing n here around) (enclosed line p.tokens) (standing m here around)) (sym single) (makes here e around depth)))

module _ {fold : ℕ → Option ℕ} {schema : Schema} {limit : Limit} where
  reads_phrase : (n : ℕ) (keys : List Key) → 2 ≤ length keys → AreKeys fold limit n keys → n + length keys ≤ 255
      → ReadsLeaf schema limit n (nodes.Quoted keys hows.Phrase) (n + length keys) (record { line = Single; limit = first_limit keys; tokens = WrittenToken.Quoted keys hows.Phrase ∷ [] })
  reads_phrase n [] several keys_are few = absurd (omega (arith, several))
  reads_phrase n (key ∷ []) several keys_are few = absurd (omega (arith, several))
  reads_phrase n (key ∷ other ∷ keys) several keys_are few = record {
    single = refl;
    limit_is = keys_limit n limit key (other ∷ keys) keys_are.are;
    makes = λ here e around.
        makes_as (λ u h. inr (key ∷ other ∷ keys, refl, h))
        (makes_one (standing n here around) (WrittenToken.Quoted (key ∷ other ∷ keys) hows.Phrase) (signs.Phrase (key ∷ other ∷ keys)) (some_keys key (other ∷ keys), few, tt)
        (quoted_same n here around limit (key ∷ other ∷ keys) hows.Phrase e keys_are.are));
  }

  pub reads_leaf : (n : ℕ) (leaf : Node) (m : ℕ) → IsLeafOf fold schema limit n leaf m → m ≤ 255 → ReadsLeaf schema limit n leaf m (part_of schema.fields leaf)
  reads_leaf _ _ _ (of_word n key is plain takes) few =
      subst (λ (p : Part). ReadsLeaf schema limit n (nodes.Word key) (n + 1) p) (sym (part_word schema.fields key)) (record {
        single = refl;
        limit_is = ap (λ (k : Key). Some k.limit) is;
        makes = λ here e around.
            makes_as (λ u h. inl (key, refl, h)) (makes_one (standing n here around) (WrittenToken.Word key) (signs.Bare key) (few, takes) (word_sign n here around limit key e is));
      })
  reads_leaf _ _ _ (of_phrase n keys several keys_are) few =
      subst (λ (p : Part). ReadsLeaf schema limit n (nodes.Quoted keys hows.Phrase) (n + length keys) p) (sym (part_quoted schema.fields keys hows.Phrase)) (reads_phrase n keys several keys_are few)

  pub leaf_reads : (n : ℕ) (leaf : Node) (m : ℕ) → IsRightLimit schema limit → IsLeafOf fold schema limit n leaf m → m ≤ 255 → Reads schema n leaf m
  leaf_reads n leaf m right is few =
      let h : ReadsLeaf schema limit n leaf m (part_of schema.fields leaf) = reads_leaf n leaf m is few in
      single_reads n leaf m (part_of schema.fields leaf) right h.single h.limit_is (λ here e around depth. makes_as (λ u x. inl x) (h.makes here e around))

  loose_part : (n : ℕ) (keys : List Key) (how : How) → IsRightLimit schema limit → keys ≢ [] → AreKeys fold limit n keys → how ≢ hows.Phrase → IsRightHow how → n + length keys ≤ 255
      → ReadsPart schema n (nodes.Quoted keys how) (record { line = Single; limit = first_limit keys; tokens = WrittenToken.Quoted keys how ∷ [] }) (n + length keys)
  loose_part n [] how right some keys_are other right_how few = absurd (some refl)
  loose_part n (key ∷ keys) how right some keys_are other right_how few =
      single_reads n (nodes.Quoted (key ∷ keys) how) (n + length (key ∷ keys)) (record { line = Single; limit = first_limit (key ∷ keys); tokens = WrittenToken.Quoted (key ∷ keys) how ∷ [] }) right refl (keys_limit n limit key keys keys_are.are)
      (λ here e around depth. makes_as (λ u x. inr (inl (key ∷ keys, how, refl, x)))
      (makes_one (standing n here around) (WrittenToken.Quoted (key ∷ keys) how) (signs.Loose (key ∷ keys) how) (some, few, right_how)
      (quoted_same n here around limit (key ∷ keys) how e keys_are.are ∙ loose_same key keys how other)))

  pub loose_reads : (n : ℕ) (keys : List Key) (how : How) → IsRightLimit schema limit → keys ≢ [] → AreKeys fold limit n keys → how ≢ hows.Phrase → IsRightHow how → n + length keys ≤ 255 → Reads schema n (nodes.Quoted keys how) (n + length keys)
  loose_reads n keys how right some keys_are other right_how few =
      subst (λ (p : Part). ReadsPart schema n (nodes.Quoted keys how) p (n + length keys)) (sym (part_quoted schema.fields keys how)) (loose_part n keys how right some keys_are other right_how few)
