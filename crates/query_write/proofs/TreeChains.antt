-- The leaves that SENTENCE or PARAGRAPH joins, under their limit.
use Rattle.std.proofs.Common.{arith, ◌≡◌, ◌≤◌, ℕ, zero, suc, List, [], ◌∷◌, ◌++◌, false, Option, Some, refl, sym, ◌∙◌, ap, subst}
use Rattle.std.specs.Prelude.{◌≢◌}
use Rattle.token_grammar.specs.Values.{◌then◌, AreInRow}
use Rattle.doc_types.specs.declared.schema.Schema.{Schema}
use Rattle.query_tree.specs.declared.key.Limit.{Limit}
use Rattle.query_marks.specs.declared.mark.Mark.{Mark}
use Rattle.query_marks.specs.declared.mark.Sign.{Sign}
use Rattle.query_tree.specs.declared.query.Node.{Node}
use Rattle.query_grammar.specs.Grammar.{Is, IsLeaf, IsJoin, AreJoined}
use Rattle.query_grammar.specs.Grammar as grammar
use Rattle.query_write.specs.Written.{WrittenToken, Space, Open, Close, Line, Part, part_of, joined, is_choice, is_order, enclosed}
use Rattle.query_write.specs.steps.TokenRun.{Ambient, Standing, standing, spanless, ambient_limit, token_sign, token_after, IsRight}
use Rattle.query_write.specs.steps.Writable.{IsRightLimit, IsLeafOf, of_word, of_phrase, AreLeavesOf, one_leaf, more_leaves}
use Rattle.query_write.proofs.TreeParts.{Makes, makes_then, makes_first, makes_space, makes_as, makes_tokens}
use Rattle.query_grammar.proofs.TreeGrammar.{joined_last, row_more, then_none, not_none, alt_one, expr_alt}
use Rattle.query_write.proofs.TreeGroups.{Groups, ReadsPart, Reads, reads_single, enclosed_join}
use Rattle.query_write.proofs.TreeLimits.{under_limit}
use Rattle.query_write.proofs.TreeLeaves.{ReadsLeaf, reads_leaf}

-- an operator between two nodes
pub record IsOperator (schema : Schema) (token : WrittenToken) (sign : Sign) : Type 0 where
  pub sign_is : (s : Standing) → token_sign s token ≡ Some sign
  pub leaves : (s : Standing) → token_after s token ≡ s

module _ {schema : Schema} where
  -- two nodes with an operator between them
  pub makes_joined : {P Q : List Mark → Type 0} (s : Standing) (first second : List WrittenToken) (token : WrittenToken) (sign : Sign) (r t : Standing) → IsOperator schema token sign → IsRight schema r token
      → Makes schema P s first r → Makes schema Q r second t → Makes schema (P then (Is sign then Q)) s (joined first token second) t
  makes_joined {P} {Q} s first second token sign r t operator right a b =
      makes_then r a (makes_space (makes_first r token sign (Space ∷ second) right (operator.sign_is r)
      (subst (λ (x : Standing). Makes schema Q x (Space ∷ second) t) (sym (operator.leaves r)) (makes_space b))))

pub leaf_rises : {fold : ℕ → Option ℕ} {schema : Schema} {limit : Limit} (n : ℕ) (leaf : Node) (m : ℕ) → IsLeafOf fold schema limit n leaf m → n ≤ m
leaf_rises _ _ _ (of_word n key is plain takes) = omega arith
leaf_rises _ _ _ (of_phrase n keys several keys_are) = omega arith

pub leaves_rise : {fold : ℕ → Option ℕ} {schema : Schema} {limit : Limit} {join : Node → Node → Node} (n : ℕ) (node : Node) (m : ℕ) → AreLeavesOf fold schema limit join n node m → n ≤ m
leaves_rise _ _ _ (one_leaf n leaf m is) = leaf_rises n leaf m is
leaves_rise _ _ _ (more_leaves n left k leaf m chain is) = omega (arith, leaves_rise n left k chain, leaf_rises k leaf m is)

-- leaves with an operator between each and the next
pub record ReadsChain (schema : Schema) (limit : Limit) (sign : Sign) (join : Node → Node → Node) (n : ℕ) (node : Node) (m : ℕ) (p : Part) : Type 0 where
  pub first : Node
  pub rest : List Node
  pub is : node ≡ grammar.joined join first rest
  pub limit_is : p.limit ≡ Some limit
  pub makes : (here : Ambient) → ambient_limit here ≡ limit → (around : List Ambient) → Makes schema (IsLeaf first then AreInRow (λ leaf. Is sign then IsLeaf leaf) rest) (standing n here around) p.tokens (standing m here around)

-- what SENTENCE and PARAGRAPH share
pub record IsJoining (schema : Schema) (token : WrittenToken) (sign : Sign) (line : Line) (join : Node → Node → Node) : Type 0 where
  pub operator : IsOperator schema token sign
  pub right : (s : Standing) → IsRight schema s token
  pub no_choice : is_choice line ≡ false
  pub no_order : is_order line ≡ false
  pub closes : (tokens : List WrittenToken) → Open ∷ Space ∷ (tokens ++ Space ∷ Close ∷ []) ≡ enclosed line tokens
  pub part_is : (a b : Node) → part_of schema.fields (join a b) ≡ record { line = line; limit = (part_of schema.fields a).limit; tokens = joined (part_of schema.fields a).tokens token (part_of schema.fields b).tokens }
  pub is_join : (depth : ℕ) (node : Node) (u : List Mark) → AreJoined sign join node u → IsJoin (Groups depth) node u

-- the part of such a node
abbrev both : List (List ℕ) → WrittenToken → Line → Node → Node → Part
both names token line a b = record { line = line; limit = (part_of names a).limit; tokens = joined (part_of names a).tokens token (part_of names b).tokens }

module _ {schema : Schema} {limit : Limit} (token : WrittenToken) (sign : Sign) (line : Line) (join : Node → Node → Node) (joining : IsJoining schema token sign line join) where
  -- one leaf more
  one_more : (n : ℕ) (left : Node) (k : ℕ) (leaf : Node) (m : ℕ) → ReadsChain schema limit sign join n left k (part_of schema.fields left) → ReadsLeaf schema limit k leaf m (part_of schema.fields leaf)
      → (chain : ReadsChain schema limit sign join n (join left leaf) m (both schema.fields token line left leaf)) × (chain.rest ≢ [])
  one_more n left k leaf m chain last = (
    record {
      first = chain.first;
      rest = chain.rest ++ leaf ∷ [];
      is = ap (λ x. join x leaf) chain.is ∙ joined_last join chain.first chain.rest leaf;
      limit_is = chain.limit_is;
      makes = λ here e around.
          makes_as (row_more (λ x. Is sign then IsLeaf x) chain.rest leaf)
          (makes_joined (standing n here around) (part_of schema.fields left).tokens (part_of schema.fields leaf).tokens token sign (standing k here around) (standing m here around)
          joining.operator (joining.right (standing k here around)) (chain.makes here e around) (last.makes here e around));
    },
    not_none chain.rest leaf,
  )

  chain_part : (n : ℕ) (node : Node) (m : ℕ) (tokens : List WrittenToken) (limit_is : Option Limit) → IsRightLimit schema limit → (chain : ReadsChain schema limit sign join n node m (record { line = line; limit = limit_is; tokens = tokens })) → chain.rest ≢ []
      → ReadsPart schema n node (record { line = line; limit = limit_is; tokens = tokens }) m
  chain_part n node m tokens limit_is right chain some =
      let p : Part = record { line = line; limit = limit_is; tokens = tokens } in
      reads_single node p 2 joining.no_choice joining.no_order (under_limit limit right n node p m 1 chain.limit_is inside)
    where
      inside : (depth : ℕ) → 1 ≤ depth → (here : Ambient) → ambient_limit here ≡ limit → (around : List Ambient) → Makes schema (IsJoin (Groups depth) node) (standing n here around) (enclosed line tokens) (standing m here around)
      inside zero deep here e around = absurd (omega (arith, deep))
      inside (suc depth) deep here e around =
          makes_tokens (enclosed line tokens) (joining.closes tokens) (enclosed_join depth node n m here (spanless here) around tokens
          (makes_as (λ u h. expr_alt (Groups depth) node u (alt_one (Groups depth) node u (joining.is_join depth node u (chain.first, chain.rest, some, chain.is, h))))
          (chain.makes (spanless here) e (here ∷ around))))

module _ {fold : ℕ → Option ℕ} {schema : Schema} {limit : Limit} (token : WrittenToken) (sign : Sign) (line : Line) (join : Node → Node → Node) (joining : IsJoining schema token sign line join) where
  chain_reads : (n : ℕ) (node : Node) (m : ℕ) → AreLeavesOf fold schema limit join n node m → m ≤ 255 → ReadsChain schema limit sign join n node m (part_of schema.fields node)
  chain_reads _ _ _ (one_leaf n leaf m is) few =
      let h : ReadsLeaf schema limit n leaf m (part_of schema.fields leaf) = reads_leaf n leaf m is few in
      record { first = leaf; rest = []; is = refl; limit_is = h.limit_is; makes = λ here e around. makes_as (then_none (λ x. Is sign then IsLeaf x)) (h.makes here e around) }
  chain_reads _ _ _ (more_leaves n left k leaf m chain is) few =
      let h : ReadsLeaf schema limit k leaf m (part_of schema.fields leaf) = reads_leaf k leaf m is few in
      subst (λ (p : Part). ReadsChain schema limit sign join n (join left leaf) m p) (sym (joining.part_is left leaf))
      (one_more token sign line join joining n left k leaf m (chain_reads n left k chain (omega (arith, few, leaf_rises k leaf m is))) h).0

  pub joined_reads : (n : ℕ) (left : Node) (k : ℕ) (leaf : Node) (m : ℕ) → IsRightLimit schema limit → AreLeavesOf fold schema limit join n left k → IsLeafOf fold schema limit k leaf m → m ≤ 255 → Reads schema n (join left leaf) m
  joined_reads n left k leaf m right chain is few =
      let h : ReadsLeaf schema limit k leaf m (part_of schema.fields leaf) = reads_leaf k leaf m is few in
      let more = one_more token sign line join joining n left k leaf m (chain_reads n left k chain (omega (arith, few, leaf_rises k leaf m is))) h in
      subst (λ (p : Part). ReadsPart schema n (join left leaf) p m) (sym (joining.part_is left leaf))
      (chain_part token sign line join joining n (join left leaf) m (joined (part_of schema.fields left).tokens token (part_of schema.fields leaf).tokens) (part_of schema.fields left).limit right more.0 more.1)
