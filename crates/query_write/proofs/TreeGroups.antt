-- Where a node's tokens are read: by themselves as a join, and beside others of the same line as a choice or an expression.
use Rattle.std.proofs.Common.{arith, ◌≡◌, ◌≤◌, ℕ, zero, suc, List, [], ◌∷◌, ◌++◌, Bool, false, inr, refl, sym, ap, if◌then◌else◌}
use Rattle.token_grammar.specs.Values.{◌then◌}
use Rattle.doc_types.specs.declared.schema.Schema.{Schema}
use Rattle.query_marks.specs.declared.mark.Mark.{Mark}
use Rattle.query_marks.specs.declared.mark.Sign.TheVariants as signs
use Rattle.query_tree.specs.declared.query.Node.{Node}
use Rattle.query_grammar.specs.Grammar.{Is, IsJoin, IsAlt, IsOpenAnd, IsExpr, IsGroup}
use Rattle.query_write.specs.Written.{WrittenToken, Space, Open, Close, Part, Choice, Order, part, part_of, whole, left, is_choice, is_order, all_fields}
use Rattle.query_write.specs.steps.TokenRun.{Ambient, standing, spanless}
use Rattle.query_write.proofs.TreeParts.{Makes, makes_then, makes_first, makes_one, makes_space, makes_as, makes_tokens}
use Rattle.query_grammar.proofs.TreeGrammar.{alt_one, expr_alt}

-- the groups of the written form, nested so deep at most
abbrev pub Groups : ℕ → Node → List Mark → Type 0
Groups depth = IsGroup IsOpenAnd depth

-- no limit is in force, unless it is that of a ZONESPAN
abbrev pub IsPlain : List (List ℕ) → Ambient → Type 0
IsPlain names here = (here.fields ≡ all_fields names) × (here.positions ≡ 65535) × (here.zones ≡ [])

module _ {schema : Schema} where
  pub close : (m : ℕ) (there here : Ambient) (around : List Ambient) → Makes schema (Is signs.Close) (standing m there (here ∷ around)) (Close ∷ []) (standing m here around)
  close m there here around = makes_one (standing m there (here ∷ around)) Close signs.Close tt refl

  -- a group is a join
  pub group : (depth : ℕ) (node : Node) (n m : ℕ) (here there : Ambient) (around : List Ambient) (tokens last : List WrittenToken)
      → Makes schema (IsExpr IsOpenAnd (Groups depth) node) (standing n (spanless here) (here ∷ around)) tokens (standing m there (here ∷ around))
      → Makes schema (Is signs.Close) (standing m there (here ∷ around)) last (standing m here around)
      → Makes schema (IsJoin (Groups (suc depth)) node) (standing n here around) (Open ∷ (tokens ++ last)) (standing m here around)
  unfolding IsGroup
  group depth node n m here there around tokens last h end =
      makes_as (λ u is. inr (inr (inr (inr is))))
      (makes_first (standing n here around) Open signs.Open (tokens ++ last) tt refl (makes_then (standing m there (here ∷ around)) h end))

-- A node's tokens are read as the node, from so many keywords to so many, in groups of some depth and all greater ones.
pub record ReadsPart (schema : Schema) (n : ℕ) (node : Node) (p : Part) (m : ℕ) : Type 0 where
  pub least : ℕ
  pub join : (depth : ℕ) → least ≤ depth → (here : Ambient) → IsPlain schema.fields here → (around : List Ambient)
      → Makes schema (IsJoin (Groups depth) node) (standing n here around) (whole schema.fields p) (standing m here around)
  pub alt : (depth : ℕ) → least ≤ depth → (here : Ambient) → IsPlain schema.fields here → (around : List Ambient)
      → Makes schema (IsAlt (Groups depth) node) (standing n here around) (left schema.fields is_choice p) (standing m here around)
  -- no ZONESPAN stands before an operator
  pub expr : (depth : ℕ) → least ≤ depth → (here : Ambient) → IsPlain schema.fields here → here.span ≡ false → (around : List Ambient)
      → Makes schema (IsExpr IsOpenAnd (Groups depth) node) (standing n here around) (left schema.fields is_order p) (standing m here around)

abbrev pub Reads : Schema → ℕ → Node → ℕ → Type 0
Reads schema n node m = ReadsPart schema n node (part_of schema.fields node) m

kept_whole : (names : List (List ℕ)) (same : Bool) (p : Part) → same ≡ false → whole names p ≡ (if same then p.tokens else whole names p)
kept_whole names same p e = ap (λ b. if b then p.tokens else whole names p) (sym e)

abbrev pub Joins : Schema → ℕ → Node → Part → ℕ → ℕ → Type 0
Joins schema n node p m least =
    (depth : ℕ) → least ≤ depth → (here : Ambient) → IsPlain schema.fields here → (around : List Ambient)
    → Makes schema (IsJoin (Groups depth) node) (standing n here around) (whole schema.fields p) (standing m here around)

module _ {schema : Schema} where
  -- a node that is no choice and no order
  pub reads_single : {n m : ℕ} (node : Node) (p : Part) (least : ℕ) → is_choice p.line ≡ false → is_order p.line ≡ false → Joins schema n node p m least → ReadsPart schema n node p m
  reads_single {n} {m} node p least no_choice no_order join = record {
    least = least;
    join = join;
    alt = λ depth deep here plain around. makes_tokens (left schema.fields is_choice p) (kept_whole schema.fields (is_choice p.line) p no_choice) (makes_as (alt_one (Groups depth) node) (join depth deep here plain around));
    expr = λ depth deep here plain span around. makes_tokens (left schema.fields is_order p) (kept_whole schema.fields (is_order p.line) p no_order) (makes_as (λ u h. expr_alt (Groups depth) node u (alt_one (Groups depth) node u h)) (join depth deep here plain around));
  }

  -- an expression between parentheses, with blanks inside of them
  pub enclosed_join : (depth : ℕ) (node : Node) (n m : ℕ) (here there : Ambient) (around : List Ambient) (tokens : List WrittenToken)
      → Makes schema (IsExpr IsOpenAnd (Groups depth) node) (standing n (spanless here) (here ∷ around)) tokens (standing m there (here ∷ around))
      → Makes schema (IsJoin (Groups (suc depth)) node) (standing n here around) (Open ∷ Space ∷ (tokens ++ Space ∷ Close ∷ [])) (standing m here around)
  enclosed_join depth node n m here there around tokens h =
      group depth node n m here there around (Space ∷ tokens) (Space ∷ Close ∷ []) (makes_space h) (makes_space (close m there here around))

  pub reads_choice : {n m : ℕ} (node : Node) (tokens : List WrittenToken) (least : ℕ)
      → ((depth : ℕ) → least ≤ depth → (here : Ambient) → IsPlain schema.fields here → (around : List Ambient) → Makes schema (IsAlt (Groups depth) node) (standing n here around) tokens (standing m here around))
      → ReadsPart schema n node (part Choice tokens) m
  reads_choice {n} {m} node tokens least alt = record {
    least = suc least;
    join = join;
    alt = λ depth deep here plain around. alt depth (omega (arith, deep)) here plain around;
    expr = λ depth deep here plain span around. makes_as (λ u h. expr_alt (Groups depth) node u (alt_one (Groups depth) node u h)) (join depth deep here plain around);
  }
    where
      join : Joins schema n node (part Choice tokens) m (suc least)
      join zero deep here plain around = absurd (omega (arith, deep))
      join (suc depth) deep here plain around =
          enclosed_join depth node n m here (spanless here) around tokens
          (makes_as (expr_alt (Groups depth) node) (alt depth (omega (arith, deep)) (spanless here) plain (here ∷ around)))

  pub reads_order : {n m : ℕ} (node : Node) (tokens : List WrittenToken) (least : ℕ)
      → ((depth : ℕ) → least ≤ depth → (here : Ambient) → IsPlain schema.fields here → here.span ≡ false → (around : List Ambient) → Makes schema (IsExpr IsOpenAnd (Groups depth) node) (standing n here around) tokens (standing m here around))
      → ReadsPart schema n node (part Order tokens) m
  reads_order {n} {m} node tokens least expr = record {
    least = suc least;
    join = join;
    alt = λ depth deep here plain around. makes_as (alt_one (Groups depth) node) (join depth deep here plain around);
    expr = λ depth deep here plain span around. expr depth (omega (arith, deep)) here plain span around;
  }
    where
      join : Joins schema n node (part Order tokens) m (suc least)
      join zero deep here plain around = absurd (omega (arith, deep))
      join (suc depth) deep here plain around =
          enclosed_join depth node n m here (spanless here) around tokens (expr depth (omega (arith, deep)) (spanless here) plain refl (here ∷ around))
