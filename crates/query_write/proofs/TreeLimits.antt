-- A node under a limit: a group that begins with the limit, or the node by itself where nothing is limited.
use Rattle.std.proofs.Common.{arith, ◌≡◌, ◌≤◌, ℕ, zero, suc, List, [], ◌∷◌, ◌++◌, Bool, true, false, Option, Some, None, refl, sym, ◌∙◌, ap, subst, append_assoc, if◌then◌else◌}
use Rattle.std.specs.Prelude.{All, not, ◌||◌, ◌==◌}
use Rattle.std.proofs.lemmas.Bool.{eqb-true}
use Rattle.token_grammar.specs.Values.{◌then◌, AreInRow}
use Rattle.doc_types.specs.declared.schema.Schema.{Schema}
use Rattle.query_tree.specs.declared.key.Limit.{Limit}
use Rattle.query_marks.specs.declared.mark.Sign.TheVariants as signs
use Rattle.query_tree.specs.declared.query.Node.{Node}
use Rattle.query_grammar.specs.Grammar.{IsJoin, IsLimit, last_of, node_of, items_of, IsOpenAnd, IsExpr}
use Rattle.query_write.specs.Written.{WrittenToken, Space, Open, Close, Part, has_zones, limits, zone_tokens, under, enclosed, whole, all_fields}
use Rattle.query_write.specs.steps.TokenRun.{Ambient, standing, spanless, ambient_limit, IsRightZone}
use Rattle.query_write.specs.steps.Writable.{IsRightLimit}
use Rattle.query_write.proofs.TreeParts.{Makes, makes_then, makes_none, makes_first, makes_space, makes_as, makes_tokens}
use Rattle.query_grammar.proofs.TreeGrammar.{item_of, expr_limited}
use Rattle.query_write.proofs.TreeGroups.{Groups, IsPlain, Joins, close, group}

-- ---- nothing is limited

no_limits : (a b c : Bool) → (not a || not b || c) ≡ false → (a ≡ true) × (b ≡ true) × (c ≡ false)
no_limits false b c e = cc
no_limits true false c e = cc
no_limits true true true e = cc
no_limits true true false e = (refl, refl, refl)

no_zones : (zones : List ℕ) → has_zones zones ≡ false → zones ≡ []
no_zones [] e = refl
no_zones (zone ∷ zones) e = cc

limit_same : (fields positions : ℕ) (zones : List ℕ) (limit : Limit) → fields ≡ limit.fields → positions ≡ limit.positions → zones ≡ limit.zones → record { fields = fields; positions = positions; zones = zones } ≡ limit
limit_same fields positions zones limit f p z =
    ap (λ x. record { fields = x; positions = positions; zones = zones }) f ∙ ap (λ x. record { fields = limit.fields; positions = x; zones = zones }) p ∙ ap (λ x. record { fields = limit.fields; positions = limit.positions; zones = x }) z

-- a limit that limits nothing is the one in force at the start
plain_limit : (names : List (List ℕ)) (limit : Limit) (here : Ambient) → IsPlain names here → limits names limit ≡ false → ambient_limit here ≡ limit
plain_limit names limit here plain e =
    let (fields, positions, zones) = no_limits (limit.fields == all_fields names) (limit.positions == 65535) (has_zones limit.zones) e in
    limit_same here.fields here.positions here.zones limit
    (plain.0 ∙ sym (eqb-true limit.fields (all_fields names) fields))
    (plain.1 ∙ sym (eqb-true limit.positions 65535 positions))
    (plain.2 ∙ sym (no_zones limit.zones zones))

-- ---- a group under a limit

-- what the limit's tokens leave in force
abbrev limited : Limit → List ℕ → Ambient
limited limit zones = record { fields = limit.fields; positions = limit.positions; zones = zones; span = false }

-- the limits that its tokens are
abbrev limit_list : List ℕ → List (Option (List ℕ))
limit_list [] = None ∷ []
limit_list (zone ∷ zones) = None ∷ None ∷ []

limit_node : (zones : List ℕ) (node : Node) → node_of (items_of (last_of None (limit_list zones)) (item_of node ∷ [])) ≡ node
limit_node [] node = refl
limit_node (zone ∷ zones) node = refl

some_zone : (zone : ℕ) (zones : List ℕ) → (zone ∷ zones) ≡ [] → ⊥
some_zone zone zones e = cc

module _ {schema : Schema} (limit : Limit) (right : IsRightLimit schema limit) where
  limit_tokens : (zones : List ℕ) → All (IsRightZone schema) zones → (n : ℕ) (here : Ambient) (around : List Ambient)
      → Makes schema (AreInRow IsLimit (limit_list zones)) (standing n here around) (WrittenToken.Fields limit.fields limit.positions ∷ zone_tokens zones) (standing n (limited limit zones) around)
  limit_tokens [] below n here around =
      makes_first (standing n here around) (WrittenToken.Fields limit.fields limit.positions) signs.Limits [] (right.fields, right.positions) refl makes_none
  limit_tokens (zone ∷ zones) below n here around =
      makes_first (standing n here around) (WrittenToken.Fields limit.fields limit.positions) signs.Limits (Space ∷ WrittenToken.Zones (zone ∷ zones) ∷ []) (right.fields, right.positions) refl
      (makes_space (makes_first (standing n (limited limit []) around) (WrittenToken.Zones (zone ∷ zones)) signs.Limits [] (some_zone zone zones, below) refl makes_none))

  -- tokens that are a join under the limit
  abbrev Inside : ℕ → Node → ℕ → List WrittenToken → ℕ → Type 0
  Inside n node m tokens least =
      (depth : ℕ) → least ≤ depth → (here : Ambient) → ambient_limit here ≡ limit → (around : List Ambient)
      → Makes schema (IsJoin (Groups depth) node) (standing n here around) tokens (standing m here around)

  under_group : (n : ℕ) (node : Node) (m : ℕ) (tokens : List WrittenToken) (least : ℕ) → Inside n node m tokens least → (depth : ℕ) → least ≤ depth → (here : Ambient) (around : List Ambient)
      → Makes schema (IsJoin (Groups (suc depth)) node) (standing n here around)
      (Open ∷ WrittenToken.Fields limit.fields limit.positions ∷ (zone_tokens limit.zones ++ Space ∷ (tokens ++ Close ∷ []))) (standing m here around)
  under_group n node m tokens least inside depth deep here around =
      let there : Ambient = limited limit limit.zones in
      let begins : List WrittenToken = WrittenToken.Fields limit.fields limit.positions ∷ zone_tokens limit.zones in
      let row : Makes schema (AreInRow IsLimit (limit_list limit.zones) then IsJoin (Groups depth) node) (standing n (spanless here) (here ∷ around)) (begins ++ Space ∷ tokens) (standing m there (here ∷ around)) =
      makes_then (standing n there (here ∷ around)) (limit_tokens limit.zones right.zones n (spanless here) (here ∷ around)) (makes_space (inside depth deep there refl (here ∷ around))) in
      let expr : Makes schema (IsExpr IsOpenAnd (Groups depth) node) (standing n (spanless here) (here ∷ around)) (begins ++ Space ∷ tokens) (standing m there (here ∷ around)) =
      makes_as (λ u h. subst (λ x. IsExpr IsOpenAnd (Groups depth) x u) (limit_node limit.zones node) (expr_limited (Groups depth) (limit_list limit.zones) node u h)) row in
      makes_tokens (Open ∷ (begins ++ Space ∷ (tokens ++ Close ∷ []))) (ap (λ x. Open ∷ x) (append_assoc begins (Space ∷ tokens) (Close ∷ [])))
      (group depth node n m here there around (begins ++ Space ∷ tokens) (Close ∷ []) expr (close m there here around))

  under_choice : (n : ℕ) (node : Node) (m : ℕ) (tokens : List WrittenToken) (least : ℕ) → Inside n node m tokens least → (depth : ℕ) → suc least ≤ depth → (here : Ambient) → IsPlain schema.fields here → (around : List Ambient)
      → (limited : Bool) → limits schema.fields limit ≡ limited
      → Makes schema (IsJoin (Groups depth) node) (standing n here around)
      (if limited then Open ∷ WrittenToken.Fields limit.fields limit.positions ∷ (zone_tokens limit.zones ++ Space ∷ (tokens ++ Close ∷ [])) else tokens) (standing m here around)
  under_choice n node m tokens least inside depth deep here plain around false e =
      inside depth (omega (arith, deep)) here (plain_limit schema.fields limit here plain e) around
  under_choice n node m tokens least inside zero deep here plain around true e = absurd (omega (arith, deep))
  under_choice n node m tokens least inside (suc depth) deep here plain around true e = under_group n node m tokens least inside depth (omega (arith, deep)) here around

  pub under_limit : (n : ℕ) (node : Node) (p : Part) (m : ℕ) (least : ℕ) → p.limit ≡ Some limit → Inside n node m (enclosed p.line p.tokens) least → Joins schema n node p m (suc least)
  under_limit n node p m least is inside depth deep here plain around =
      makes_tokens (whole schema.fields p) (ap (λ x. under schema.fields x (enclosed p.line p.tokens)) (sym is))
      (under_choice n node m (enclosed p.line p.tokens) least inside depth deep here plain around (limits schema.fields limit) refl)
