-- The grammar with fewer premises on ANDs and deeper groups has the values that it had.
use Rattle.std.proofs.Common.{arith, ◌≤◌, ℕ, zero, suc, List, [], ◌∷◌, Bool, true, false, Option, inl, inr}
use Rattle.token_grammar.specs.Values.{◌then◌, AreInRow}
use Rattle.query_marks.specs.declared.mark.Mark.{Mark}
use Rattle.query_tree.specs.declared.query.Item.{Item}
use Rattle.query_tree.specs.declared.query.Node.{Node}
use Rattle.query_grammar.specs.Grammar.{IsJoin, IsChoice, IsAlt, IsItem, Section, IsSection, IsAnd, IsOrder, IsAndNode, IsExpr, IsGroup, IsQuery}

row_map : {A : Type 0} (P Q : A → List Mark → Type 0) → ((x : A) (u : List Mark) → P x u → Q x u) → (xs : List A) (u : List Mark) → AreInRow P xs u → AreInRow Q xs u
row_map P Q f [] u h = h
row_map P Q f (x ∷ xs) u (a, b, e, first, rest) = (a, b, e, f x a first, row_map P Q f xs b rest)

module _ (G H : Node → List Mark → Type 0) (groups : (node : Node) (u : List Mark) → G node u → H node u) where
  join_map : (node : Node) (u : List Mark) → IsJoin G node u → IsJoin H node u
  join_map node u (inl h) = inl h
  join_map node u (inr (inl h)) = inr (inl h)
  join_map node u (inr (inr (inl h))) = inr (inr (inl h))
  join_map node u (inr (inr (inr (inl h)))) = inr (inr (inr (inl h)))
  join_map node u (inr (inr (inr (inr h)))) = inr (inr (inr (inr (groups node u h))))

  choice_map : (next : Bool × Node) (u : List Mark) → IsChoice G next u → IsChoice H next u
  choice_map (true, node) u (a, b, e, sign, h) = (a, b, e, sign, join_map node b h)
  choice_map (false, node) u (a, b, e, sign, h) = (a, b, e, sign, join_map node b h)

  alt_map : (node : Node) (u : List Mark) → IsAlt G node u → IsAlt H node u
  alt_map node u (first, rest, is, (a, b, e, h, row)) = (first, rest, is, (a, b, e, join_map first a h, row_map (IsChoice G) (IsChoice H) choice_map rest b row))

  item_map : (item : Item) (u : List Mark) → IsItem G item u → IsItem H item u
  item_map item u (inl (negated, (a, b, e, sign, h))) = inl (negated, (a, b, e, sign, join_map item.node b h))
  item_map item u (inr (plain, h)) = inr (plain, alt_map item.node u h)

  section_map : (is_first : Bool) (section : Section) (u : List Mark) → IsSection G is_first section u → IsSection H is_first section u
  section_map is_first section u (list, begins, span, some, (a, b, e, limits, items)) = (list, begins, span, some, (a, b, e, limits, row_map (IsItem G) (IsItem H) item_map section.items b items))

  and_map : (sections : List Section) (u : List Mark) → IsAnd G sections u → IsAnd H sections u
  and_map [] u h = h
  and_map (section ∷ sections) u (a, b, e, first, rest) = (a, b, e, section_map true section a first, row_map (IsSection G false) (IsSection H false) (section_map false) sections b rest)

  module _ (P Q : List Section → Type 0) (passes : (sections : List Section) → P sections → Q sections) where
    and_node_map : (node : Node) (u : List Mark) → IsAndNode P G node u → IsAndNode Q H node u
    and_node_map node u (sections, pass, is, h) = (sections, passes sections pass, is, and_map sections u h)

    order_map : (next : Option ℕ × Node) (u : List Mark) → (IsOrder next.0 then IsAndNode P G next.1) u → (IsOrder next.0 then IsAndNode Q H next.1) u
    order_map next u (a, b, e, order, h) = (a, b, e, order, and_node_map next.1 b h)

    pub expr_map : (node : Node) (u : List Mark) → IsExpr P G node u → IsExpr Q H node u
    expr_map node u (first, rest, is, (a, b, e, h, row)) =
        (first, rest, is, (a, b, e, and_node_map first a h, row_map (λ next. IsOrder next.0 then IsAndNode P G next.1) (λ next. IsOrder next.0 then IsAndNode Q H next.1) order_map rest b row))

module _ (P Q : List Section → Type 0) (passes : (sections : List Section) → P sections → Q sections) where
  pub group_map : (d e : ℕ) → d ≤ e → (node : Node) (u : List Mark) → IsGroup P d node u → IsGroup Q e node u
  unfolding IsGroup
  group_map zero e deep node u h = absurd h
  group_map (suc d) zero deep node u h = absurd (omega (arith, deep))
  group_map (suc d) (suc e) deep node u (a, b, is, open_sign, (x, y, is', expr, close_sign)) =
      (a, b, is, open_sign, (x, y, is', expr_map (IsGroup P d) (IsGroup Q e) (group_map d e (omega (arith, deep))) P Q passes node x expr, close_sign))

  pub query_map : (d e : ℕ) → d ≤ e → (node : Node) (u : List Mark) → IsQuery P d node u → IsQuery Q e node u
  query_map d e deep node u (a, b, is, relaxed, (x, y, is', expr, end)) =
      (a, b, is, relaxed, (x, y, is', expr_map (IsGroup P d) (IsGroup Q e) (group_map d e deep) P Q passes node x expr, end))
