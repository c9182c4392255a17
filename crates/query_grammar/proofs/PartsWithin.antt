-- The parts of the grammar by groups of one kind are parts by groups of another, where each group that stands in them is one of
-- the other. Where it is known is a premise on marks, which holds of the parts of marks too.
use Rattle.std.proofs.Common.{◌≡◌, Bool, true, false, List, [], ◌∷◌, ◌++◌, inl, inr, subst}
use Rattle.query_marks.specs.declared.mark.Mark.{Mark}
use Rattle.token_grammar.specs.Values.{AreInRow}
use Rattle.query_tree.specs.declared.query.Node.{Node}
use Rattle.query_tree.specs.declared.query.Item.{Item}
use Rattle.query_grammar.specs.Grammar.{IsJoin, IsChoice, IsItem, Section, IsSection, IsAnd}

pub record IsInherited (Holds : List Mark → Type 0) : Type 0 where
  pub front : (a b : List Mark) → Holds (a ++ b) → Holds a
  pub rest : (a b : List Mark) → Holds (a ++ b) → Holds b

module _ (Holds : List Mark → Type 0) (inherited : IsInherited Holds) where
  in_front : (u a b : List Mark) → u ≡ a ++ b → Holds u → Holds a
  in_front u a b is here = inherited.front a b (subst Holds is here)

  in_rest : (u a b : List Mark) → u ≡ a ++ b → Holds u → Holds b
  in_rest u a b is here = inherited.rest a b (subst Holds is here)

  pub row_within : {X : Type 0} (P Q : X → List Mark → Type 0) → ((x : X) (u : List Mark) → Holds u → P x u → Q x u) → (xs : List X) (u : List Mark) → Holds u → AreInRow P xs u → AreInRow Q xs u
  row_within P Q each [] u here is = is
  row_within P Q each (x ∷ xs) u here (a, b, is, first, later) = (a, b, is, each x a (in_front u a b is here) first, row_within P Q each xs b (in_rest u a b is here) later)

module _ (Holds : List Mark → Type 0) (inherited : IsInherited Holds) (G H : Node → List Mark → Type 0) (to : (node : Node) (u : List Mark) → Holds u → G node u → H node u) where
  join_within : (node : Node) (u : List Mark) → Holds u → IsJoin G node u → IsJoin H node u
  join_within node u here (inl leaf) = inl leaf
  join_within node u here (inr (inl loose)) = inr (inl loose)
  join_within node u here (inr (inr (inl sentence))) = inr (inr (inl sentence))
  join_within node u here (inr (inr (inr (inl paragraph)))) = inr (inr (inr (inl paragraph)))
  join_within node u here (inr (inr (inr (inr group)))) = inr (inr (inr (inr (to node u here group))))

  choice_within : (choice : Bool × Node) (u : List Mark) → Holds u → IsChoice G choice u → IsChoice H choice u
  choice_within (true, node) u here (a, b, is, sign, join) = (a, b, is, sign, join_within node b (in_rest Holds inherited u a b is here) join)
  choice_within (false, node) u here (a, b, is, sign, join) = (a, b, is, sign, join_within node b (in_rest Holds inherited u a b is here) join)

  item_within : (item : Item) (u : List Mark) → Holds u → IsItem G item u → IsItem H item u
  item_within item u here (inl (negated, (a, b, is, sign, join))) = inl (negated, (a, b, is, sign, join_within item.node b (in_rest Holds inherited u a b is here) join))
  item_within item u here (inr (kept, (first, rest, node_is, (a, b, is, join, row)))) = inr (
    kept,
    (
      first,
      rest,
      node_is,
      (
        a,
        b,
        is,
        join_within first a (in_front Holds inherited u a b is here) join,
        row_within Holds inherited (IsChoice G) (IsChoice H) choice_within rest b (in_rest Holds inherited u a b is here) row,
      ),
    ),
  )

  pub items_within : (items : List Item) (u : List Mark) → Holds u → AreInRow (IsItem G) items u → AreInRow (IsItem H) items u
  items_within items u here row = row_within Holds inherited (IsItem G) (IsItem H) item_within items u here row

  section_within : (isfirst : Bool) (section : Section) (u : List Mark) → Holds u → IsSection G isfirst section u → IsSection H isfirst section u
  section_within isfirst section u here (list, given, span_is, some, (l, i, is, limits, items)) =
      (list, given, span_is, some, (l, i, is, limits, items_within section.items i (in_rest Holds inherited u l i is here) items))

  pub and_within : (sections : List Section) (u : List Mark) → Holds u → IsAnd G sections u → IsAnd H sections u
  and_within [] u here never = never
  and_within (section ∷ sections) u here (a, b, is, first, later) = (
    a,
    b,
    is,
    section_within true section a (in_front Holds inherited u a b is here) first,
    row_within Holds inherited (IsSection G false) (IsSection H false) (section_within false) sections b (in_rest Holds inherited u a b is here) later,
  )
