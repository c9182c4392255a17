-- A group of one bound on nesting is one of each greater bound, and so are the parts that it stands in.
use Rattle.std.proofs.Common.{ℕ, zero, suc, ◌≤◌, List, Option, arith}
use Rattle.query_marks.specs.declared.mark.Mark.{Mark}
use Rattle.token_grammar.specs.Values.{◌then◌, AreInRow}
use Rattle.query_tree.specs.declared.query.Node.{Node}
use Rattle.query_tree.specs.declared.query.Item.{Item}
use Rattle.query_grammar.specs.Grammar.{IsItem, Section, IsAnd, IsOrder, IsAndNode, IsExpr, IsGroup}
use Rattle.query_grammar.specs.QueryFaults.{Any}
use Rattle.query_grammar.proofs.PartsWithin.{IsInherited, row_within, items_within, and_within}

-- nothing has to be known of the marks
abbrev Anywhere : List Mark → Type 0
Anywhere u = Unit {0}

anywhere : IsInherited Anywhere
anywhere = record { front = λ a b here. tt; rest = λ a b here. tt }

pub row_to : {X : Type 0} (P Q : X → List Mark → Type 0) → ((x : X) (u : List Mark) → P x u → Q x u) → (xs : List X) (u : List Mark) → AreInRow P xs u → AreInRow Q xs u
row_to P Q each xs u row = row_within Anywhere anywhere P Q (λ x v here p. each x v p) xs u tt row

-- the parts by groups of the one kind, which are groups of the other
module _ (G H : Node → List Mark → Type 0) (to : (node : Node) (u : List Mark) → G node u → H node u) where
  pub items_to : (items : List Item) (u : List Mark) → AreInRow (IsItem G) items u → AreInRow (IsItem H) items u
  items_to items u row = items_within Anywhere anywhere G H (λ node v here group. to node v group) items u tt row

  pub and_to : (sections : List Section) (u : List Mark) → IsAnd G sections u → IsAnd H sections u
  and_to sections u and = and_within Anywhere anywhere G H (λ node v here group. to node v group) sections u tt and

  node_to : (node : Node) (u : List Mark) → IsAndNode Any G node u → IsAndNode Any H node u
  node_to node u (sections, any, node_is, and) = (sections, any, node_is, and_to sections u and)

  next_to : (next : Option ℕ × Node) (u : List Mark) → (IsOrder next.0 then IsAndNode Any G next.1) u → (IsOrder next.0 then IsAndNode Any H next.1) u
  next_to next u (a, b, is, order, and) = (a, b, is, order, node_to next.1 b and)

  expr_to : (node : Node) (u : List Mark) → IsExpr Any G node u → IsExpr Any H node u
  expr_to node u (first, rest, node_is, (a, b, is, and, row)) =
      (first, rest, node_is, (a, b, is, node_to first a and, row_to (λ next. IsOrder next.0 then IsAndNode Any G next.1) (λ next. IsOrder next.0 then IsAndNode Any H next.1) next_to rest b row))

pub group_to : (depth more : ℕ) → depth ≤ more → (node : Node) (u : List Mark) → IsGroup Any depth node u → IsGroup Any more node u
unfolding IsGroup
group_to zero more up node u never = absurd never
group_to (suc depth) zero up node u group = absurd (omega (arith, up))
group_to (suc depth) (suc more) up node u (a, bc, is, opens, (b, c, later, expr, closes)) =
    (a, bc, is, opens, (b, c, later, expr_to (IsGroup Any depth) (IsGroup Any more) (group_to depth more (omega (arith, up))) node b expr, closes))
