-- A query whose ANDs pass is a query, whatever passes.
use Rattle.std.proofs.Common.{ℕ, zero, suc, List, Option}
use Rattle.query_marks.specs.declared.mark.Mark.{Mark}
use Rattle.token_grammar.specs.Values.{◌then◌}
use Rattle.query_tree.specs.declared.query.Node.{Node}
use Rattle.query_grammar.specs.Grammar.{Section, IsOrder, IsAndNode, IsExpr, IsGroup, IsQuery, IsOpenAnd}
use Rattle.query_grammar.specs.QueryFaults.{Any}
use Rattle.query_grammar.proofs.GroupDepths.{row_to, and_to}

module _ (Passes : List Section → Type 0) (G H : Node → List Mark → Type 0) (to : (node : Node) (u : List Mark) → G node u → H node u) where
  node_any : (node : Node) (u : List Mark) → IsAndNode Passes G node u → IsAndNode Any H node u
  node_any node u (sections, passes, node_is, and) = (sections, tt, node_is, and_to G H to sections u and)

  next_any : (next : Option ℕ × Node) (u : List Mark) → (IsOrder next.0 then IsAndNode Passes G next.1) u → (IsOrder next.0 then IsAndNode Any H next.1) u
  next_any next u (a, b, is, order, and) = (a, b, is, order, node_any next.1 b and)

  expr_any : (node : Node) (u : List Mark) → IsExpr Passes G node u → IsExpr Any H node u
  expr_any node u (first, rest, node_is, (a, b, is, and, row)) =
      (first, rest, node_is, (a, b, is, node_any first a and, row_to (λ next. IsOrder next.0 then IsAndNode Passes G next.1) (λ next. IsOrder next.0 then IsAndNode Any H next.1) next_any rest b row))

pub group_any : (Passes : List Section → Type 0) (depth : ℕ) (node : Node) (u : List Mark) → IsGroup Passes depth node u → IsGroup Any depth node u
unfolding IsGroup
group_any Passes zero node u never = absurd never
group_any Passes (suc depth) node u (a, bc, is, opens, (b, c, later, expr, closes)) =
    (a, bc, is, opens, (b, c, later, expr_any Passes (IsGroup Passes depth) (IsGroup Any depth) (group_any Passes depth) node b expr, closes))

pub passes_any : (depth : ℕ) (node : Node) (u : List Mark) → IsQuery IsOpenAnd depth node u → IsQuery Any depth node u
passes_any depth node u (a, bc, is, relaxed, (b, c, later, expr, end)) =
    (a, bc, is, relaxed, (b, c, later, expr_any IsOpenAnd (IsGroup IsOpenAnd depth) (IsGroup Any depth) (group_any IsOpenAnd depth) node b expr, end))
