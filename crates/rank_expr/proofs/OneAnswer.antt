-- A text is one expression or has one first fault, and not both.
use Rattle.std.proofs.Common.{arith, ◌≡◌, ℕ, List, inl, inr, sym, ◌∙◌, ap}
use Rattle.token_grammar.proofs.Stops.{value_no_stop, one_stop}
use Rattle.doc_types.specs.declared.schema.Schema.{Schema}
use Rattle.rank_expr.specs.declared.expr.Expr.{Expr}
use Rattle.rank_expr.specs.declared.expr.RankExpr.{RankExpr}
use Rattle.rank_expr.specs.declared.fault.ExprFault.{ExprFault}
use Rattle.rank_expr.specs.Marks.{marks_of}
use Rattle.rank_expr.specs.ExprFaults.{IsRefused, IsValue, fault_of}
use Rattle.rank_expr.proofs.ExprAgreement.{one_text}

pub one_value : (schema : Schema) (text : List ℕ) (a b : RankExpr) → IsValue schema text a → IsValue schema text b → a ≡ b
one_value schema text a b x y = ap (λ (root : Expr). record { root = root }) (one_text a.root b.root (marks_of schema text) x.1 y.1)

pub value_no_fault : (schema : Schema) (text : List ℕ) (expr : RankExpr) (fault : ExprFault) → IsValue schema text expr → IsRefused schema text fault → ⊥
value_no_fault schema text expr fault value (inl long) = omega (arith, value.0, long.0)
value_no_fault schema text expr fault value (inr (short, stop, stops, is)) = value_no_stop expr.root value.1 stops

pub one_fault : (schema : Schema) (text : List ℕ) (a b : ExprFault) → IsRefused schema text a → IsRefused schema text b → a ≡ b
one_fault schema text a b (inl x) (inl y) = x.1 ∙ sym y.1
one_fault schema text a b (inl x) (inr y) = absurd (omega (arith, x.0, y.0))
one_fault schema text a b (inr x) (inl y) = absurd (omega (arith, x.0, y.0))
one_fault schema text a b (inr (short, stop, stops, is)) (inr (short', stop', stops', is')) = is ∙ ap (fault_of text) (one_stop stops stops').0 ∙ sym is'
