use Rattle.std.proofs.Common.{◌≡◌, ◌-◌, suc, true, false, refl, sym, ◌∙◌, subst, arith}
use Rattle.token_grammar.specs.Reading.{IsNextOf}
use Rattle.token_grammar.proofs.Rows.{fails_first, fails_with, now_there}
use Rattle.rank_expr.specs.declared.class.Class.TheVariants as classes
use Rattle.rank_expr.specs.Grammar.{IsOperand}
use Rattle.rank_expr.specs.steps.ExprGrammar.{operand}
use Rattle.rank_expr.specs.steps.MarkAlphabet.{expr_marks}
use Rattle.rank_expr.proofs.MarkSigns.{next_is, takes_sign}
use Rattle.rank_expr.proofs.ReaderSteps.{leaf_taken, operand_none, operand_nested, nested_negative, nested_group, nested_single, nested_double, nested_triple, nested_none, negative_read, group_read, single_read, double_read, double_fails, triple_fails, second_fails, triple_read, product_first, product_more, product_fails, product_done, TotalRead, total_first, total_plus, total_minus, plus_fails, minus_fails, total_done, expr_compared, expr_alone}
use Rattle.rank_expr.proofs.reader.+readers.Goals as goal

pub double-returns-in_err-first : goal.double-returns-in_err-first
double-returns-in_err-first t c =
    fails_with _ _ c.from_residual.result c.from_residual.ensures.1 (double_fails (operand c.args.depth) (IsOperand c.args.depth) c.args.op c.followed.new.input c.expr-part.result (takes_sign classes.Double c.requires refl refl c.skip.ensures) (record { is = c.expr-part.ensures }) c.in_err-first.ensures)

pub double-returns : goal.double-returns
double-returns t c =
    (double_read (operand c.args.depth) (IsOperand c.args.depth) c.args.op c.in_ok-first.first c.closed-second.new.input c.expr-part.result c.expr-part-2.result c.closed-second.result c.joined.result (takes_sign classes.Double c.requires refl refl c.skip.ensures) (record { is = c.expr-part.ensures }) c.in_ok-first.ensures (record { is = c.expr-part-2.ensures }) c.closed-second.ensures c.joined.ensures).is

pub expr-returns-in_err-first : goal.expr-returns-in_err-first
expr-returns-in_err-first t c =
    fails_with _ _ c.from_residual.result c.from_residual.ensures.1 (fails_first c.in_err-first.ensures refl)

pub expr-returns-in-Compare : goal.expr-returns-in-Compare
expr-returns-in-Compare t c =
    (expr_compared (operand c.args.depth) (IsOperand c.args.depth) c.in-Compare.op c.in_ok-first.first c.total-next.new.input c.total-next.result c.joined.result c.in_ok-first.ensures c.sign.ensures c.in-Compare.is c.skip.ensures (record { is = c.total-next.ensures }) c.joined.ensures).is

pub expr-returns-in_default : goal.expr-returns-in_default
expr-returns-in_default t c =
    expr_alone (operand c.args.depth) (IsOperand c.args.depth) c.in_ok-first.ensures c.sign.ensures c.in_default.not-Compare

pub group-returns : goal.group-returns
group-returns t c =
    (group_read (operand c.args.depth) (IsOperand c.args.depth) c.closed.new.input c.expr-part.result c.closed.result (takes_sign classes.Open c.requires refl refl c.skip.ensures) (record { is = c.expr-part.ensures }) c.closed.ensures).is

pub negative-returns : goal.negative-returns
negative-returns t c =
    (negative_read (operand c.args.depth) (IsOperand c.args.depth) c.operand-part.new.input c.operand-part.result c.negated.result (takes_sign classes.Minus c.requires refl refl c.skip.ensures) (record { is = c.operand-part.ensures }) c.negated.ensures).is

pub nested-returns-in-Minus : goal.nested-returns-in-Minus
nested-returns-in-Minus t c =
    (nested_negative (operand c.args.depth) (IsOperand c.args.depth) c.negative.new.input c.negative.result (next_is classes.Minus true c.sign.ensures c.in-Minus.is refl) (record { is = c.negative.ensures })).is

pub nested-returns-in-Open : goal.nested-returns-in-Open
nested-returns-in-Open t c =
    (nested_group (operand c.args.depth) (IsOperand c.args.depth) c.group.new.input c.group.result (next_is classes.Open true c.sign.ensures c.in-Open.is refl) (record { is = c.group.ensures })).is

pub nested-returns-in-Single : goal.nested-returns-in-Single
nested-returns-in-Single t c =
    (nested_single (operand c.args.depth) (IsOperand c.args.depth) c.single.new.input c.single.result (next_is classes.Single true c.sign.ensures c.in-Single.is refl) (record { is = c.single.ensures })).is

pub nested-returns-in-Double : goal.nested-returns-in-Double
nested-returns-in-Double t c =
    (nested_double (operand c.args.depth) (IsOperand c.args.depth) c.double.new.input c.double.result (next_is classes.Double true c.sign.ensures c.in-Double.is refl) (record { is = c.double.ensures })).is

pub nested-returns-in-Triple : goal.nested-returns-in-Triple
nested-returns-in-Triple t c =
    (nested_triple (operand c.args.depth) (IsOperand c.args.depth) c.triple.new.input c.triple.result (next_is classes.Triple true c.sign.ensures c.in-Triple.is refl) (record { is = c.triple.ensures })).is

pub nested-returns-in_default : goal.nested-returns-in_default
nested-returns-in_default t c =
    nested_none (operand c.args.depth) (IsOperand c.args.depth) c.sign.ensures c.in_default.not-Minus c.in_default.not-Open c.in_default.not-Single c.in_default.not-Double c.in_default.not-Triple c.place.ensures

pub operand-returns-in-Leaf : goal.operand-returns-in-Leaf
operand-returns-in-Leaf t c =
    leaf_taken c.args.depth c.sign.ensures c.in-Leaf.is c.skip.ensures c.leaf_expr.ensures

pub operand-returns-then-depth-eq0 : goal.operand-returns-then-depth-eq0
operand-returns-then-depth-eq0 t c =
    operand_none c.args.depth c.if-depth-eq0.true c.sign.ensures c.in_default.not-Leaf c.place.ensures

pub operand-returns-else-depth-eq0 : goal.operand-returns-else-depth-eq0
operand-returns-else-depth-eq0 t c =
    let deeper : c.args.depth ≡ suc (c.args.depth - 1) = omega arith in
    (operand_nested c.args.depth (c.args.depth - 1) c.nested.new.input c.nested.result deeper c.sign.ensures c.in_default.not-Leaf (record { is = c.nested.ensures })).is

pub product-returns-in_err-product : goal.product-returns-in_err-product
product-returns-in_err-product t c =
    fails_with _ _ c.from_residual.result c.from_residual.ensures.1 (fails_first c.in_err-product.ensures refl)

pub product-factors-init : goal.product-factors-init
product-factors-init t c =
    product_first (operand c.args.depth) (IsOperand c.args.depth) c.in_ok-product.ensures

pub product-returns-in_err-product-2 : goal.product-returns-in_err-product-2
product-returns-in_err-product-2 t c =
    fails_with _ _ c.from_residual-in_err-product-2.result c.from_residual-in_err-product-2.ensures.1 (product_fails (operand c.args.depth) (IsOperand c.args.depth) c.operand-next.new.input c.operand-next.result c.factors.invariant c.factors-test.ensures (record { is = c.operand-next.ensures }) c.in_err-product-2.ensures)

pub product-factors-preserved : goal.product-factors-preserved
product-factors-preserved t c =
    product_more (operand c.args.depth) (IsOperand c.args.depth) c.operand-next.new.input c.operand-next.result c.factors.invariant c.factors-test.ensures (record { is = c.operand-next.ensures }) c.in_ok-product-2.ensures

pub product-returns : goal.product-returns
product-returns t c =
    product_done (operand c.args.depth) (IsOperand c.args.depth) c.factors.invariant c.factors-test.ensures

pub single-returns : goal.single-returns
single-returns t c =
    (single_read (operand c.args.depth) (IsOperand c.args.depth) c.args.call c.closed-part.new.input c.expr-part.result c.closed-part.result c.wrapped.result (takes_sign classes.Single c.requires refl refl c.skip.ensures) (record { is = c.expr-part.ensures }) c.closed-part.ensures c.wrapped.ensures).is

pub total-returns-in_err-total : goal.total-returns-in_err-total
total-returns-in_err-total t c =
    fails_with _ _ c.from_residual.result c.from_residual.ensures.1 (fails_first c.in_err-total.ensures refl)

pub total-terms-init : goal.total-terms-init
total-terms-init t c =
    total_first (operand c.args.depth) (IsOperand c.args.depth) c.in_ok-total.ensures

pub total-returns-in_err-total-2 : goal.total-returns-in_err-total-2
total-returns-in_err-total-2 t c =
    fails_with _ _ c.from_residual-in_err-total-2.result c.from_residual-in_err-total-2.ensures.1 (plus_fails (operand c.args.depth) (IsOperand c.args.depth) c.product-next.new.input c.product-next.result c.terms.invariant c.if-takes.ensures (record { is = c.product-next.ensures }) c.in_err-total-2.ensures)

pub total-terms-preserved-then-takes : goal.total-terms-preserved-then-takes
total-terms-preserved-then-takes t c =
    total_plus (operand c.args.depth) (IsOperand c.args.depth) c.product-next.new.input c.product-next.result c.terms.invariant c.if-takes.ensures (record { is = c.product-next.ensures }) c.in_ok-total-2.ensures

pub total-returns-in_err-total-3 : goal.total-returns-in_err-total-3
total-returns-in_err-total-3 t c =
    let so_far = subst (λ u. TotalRead (operand c.args.depth) (IsOperand c.args.depth) c.args.input.now c.terms.total u) (sym c.if-takes.ensures.0) c.terms.invariant in
    fails_with _ _ c.from_residual-in_err-total-3.result c.from_residual-in_err-total-3.ensures.1 (minus_fails (operand c.args.depth) (IsOperand c.args.depth) c.product-next-then-takes-2.new.input c.product-next-then-takes-2.result so_far c.if-takes-2.ensures (record { is = c.product-next-then-takes-2.ensures }) c.in_err-total-3.ensures)

pub total-terms-preserved : goal.total-terms-preserved
total-terms-preserved t c =
    let so_far = subst (λ u. TotalRead (operand c.args.depth) (IsOperand c.args.depth) c.args.input.now c.terms.total u) (sym c.if-takes.ensures.0) c.terms.invariant in
    total_minus (operand c.args.depth) (IsOperand c.args.depth) c.product-next-then-takes-2.new.input c.product-next-then-takes-2.result so_far c.if-takes-2.ensures (record { is = c.product-next-then-takes-2.ensures }) c.in_ok-total-3.ensures

pub total-returns-else-takes-2 : goal.total-returns-else-takes-2
total-returns-else-takes-2 t c =
    let minus = subst (λ u. IsNextOf expr_marks classes.Minus u false) c.if-takes.ensures.0 c.if-takes-2.ensures.1 in
    now_there (c.if-takes-2.ensures.0 ∙ c.if-takes.ensures.0) (total_done (operand c.args.depth) (IsOperand c.args.depth) c.terms.invariant c.if-takes.ensures.1 minus)

pub triple-returns-in_err-test : goal.triple-returns-in_err-test
triple-returns-in_err-test t c =
    fails_with _ _ c.from_residual.result c.from_residual.ensures.1 (triple_fails (operand c.args.depth) (IsOperand c.args.depth) c.followed.new.input c.expr-part.result (takes_sign classes.Triple c.requires refl refl c.skip.ensures) (record { is = c.expr-part.ensures }) c.in_err-test.ensures)

pub triple-returns-in_err-test-2 : goal.triple-returns-in_err-test-2
triple-returns-in_err-test-2 t c =
    fails_with _ _ c.from_residual-in_err-test-2.result c.from_residual-in_err-test-2.ensures.1 (second_fails (operand c.args.depth) (IsOperand c.args.depth) c.in_ok-test.test c.followed-part.new.input c.expr-part.result c.expr-part-2.result c.followed-part.result (takes_sign classes.Triple c.requires refl refl c.skip.ensures) (record { is = c.expr-part.ensures }) c.in_ok-test.ensures (record { is = c.expr-part-2.ensures }) c.followed-part.ensures c.in_err-test-2.ensures)

pub triple-returns : goal.triple-returns
triple-returns t c =
    (triple_read (operand c.args.depth) (IsOperand c.args.depth) c.in_ok-test.test (c.in_ok-test-2.test, c.in_ok-test-2.yes) c.closed-no.new.input c.expr-part.result c.expr-part-2.result c.followed-part.result c.expr-part-3.result c.closed-no.result c.choice.result (takes_sign classes.Triple c.requires refl refl c.skip.ensures) (record { is = c.expr-part.ensures }) c.in_ok-test.ensures (record { is = c.expr-part-2.ensures }) c.followed-part.ensures c.in_ok-test-2.ensures (record { is = c.expr-part-3.ensures }) c.closed-no.ensures c.choice.ensures).is
