use Rattle.std.proofs.Common.{◌≡◌, ◌∙◌, ℕ, Some, true, false, arith, ap, sym, subst, length}
use Rattle.std.specs.Prelude.{◌==◌}
use Rattle.std.specs.List.{list_any}
use Rattle.doc_types.specs.declared.hits.Hit.{Hit}
use Rattle.rank_expr.specs.declared.expr.Expr.{Expr}
use Rattle.rank_expr.specs.declared.expr.PairOp.TheVariants as ops
use Rattle.rank_expr.specs.ExpressionWeight.{absolute, both, chosen, is_matched, negative, sum_below, value_of}
use Rattle.rank_expr.specs.steps.Summing.{IsMemo}
use Rattle.rank_expr.proofs.PartValues.{value_number, value_field, value_document, value_attr, value_negative, value_abs, value_pair, value_if, value_sum, if_none, if_zero, if_other, sum_more, sum_none, sum_same}
use Rattle.rank_expr.proofs.ranking.+value_of.Goals as goal
use Rattle.rank_expr.proofs.ranking.+value_of.Goals.{then-is_matched, else-is_matched}

pub returns-in-Number-clause-value : goal.returns-in-Number-clause-value
returns-in-Number-clause-value t c =
    c.number_value.ensures ∙ sym (value_number c.args.hits.now c.args.weights.now.list c.args.values.now c.in-Number.number c.args.at) ∙ ap (λ (e : Expr). value_of c.args.hits.now c.args.weights.now.list c.args.values.now e c.args.at) (sym c.in-Number.is)

pub returns-in-Field-clause-value : goal.returns-in-Field-clause-value
returns-in-Field-clause-value t c =
    c.field_value.ensures.value ∙ sym (value_field c.args.hits.now c.args.weights.now.list c.args.values.now c.in-Field.factor c.args.at) ∙ ap (λ (e : Expr). value_of c.args.hits.now c.args.weights.now.list c.args.values.now e c.args.at) (sym c.in-Field.is)

pub returns-in-Document-clause-value : goal.returns-in-Document-clause-value
returns-in-Document-clause-value t c =
    c.whole_value.ensures ∙ sym (value_document c.args.hits.now c.args.weights.now.list c.args.values.now c.in-Document.factor c.args.at) ∙ ap (λ (e : Expr). value_of c.args.hits.now c.args.weights.now.list c.args.values.now e c.args.at) (sym c.in-Document.is)

pub returns-in-Attr-clause-value : goal.returns-in-Attr-clause-value
returns-in-Attr-clause-value t c =
    c.attr_value.ensures ∙ sym (value_attr c.args.hits.now c.args.weights.now.list c.args.values.now c.in-Attr.attr c.args.at) ∙ ap (λ (e : Expr). value_of c.args.hits.now c.args.weights.now.list c.args.values.now e c.args.at) (sym c.in-Attr.is)

pub returns-in-Negative-clause-value : goal.returns-in-Negative-clause-value
returns-in-Negative-clause-value t c =
    c.negative.ensures ∙ ap negative (c.value_of-plain.ensures.value ∙ ap (λ (e : Expr). value_of c.args.hits.now c.args.weights.now.list c.args.values.now e c.args.at) c.get-inner.ensures) ∙ sym (value_negative c.args.hits.now c.args.weights.now.list c.args.values.now c.in-Negative.part c.args.at) ∙ ap (λ (e : Expr). value_of c.args.hits.now c.args.weights.now.list c.args.values.now e c.args.at) (sym c.in-Negative.is)

pub returns-in-Abs-clause-value : goal.returns-in-Abs-clause-value
returns-in-Abs-clause-value t c =
    c.absolute.ensures ∙ ap absolute (c.value_of-whole.ensures.value ∙ ap (λ (e : Expr). value_of c.args.hits.now c.args.weights.now.list c.args.values.now e c.args.at) c.get-signed.ensures) ∙ sym (value_abs c.args.hits.now c.args.weights.now.list c.args.values.now c.in-Abs.part c.args.at) ∙ ap (λ (e : Expr). value_of c.args.hits.now c.args.weights.now.list c.args.values.now e c.args.at) (sym c.in-Abs.is)

pub returns-in-Pair-clause-value : goal.returns-in-Pair-clause-value
returns-in-Pair-clause-value t c =
    c.both.ensures ∙ ap (λ x. both c.in-Pair.op x c.value_of-second.result) (c.value_of-first.ensures.value ∙ ap (λ (e : Expr). value_of c.args.hits.now c.args.weights.now.list c.args.values.now e c.args.at) c.get-left.ensures) ∙ ap (λ y. both c.in-Pair.op ((λ (e : Expr). value_of c.args.hits.now c.args.weights.now.list c.args.values.now e c.args.at) c.in-Pair.first) y) (c.value_of-second.ensures.value ∙ ap (λ (e : Expr). value_of c.args.hits.now c.args.weights.now.list c.args.values.now e c.args.at) c.get-right.ensures) ∙ sym (value_pair c.args.hits.now c.args.weights.now.list c.args.values.now c.in-Pair.op c.in-Pair.first c.in-Pair.second c.args.at) ∙ ap (λ (e : Expr). value_of c.args.hits.now c.args.weights.now.list c.args.values.now e c.args.at) (sym c.in-Pair.is)

pub returns-in-None-clause-value : goal.returns-in-None-clause-value
returns-in-None-clause-value t c =
    let test : c.value_of-test.result ≡ value_of c.args.hits.now c.args.weights.now.list c.args.values.now c.in-If.test c.args.at = c.value_of-test.ensures.value ∙ ap (λ (e : Expr). value_of c.args.hits.now c.args.weights.now.list c.args.values.now e c.args.at) c.get-tested.ensures in
    if_none c.value_of-test.result c.in-None.ensures (value_of c.args.hits.now c.args.weights.now.list c.args.values.now c.in-If.yes c.args.at) (value_of c.args.hits.now c.args.weights.now.list c.args.values.now c.in-If.no c.args.at) ∙ ap (λ x. chosen x (value_of c.args.hits.now c.args.weights.now.list c.args.values.now c.in-If.yes c.args.at) (value_of c.args.hits.now c.args.weights.now.list c.args.values.now c.in-If.no c.args.at)) test ∙ sym (value_if c.args.hits.now c.args.weights.now.list c.args.values.now c.in-If.test c.in-If.yes c.in-If.no c.args.at) ∙ ap (λ (e : Expr). value_of c.args.hits.now c.args.weights.now.list c.args.values.now e c.args.at) (sym c.in-If.is)

pub returns-then-zero-clause-value : goal.returns-then-zero-clause-value
returns-then-zero-clause-value t c =
    let test : c.value_of-test.result ≡ value_of c.args.hits.now c.args.weights.now.list c.args.values.now c.in-If.test c.args.at = c.value_of-test.ensures.value ∙ ap (λ (e : Expr). value_of c.args.hits.now c.args.weights.now.list c.args.values.now e c.args.at) c.get-tested.ensures in
    c.value_of.ensures.value ∙ ap (λ (e : Expr). value_of c.args.hits.now c.args.weights.now.list c.args.values.now e c.args.at) c.get-other.ensures ∙ sym (if_zero c.value_of-test.result c.in-Some.zero c.in-Some.ensures c.if-zero.true (value_of c.args.hits.now c.args.weights.now.list c.args.values.now c.in-If.yes c.args.at) (value_of c.args.hits.now c.args.weights.now.list c.args.values.now c.in-If.no c.args.at)) ∙ ap (λ x. chosen x (value_of c.args.hits.now c.args.weights.now.list c.args.values.now c.in-If.yes c.args.at) (value_of c.args.hits.now c.args.weights.now.list c.args.values.now c.in-If.no c.args.at)) test ∙ sym (value_if c.args.hits.now c.args.weights.now.list c.args.values.now c.in-If.test c.in-If.yes c.in-If.no c.args.at) ∙ ap (λ (e : Expr). value_of c.args.hits.now c.args.weights.now.list c.args.values.now e c.args.at) (sym c.in-If.is)

pub returns-else-zero-clause-value : goal.returns-else-zero-clause-value
returns-else-zero-clause-value t c =
    let test : c.value_of-test.result ≡ value_of c.args.hits.now c.args.weights.now.list c.args.values.now c.in-If.test c.args.at = c.value_of-test.ensures.value ∙ ap (λ (e : Expr). value_of c.args.hits.now c.args.weights.now.list c.args.values.now e c.args.at) c.get-tested.ensures in
    c.value_of-else-zero.ensures.value ∙ ap (λ (e : Expr). value_of c.args.hits.now c.args.weights.now.list c.args.values.now e c.args.at) c.get-chosen.ensures ∙ sym (if_other c.value_of-test.result c.in-Some.zero c.in-Some.ensures c.if-zero.false (value_of c.args.hits.now c.args.weights.now.list c.args.values.now c.in-If.yes c.args.at) (value_of c.args.hits.now c.args.weights.now.list c.args.values.now c.in-If.no c.args.at)) ∙ ap (λ x. chosen x (value_of c.args.hits.now c.args.weights.now.list c.args.values.now c.in-If.yes c.args.at) (value_of c.args.hits.now c.args.weights.now.list c.args.values.now c.in-If.no c.args.at)) test ∙ sym (value_if c.args.hits.now c.args.weights.now.list c.args.values.now c.in-If.test c.in-If.yes c.in-If.no c.args.at) ∙ ap (λ (e : Expr). value_of c.args.hits.now c.args.weights.now.list c.args.values.now e c.args.at) (sym c.in-If.is)

pub fields-init : goal.fields-init
fields-init t c =
    record { sum = sum_none (is_matched c.args.hits.now) (λ (field : ℕ). value_of c.args.hits.now c.args.weights.now.list c.args.values.now c.get-body.result.now (Some field)); memo = c.requires.memo }

pub fields-preserved : goal.fields-preserved
fields-preserved t c =
    elim c.if-is_matched.branch [
      | then-is_matched w ↦
          let matched : is_matched c.args.hits.now c.fields.field ≡ true = sym (c.is_matched.ensures ∙ ap (list_any (λ (hit : Hit). hit.field == c.fields.field)) c.as_slice.ensures) ∙ w.if-is_matched.true in
          record {
            sum = w.sum-is ∙ w.both-sum.ensures ∙ ap (λ x. both ops.Add x w.value_of-more.result) c.fields.invariant.sum ∙ ap (λ y. both ops.Add (sum_below (is_matched c.args.hits.now) (λ (field : ℕ). value_of c.args.hits.now c.args.weights.now.list c.args.values.now c.get-body.result.now (Some field)) c.fields.field) y) w.value_of-more.ensures.value ∙ sym (sum_more (is_matched c.args.hits.now) (λ (field : ℕ). value_of c.args.hits.now c.args.weights.now.list c.args.values.now c.get-body.result.now (Some field)) c.fields.field matched);
            memo = subst (IsMemo c.args.hits.now) (sym w.memo-is) w.value_of-more.ensures.memo;
          }
      | else-is_matched w ↦
          let other : is_matched c.args.hits.now c.fields.field ≡ false = sym (c.is_matched.ensures ∙ ap (list_any (λ (hit : Hit). hit.field == c.fields.field)) c.as_slice.ensures) ∙ w.if-is_matched.false in
          record {
            sum = w.sum-is ∙ c.fields.invariant.sum ∙ sym (sum_same (is_matched c.args.hits.now) (λ (field : ℕ). value_of c.args.hits.now c.args.weights.now.list c.args.values.now c.get-body.result.now (Some field)) c.fields.field other);
            memo = subst (IsMemo c.args.hits.now) (sym w.memo-is) c.fields.invariant.memo;
          }
    ]

pub returns-after-fields-clause-value : goal.returns-after-fields-clause-value
returns-after-fields-clause-value t c =
    let whole : c.fields.field ≡ length c.args.weights.now.list = omega (arith, c.fields-test.false, c.fields.auto.field-end, c.len-field-end.ensures) in
    c.fields.invariant.sum ∙ ap (λ (k : ℕ). sum_below (is_matched c.args.hits.now) (λ (field : ℕ). value_of c.args.hits.now c.args.weights.now.list c.args.values.now c.get-body.result.now (Some field)) k) whole ∙ ap (λ (b : Expr). sum_below (is_matched c.args.hits.now) (λ (field : ℕ). value_of c.args.hits.now c.args.weights.now.list c.args.values.now b (Some field)) (length c.args.weights.now.list)) c.get-body.ensures ∙ sym (value_sum c.args.hits.now c.args.weights.now.list c.args.values.now c.in-Sum.part c.args.at) ∙ ap (λ (e : Expr). value_of c.args.hits.now c.args.weights.now.list c.args.values.now e c.args.at) (sym c.in-Sum.is)
