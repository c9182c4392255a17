use Rattle.std.proofs.Common.{rules, w64, ◌≡◌, ◌∙◌, ℕ, Some, true, false, arith, ap, sym, length}
use Rattle.std.specs.Int.{cast_signed, cast_unsigned}
use Rattle.std.proofs.lemmas.Option.{IfSome_then}
use Rattle.rank_expr.specs.declared.expr.Expr.{Expr}
use Rattle.rank_expr.specs.declared.expr.PairOp.TheVariants as ops
use Rattle.rank_expr.specs.ExpressionWeight.{both, is_matched, paired, sum_below, value_of}
use Rattle.rank_expr.proofs.PartValues.{value_number, value_field, value_attr, value_pair, value_sum, sum_more, sum_none, sum_same}
use Rattle.rank_expr.proofs.short_values.+short_value.Goals as goal
use Rattle.rank_expr.proofs.short_values.+short_value.Goals.{then-has_bit+in_ok-more-in-Sum+in_ok-sum-in-Sum, else-has_bit}

pub returns-in-Number : goal.returns-in-Number
returns-in-Number t c = λ keywords hits alone at.
    IfSome_then c.short_number.result c.short_number.ensures
    (λ value is. ap (λ (e : Expr). value_of hits c.args.weights.now.list c.args.values.now e c.args.at) c.in-Number.is ∙ value_number hits c.args.weights.now.list c.args.values.now c.in-Number.number c.args.at ∙ ap Some (sym is))

pub returns-in-Field : goal.returns-in-Field
returns-in-Field t c = λ keywords hits alone at.
    IfSome_then c.short_field.result (c.short_field.ensures keywords c.args.fields hits alone at)
    (λ value is. ap (λ (e : Expr). value_of hits c.args.weights.now.list c.args.values.now e c.args.at) c.in-Field.is ∙ value_field hits c.args.weights.now.list c.args.values.now c.in-Field.factor c.args.at ∙ is)

pub returns-in-Attr : goal.returns-in-Attr
returns-in-Attr t c = λ keywords hits alone at.
    IfSome_then c.short_attr.result c.short_attr.ensures
    (λ value is. ap (λ (e : Expr). value_of hits c.args.weights.now.list c.args.values.now e c.args.at) c.in-Attr.is ∙ value_attr hits c.args.weights.now.list c.args.values.now c.in-Attr.attr c.args.at ∙ is)

pub returns-in_ok-other-in-Pair : goal.returns-in_ok-other-in-Pair
returns-in_ok-other-in-Pair t c = λ keywords hits alone at.
    let one : value_of hits c.args.weights.now.list c.args.values.now c.in-Pair.first c.args.at ≡ Some c.in_ok-one-in-Pair.one = ap (λ (e : Expr). value_of hits c.args.weights.now.list c.args.values.now e c.args.at) (sym c.get-left.ensures) ∙ c.in_ok-one-in-Pair.ensures keywords hits alone at in
    let other : value_of hits c.args.weights.now.list c.args.values.now c.in-Pair.second c.args.at ≡ Some c.in_ok-other-in-Pair.other = ap (λ (e : Expr). value_of hits c.args.weights.now.list c.args.values.now e c.args.at) (sym c.get-right.ensures) ∙ c.in_ok-other-in-Pair.ensures keywords hits alone at in
    let first : cast_signed w64 (cast_unsigned w64 c.in_ok-one-in-Pair.one) ≡ c.in_ok-one-in-Pair.one = search rules in
    let second : cast_signed w64 (cast_unsigned w64 c.in_ok-other-in-Pair.other) ≡ c.in_ok-other-in-Pair.other = search rules in
    IfSome_then c.short_pair.result c.short_pair.ensures
    (λ value is.
    ap (λ (e : Expr). value_of hits c.args.weights.now.list c.args.values.now e c.args.at) c.in-Pair.is
    ∙ value_pair hits c.args.weights.now.list c.args.values.now c.in-Pair.op c.in-Pair.first c.in-Pair.second c.args.at
    ∙ ap (λ x. both c.in-Pair.op x (value_of hits c.args.weights.now.list c.args.values.now c.in-Pair.second c.args.at)) one
    ∙ ap (both c.in-Pair.op (Some c.in_ok-one-in-Pair.one)) other
    ∙ ap (λ z. paired c.in-Pair.op z c.in_ok-other-in-Pair.other) (sym first)
    ∙ ap (paired c.in-Pair.op (cast_signed w64 (cast_unsigned w64 c.in_ok-one-in-Pair.one))) (sym second)
    ∙ is)

pub fields-init : goal.fields-init
fields-init t c = λ keywords hits alone. sym (sum_none (is_matched hits) (λ (field : ℕ). value_of hits c.args.weights.now.list c.args.values.now c.get-body.result.now (Some field)))

pub fields-preserved : goal.fields-preserved
fields-preserved t c =
    elim c.if-has_bit.branch [
      | then-has_bit+in_ok-more-in-Sum+in_ok-sum-in-Sum w ↦ λ keywords hits alone.
          let matched : is_matched hits c.fields.field ≡ true = sym (alone.are c.fields.field) ∙ sym c.has_bit.ensures ∙ w.if-has_bit.true in
          let again : cast_signed w64 (cast_unsigned w64 w.in_ok-more-in-Sum.more) ≡ w.in_ok-more-in-Sum.more = search rules in
          let summed : cast_signed w64 (cast_unsigned w64 w.in_ok-sum-in-Sum.sum) ≡ w.in_ok-sum-in-Sum.sum = search rules in
          sum_more (is_matched hits) (λ (field : ℕ). value_of hits c.args.weights.now.list c.args.values.now c.get-body.result.now (Some field)) c.fields.field matched
          ∙ ap (λ x. both ops.Add x (value_of hits c.args.weights.now.list c.args.values.now c.get-body.result.now (Some c.fields.field))) (c.fields.invariant keywords hits alone)
          ∙ ap (both ops.Add (Some (cast_signed w64 c.fields.sum-bits))) (w.in_ok-more-in-Sum.ensures keywords hits alone matched)
          ∙ ap (λ z. paired ops.Add (cast_signed w64 c.fields.sum-bits) z) (sym again)
          ∙ w.in_ok-sum-in-Sum.ensures
          ∙ ap Some (sym summed)
          ∙ ap Some (sym w.sum-is)
      | else-has_bit w ↦ λ keywords hits alone.
          let other : is_matched hits c.fields.field ≡ false = sym (alone.are c.fields.field) ∙ sym c.has_bit.ensures ∙ w.if-has_bit.false in
          sum_same (is_matched hits) (λ (field : ℕ). value_of hits c.args.weights.now.list c.args.values.now c.get-body.result.now (Some field)) c.fields.field other ∙ c.fields.invariant keywords hits alone ∙ ap Some (sym w.sum-is)
    ]

pub returns-after-fields : goal.returns-after-fields
returns-after-fields t c = λ keywords hits alone at.
    let whole : c.fields.field ≡ length c.args.weights.now.list = omega (arith, c.fields-test.false, c.fields.auto.field-end, c.len-field-end.ensures) in
    ap (λ (e : Expr). value_of hits c.args.weights.now.list c.args.values.now e c.args.at) c.in-Sum.is
    ∙ value_sum hits c.args.weights.now.list c.args.values.now c.in-Sum.part c.args.at
    ∙ ap (λ (b : Expr). sum_below (is_matched hits) (λ (field : ℕ). value_of hits c.args.weights.now.list c.args.values.now b (Some field)) (length c.args.weights.now.list)) (sym c.get-body.ensures)
    ∙ ap (sum_below (is_matched hits) (λ (field : ℕ). value_of hits c.args.weights.now.list c.args.values.now c.get-body.result.now (Some field))) (sym whole)
    ∙ c.fields.invariant keywords hits alone
