use Rattle.std.proofs.Common.{◌≡◌, ◌∙◌, ℕ, Some, true, false, arith, ap, sym, length}
use Rattle.std.specs.Prelude.{◌&&◌}
use Rattle.std.proofs.lemmas.Bool.{and_parts}
use Rattle.rank_expr.specs.declared.expr.Expr.{Expr}
use Rattle.rank_expr.specs.declared.expr.PairOp.TheVariants as ops
use Rattle.rank_expr.specs.ByFields.{goes_by_fields}
use Rattle.rank_expr.specs.ExpressionWeight.{absolute, both, chosen, is_matched, negative, sum_below, value_of}
use Rattle.rank_expr.proofs.ByFields.{goes_field, goes_document, goes_negative, goes_abs, goes_pair, goes_if, goes_sum}
use Rattle.rank_expr.proofs.PartValues.{value_number, value_field, value_document, value_attr, value_negative, value_abs, value_pair, value_if, value_sum, if_none, if_zero, if_other, sum_more, sum_none, sum_same}
use Rattle.rank_expr.proofs.by_fields.+value_alone.Goals as goal
use Rattle.rank_expr.proofs.by_fields.+value_alone.Goals.{then-has_bit, else-has_bit}

pub returns-in-Number : goal.returns-in-Number
returns-in-Number t c = λ goes hits alone at.
    c.number_value.ensures ∙ sym (value_number hits c.args.weights.now.list c.args.values.now c.in-Number.number c.args.at) ∙ ap (λ (e : Expr). value_of hits c.args.weights.now.list c.args.values.now e c.args.at) (sym c.in-Number.is)

pub returns-in-Field : goal.returns-in-Field
returns-in-Field t c = λ goes hits alone at.
    c.field_alone.ensures (sym (goes_field c.in-Field.factor) ∙ ap goes_by_fields (sym c.in-Field.is) ∙ goes) c.args.keywords c.args.fields hits alone at ∙ sym (value_field hits c.args.weights.now.list c.args.values.now c.in-Field.factor c.args.at) ∙ ap (λ (e : Expr). value_of hits c.args.weights.now.list c.args.values.now e c.args.at) (sym c.in-Field.is)

pub returns-in-Document : goal.returns-in-Document
returns-in-Document t c = λ goes hits alone at.
    c.whole_alone.ensures (sym (goes_document c.in-Document.factor) ∙ ap goes_by_fields (sym c.in-Document.is) ∙ goes) hits alone ∙ sym (value_document hits c.args.weights.now.list c.args.values.now c.in-Document.factor c.args.at) ∙ ap (λ (e : Expr). value_of hits c.args.weights.now.list c.args.values.now e c.args.at) (sym c.in-Document.is)

pub returns-in-Attr : goal.returns-in-Attr
returns-in-Attr t c = λ goes hits alone at.
    c.attr_value.ensures ∙ sym (value_attr hits c.args.weights.now.list c.args.values.now c.in-Attr.attr c.args.at) ∙ ap (λ (e : Expr). value_of hits c.args.weights.now.list c.args.values.now e c.args.at) (sym c.in-Attr.is)

pub returns-in-Negative : goal.returns-in-Negative
returns-in-Negative t c = λ goes hits alone at.
    c.negative.ensures ∙ ap negative (c.value_alone-plain.ensures (ap goes_by_fields c.get-inner.ensures ∙ sym (goes_negative c.in-Negative.part) ∙ ap goes_by_fields (sym c.in-Negative.is) ∙ goes) hits alone at ∙ ap (λ (e : Expr). value_of hits c.args.weights.now.list c.args.values.now e c.args.at) c.get-inner.ensures) ∙ sym (value_negative hits c.args.weights.now.list c.args.values.now c.in-Negative.part c.args.at) ∙ ap (λ (e : Expr). value_of hits c.args.weights.now.list c.args.values.now e c.args.at) (sym c.in-Negative.is)

pub returns-in-Abs : goal.returns-in-Abs
returns-in-Abs t c = λ goes hits alone at.
    c.absolute.ensures ∙ ap absolute (c.value_alone-whole.ensures (ap goes_by_fields c.get-signed.ensures ∙ sym (goes_abs c.in-Abs.part) ∙ ap goes_by_fields (sym c.in-Abs.is) ∙ goes) hits alone at ∙ ap (λ (e : Expr). value_of hits c.args.weights.now.list c.args.values.now e c.args.at) c.get-signed.ensures) ∙ sym (value_abs hits c.args.weights.now.list c.args.values.now c.in-Abs.part c.args.at) ∙ ap (λ (e : Expr). value_of hits c.args.weights.now.list c.args.values.now e c.args.at) (sym c.in-Abs.is)

pub returns-in-Pair : goal.returns-in-Pair
returns-in-Pair t c = λ goes hits alone at.
    c.both.ensures ∙ ap (λ x. both c.in-Pair.op x c.value_alone-second.result) (c.value_alone-first.ensures (ap goes_by_fields c.get-left.ensures ∙ (and_parts (goes_by_fields c.in-Pair.first) (goes_by_fields c.in-Pair.second) (sym (goes_pair c.in-Pair.op c.in-Pair.first c.in-Pair.second) ∙ ap goes_by_fields (sym c.in-Pair.is) ∙ goes)).0) hits alone at ∙ ap (λ (e : Expr). value_of hits c.args.weights.now.list c.args.values.now e c.args.at) c.get-left.ensures) ∙ ap (λ y. both c.in-Pair.op ((λ (e : Expr). value_of hits c.args.weights.now.list c.args.values.now e c.args.at) c.in-Pair.first) y) (c.value_alone-second.ensures (ap goes_by_fields c.get-right.ensures ∙ (and_parts (goes_by_fields c.in-Pair.first) (goes_by_fields c.in-Pair.second) (sym (goes_pair c.in-Pair.op c.in-Pair.first c.in-Pair.second) ∙ ap goes_by_fields (sym c.in-Pair.is) ∙ goes)).1) hits alone at ∙ ap (λ (e : Expr). value_of hits c.args.weights.now.list c.args.values.now e c.args.at) c.get-right.ensures) ∙ sym (value_pair hits c.args.weights.now.list c.args.values.now c.in-Pair.op c.in-Pair.first c.in-Pair.second c.args.at) ∙ ap (λ (e : Expr). value_of hits c.args.weights.now.list c.args.values.now e c.args.at) (sym c.in-Pair.is)

pub returns-in-None : goal.returns-in-None
returns-in-None t c = λ goes hits alone at.
    let test : c.value_alone-test.result ≡ value_of hits c.args.weights.now.list c.args.values.now c.in-If.test c.args.at = c.value_alone-test.ensures (ap goes_by_fields c.get-tested.ensures ∙ (and_parts (goes_by_fields c.in-If.test) (goes_by_fields c.in-If.yes && goes_by_fields c.in-If.no) (sym (goes_if c.in-If.test c.in-If.yes c.in-If.no) ∙ ap goes_by_fields (sym c.in-If.is) ∙ goes)).0) hits alone at ∙ ap (λ (e : Expr). value_of hits c.args.weights.now.list c.args.values.now e c.args.at) c.get-tested.ensures in
    if_none c.value_alone-test.result c.in-None.ensures (value_of hits c.args.weights.now.list c.args.values.now c.in-If.yes c.args.at) (value_of hits c.args.weights.now.list c.args.values.now c.in-If.no c.args.at) ∙ ap (λ x. chosen x (value_of hits c.args.weights.now.list c.args.values.now c.in-If.yes c.args.at) (value_of hits c.args.weights.now.list c.args.values.now c.in-If.no c.args.at)) test ∙ sym (value_if hits c.args.weights.now.list c.args.values.now c.in-If.test c.in-If.yes c.in-If.no c.args.at) ∙ ap (λ (e : Expr). value_of hits c.args.weights.now.list c.args.values.now e c.args.at) (sym c.in-If.is)

pub returns-then-zero : goal.returns-then-zero
returns-then-zero t c = λ goes hits alone at.
    let test : c.value_alone-test.result ≡ value_of hits c.args.weights.now.list c.args.values.now c.in-If.test c.args.at = c.value_alone-test.ensures (ap goes_by_fields c.get-tested.ensures ∙ (and_parts (goes_by_fields c.in-If.test) (goes_by_fields c.in-If.yes && goes_by_fields c.in-If.no) (sym (goes_if c.in-If.test c.in-If.yes c.in-If.no) ∙ ap goes_by_fields (sym c.in-If.is) ∙ goes)).0) hits alone at ∙ ap (λ (e : Expr). value_of hits c.args.weights.now.list c.args.values.now e c.args.at) c.get-tested.ensures in
    c.value_alone.ensures (ap goes_by_fields c.get-other.ensures ∙ (and_parts (goes_by_fields c.in-If.yes) (goes_by_fields c.in-If.no) (and_parts (goes_by_fields c.in-If.test) (goes_by_fields c.in-If.yes && goes_by_fields c.in-If.no) (sym (goes_if c.in-If.test c.in-If.yes c.in-If.no) ∙ ap goes_by_fields (sym c.in-If.is) ∙ goes)).1).1) hits alone at ∙ ap (λ (e : Expr). value_of hits c.args.weights.now.list c.args.values.now e c.args.at) c.get-other.ensures ∙ sym (if_zero c.value_alone-test.result c.in-Some.zero c.in-Some.ensures c.if-zero.true (value_of hits c.args.weights.now.list c.args.values.now c.in-If.yes c.args.at) (value_of hits c.args.weights.now.list c.args.values.now c.in-If.no c.args.at)) ∙ ap (λ x. chosen x (value_of hits c.args.weights.now.list c.args.values.now c.in-If.yes c.args.at) (value_of hits c.args.weights.now.list c.args.values.now c.in-If.no c.args.at)) test ∙ sym (value_if hits c.args.weights.now.list c.args.values.now c.in-If.test c.in-If.yes c.in-If.no c.args.at) ∙ ap (λ (e : Expr). value_of hits c.args.weights.now.list c.args.values.now e c.args.at) (sym c.in-If.is)

pub returns-else-zero : goal.returns-else-zero
returns-else-zero t c = λ goes hits alone at.
    let test : c.value_alone-test.result ≡ value_of hits c.args.weights.now.list c.args.values.now c.in-If.test c.args.at = c.value_alone-test.ensures (ap goes_by_fields c.get-tested.ensures ∙ (and_parts (goes_by_fields c.in-If.test) (goes_by_fields c.in-If.yes && goes_by_fields c.in-If.no) (sym (goes_if c.in-If.test c.in-If.yes c.in-If.no) ∙ ap goes_by_fields (sym c.in-If.is) ∙ goes)).0) hits alone at ∙ ap (λ (e : Expr). value_of hits c.args.weights.now.list c.args.values.now e c.args.at) c.get-tested.ensures in
    c.value_alone-else-zero.ensures (ap goes_by_fields c.get-chosen.ensures ∙ (and_parts (goes_by_fields c.in-If.yes) (goes_by_fields c.in-If.no) (and_parts (goes_by_fields c.in-If.test) (goes_by_fields c.in-If.yes && goes_by_fields c.in-If.no) (sym (goes_if c.in-If.test c.in-If.yes c.in-If.no) ∙ ap goes_by_fields (sym c.in-If.is) ∙ goes)).1).0) hits alone at ∙ ap (λ (e : Expr). value_of hits c.args.weights.now.list c.args.values.now e c.args.at) c.get-chosen.ensures ∙ sym (if_other c.value_alone-test.result c.in-Some.zero c.in-Some.ensures c.if-zero.false (value_of hits c.args.weights.now.list c.args.values.now c.in-If.yes c.args.at) (value_of hits c.args.weights.now.list c.args.values.now c.in-If.no c.args.at)) ∙ ap (λ x. chosen x (value_of hits c.args.weights.now.list c.args.values.now c.in-If.yes c.args.at) (value_of hits c.args.weights.now.list c.args.values.now c.in-If.no c.args.at)) test ∙ sym (value_if hits c.args.weights.now.list c.args.values.now c.in-If.test c.in-If.yes c.in-If.no c.args.at) ∙ ap (λ (e : Expr). value_of hits c.args.weights.now.list c.args.values.now e c.args.at) (sym c.in-If.is)

pub fields-init : goal.fields-init
fields-init t c = λ goes hits alone. sum_none (is_matched hits) (λ (field : ℕ). value_of hits c.args.weights.now.list c.args.values.now c.get-body.result.now (Some field))

pub fields-preserved : goal.fields-preserved
fields-preserved t c =
    elim c.if-has_bit.branch [
      | then-has_bit w ↦ λ goes hits alone.
          let matched : is_matched hits c.fields.field ≡ true = sym (alone.are c.fields.field) ∙ sym c.has_bit.ensures ∙ w.if-has_bit.true in
          w.sum-is ∙ w.both-sum.ensures ∙ ap (λ x. both ops.Add x w.value_alone-more.result) (c.fields.invariant goes hits alone) ∙ ap (λ y. both ops.Add (sum_below (is_matched hits) (λ (field : ℕ). value_of hits c.args.weights.now.list c.args.values.now c.get-body.result.now (Some field)) c.fields.field) y) (w.value_alone-more.ensures goes hits alone matched) ∙ sym (sum_more (is_matched hits) (λ (field : ℕ). value_of hits c.args.weights.now.list c.args.values.now c.get-body.result.now (Some field)) c.fields.field matched)
      | else-has_bit w ↦ λ goes hits alone.
          let other : is_matched hits c.fields.field ≡ false = sym (alone.are c.fields.field) ∙ sym c.has_bit.ensures ∙ w.if-has_bit.false in
          w.sum-is ∙ c.fields.invariant goes hits alone ∙ sym (sum_same (is_matched hits) (λ (field : ℕ). value_of hits c.args.weights.now.list c.args.values.now c.get-body.result.now (Some field)) c.fields.field other)
    ]

pub returns-after-fields : goal.returns-after-fields
returns-after-fields t c = λ goes hits alone at.
    let whole : c.fields.field ≡ length c.args.weights.now.list = omega (arith, c.fields-test.false, c.fields.auto.field-end, c.len-field-end.ensures) in
    c.fields.invariant (ap goes_by_fields c.get-body.ensures ∙ sym (goes_sum c.in-Sum.part) ∙ ap goes_by_fields (sym c.in-Sum.is) ∙ goes) hits alone ∙ ap (λ (k : ℕ). sum_below (is_matched hits) (λ (field : ℕ). value_of hits c.args.weights.now.list c.args.values.now c.get-body.result.now (Some field)) k) whole ∙ ap (λ (b : Expr). sum_below (is_matched hits) (λ (field : ℕ). value_of hits c.args.weights.now.list c.args.values.now b (Some field)) (length c.args.weights.now.list)) c.get-body.ensures ∙ sym (value_sum hits c.args.weights.now.list c.args.values.now c.in-Sum.part c.args.at) ∙ ap (λ (e : Expr). value_of hits c.args.weights.now.list c.args.values.now e c.args.at) (sym c.in-Sum.is)
