use Rattle.std.proofs.Common.{◌∙◌, ap, sym}
use Rattle.std.specs.Prelude.{◌&&◌}
use Rattle.rank_expr.specs.ByFields.{goes_by_fields}
use Rattle.rank_expr.proofs.ByFields.{goes_number, goes_field, goes_document, goes_attr, goes_negative, goes_abs, goes_pair, goes_if, goes_sum, both_hold, first_fails}
use Rattle.rank_expr.proofs.by_fields.+each_by_fields.Goals as goal

pub returns-in-Number : goal.returns-in-Number
returns-in-Number t c =
    sym (goes_number c.in-Number.field-0) ∙ ap goes_by_fields (sym c.in-Number.is)

pub returns-in-Field : goal.returns-in-Field
returns-in-Field t c =
    c.factor_by_fields.ensures ∙ sym (goes_field c.in-Field.factor) ∙ ap goes_by_fields (sym c.in-Field.is)

pub returns-in-Document : goal.returns-in-Document
returns-in-Document t c =
    c.document_by_fields.ensures ∙ sym (goes_document c.in-Document.factor) ∙ ap goes_by_fields (sym c.in-Document.is)

pub returns-in-Attr : goal.returns-in-Attr
returns-in-Attr t c =
    sym (goes_attr c.in-Attr.field-0) ∙ ap goes_by_fields (sym c.in-Attr.is)

pub returns-in-Negative : goal.returns-in-Negative
returns-in-Negative t c =
    c.each_by_fields.ensures ∙ ap goes_by_fields c.get-plain.ensures ∙ sym (goes_negative c.in-Negative.part) ∙ ap goes_by_fields (sym c.in-Negative.is)

pub returns-in-Abs : goal.returns-in-Abs
returns-in-Abs t c =
    c.each_by_fields-in-Abs.ensures ∙ ap goes_by_fields c.get-signed.ensures ∙ sym (goes_abs c.in-Abs.part) ∙ ap goes_by_fields (sym c.in-Abs.is)

pub returns-in-Sum : goal.returns-in-Sum
returns-in-Sum t c =
    c.each_by_fields-in-Sum.ensures ∙ ap goes_by_fields c.get-body.ensures ∙ sym (goes_sum c.in-Sum.part) ∙ ap goes_by_fields (sym c.in-Sum.is)

pub returns-then-one : goal.returns-then-one
returns-then-one t c =
    both_hold c.each_by_fields-one.result c.each_by_fields-other.result c.if-one.true ∙ ap (λ b. b && c.each_by_fields-other.result) (c.each_by_fields-one.ensures ∙ ap goes_by_fields c.get-left.ensures) ∙ ap (λ b. goes_by_fields c.in-Pair.first && b) (c.each_by_fields-other.ensures ∙ ap goes_by_fields c.get-right.ensures) ∙ sym (goes_pair c.in-Pair.field-0 c.in-Pair.first c.in-Pair.second) ∙ ap goes_by_fields (sym c.in-Pair.is)

pub returns-else-one : goal.returns-else-one
returns-else-one t c =
    first_fails c.each_by_fields-one.result c.each_by_fields-other.result c.if-one.false ∙ ap (λ b. b && c.each_by_fields-other.result) (c.each_by_fields-one.ensures ∙ ap goes_by_fields c.get-left.ensures) ∙ ap (λ b. goes_by_fields c.in-Pair.first && b) (c.each_by_fields-other.ensures ∙ ap goes_by_fields c.get-right.ensures) ∙ sym (goes_pair c.in-Pair.field-0 c.in-Pair.first c.in-Pair.second) ∙ ap goes_by_fields (sym c.in-Pair.is)

pub returns-then-yes : goal.returns-then-yes
returns-then-yes t c =
    both_hold c.each_by_fields-yes.result c.each_by_fields-no.result c.if-yes.true ∙ both_hold c.each_by_fields-test.result (c.each_by_fields-yes.result && c.each_by_fields-no.result) c.if-test.true ∙ ap (λ b. b && (c.each_by_fields-yes.result && c.each_by_fields-no.result)) (c.each_by_fields-test.ensures ∙ ap goes_by_fields c.get-tested.ensures) ∙ ap (λ b. goes_by_fields c.in-If.test && (b && c.each_by_fields-no.result)) (c.each_by_fields-yes.ensures ∙ ap goes_by_fields c.get-chosen.ensures) ∙ ap (λ b. goes_by_fields c.in-If.test && (goes_by_fields c.in-If.yes && b)) (c.each_by_fields-no.ensures ∙ ap goes_by_fields c.get-other.ensures) ∙ sym (goes_if c.in-If.test c.in-If.yes c.in-If.no) ∙ ap goes_by_fields (sym c.in-If.is)

pub returns-else-yes : goal.returns-else-yes
returns-else-yes t c =
    first_fails c.each_by_fields-yes.result c.each_by_fields-no.result c.if-yes.false ∙ both_hold c.each_by_fields-test.result (c.each_by_fields-yes.result && c.each_by_fields-no.result) c.if-test.true ∙ ap (λ b. b && (c.each_by_fields-yes.result && c.each_by_fields-no.result)) (c.each_by_fields-test.ensures ∙ ap goes_by_fields c.get-tested.ensures) ∙ ap (λ b. goes_by_fields c.in-If.test && (b && c.each_by_fields-no.result)) (c.each_by_fields-yes.ensures ∙ ap goes_by_fields c.get-chosen.ensures) ∙ ap (λ b. goes_by_fields c.in-If.test && (goes_by_fields c.in-If.yes && b)) (c.each_by_fields-no.ensures ∙ ap goes_by_fields c.get-other.ensures) ∙ sym (goes_if c.in-If.test c.in-If.yes c.in-If.no) ∙ ap goes_by_fields (sym c.in-If.is)

pub returns-else-test : goal.returns-else-test
returns-else-test t c =
    first_fails c.each_by_fields-test.result (c.each_by_fields-yes.result && c.each_by_fields-no.result) c.if-test.false ∙ ap (λ b. b && (c.each_by_fields-yes.result && c.each_by_fields-no.result)) (c.each_by_fields-test.ensures ∙ ap goes_by_fields c.get-tested.ensures) ∙ ap (λ b. goes_by_fields c.in-If.test && (b && c.each_by_fields-no.result)) (c.each_by_fields-yes.ensures ∙ ap goes_by_fields c.get-chosen.ensures) ∙ ap (λ b. goes_by_fields c.in-If.test && (goes_by_fields c.in-If.yes && b)) (c.each_by_fields-no.ensures ∙ ap goes_by_fields c.get-other.ensures) ∙ sym (goes_if c.in-If.test c.in-If.yes c.in-If.no) ∙ ap goes_by_fields (sym c.in-If.is)
