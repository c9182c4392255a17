use Rattle.std.proofs.Common.{◌≡◌, ◌+◌, List, get_or, length, take, drop, sym, ap, subst, ◌∙◌, arith}
use Rattle.std.specs.Prelude.{◌==◌}
use Rattle.std.specs.List.{prefix_len}
use Rattle.std.proofs.lemmas.List.Sums.{prefix_len-le-length}
use Rattle.doc_types.specs.declared.hits.Hit.{Hit}
use Rattle.rankers.specs.steps.FieldValue.{field_value}
use Rattle.rankers.proofs.Runs.{AreSummed, run_more, runs_all, empty_is}
use Rattle.rankers.proofs.weighing.sum_in_order.Goals as goal

pub split_at-requires : goal.split_at-requires
split_at-requires c = omega (arith, c.run_of.ensures, prefix_len-le-length (λ (hit : Hit). hit.field == c.loop-field.field) c.loop-field.rest.now)

pub loop-field-preserved : goal.loop-field-preserved
loop-field-preserved c =
    let rest = c.loop-field.rest.now in
    let field = c.loop-field.field in
    let front : c.split_at.result.0.now ≡ take (prefix_len (λ (hit : Hit). hit.field == field) rest) rest = c.split_at.ensures.front ∙ ap (λ n. take n rest) c.run_of.ensures in
    let back : c.split_at.result.1.now ≡ drop (prefix_len (λ (hit : Hit). hit.field == field) rest) rest = c.split_at.ensures.back ∙ ap (λ n. drop n rest) c.run_of.ensures in
    subst (λ (later : List Hit). AreSummed c.args.ranker c.args.most c.args.weights.now c.args.hits.now later (field + 1) (c.loop-field.sum + c.field_value-sum.result)) (sym back)
    (run_more c.args.ranker c.args.most c.args.weights.now c.args.hits.now rest field c.loop-field.sum c.loop-field.invariant c.field_value-sum.result c.loop-field-test.true
    (c.field_value-sum.ensures.value ∙ ap (field_value c.args.ranker c.args.most field (get_or c.args.weights.now field 0)) front) c.field_value-sum.ensures.bound)

pub returns-then-is_empty : goal.returns-then-is_empty
returns-then-is_empty c =
    runs_all c.args.ranker c.args.most c.args.weights.now c.args.hits.now c.loop-field.rest.now c.loop-field.field c.loop-field.sum c.loop-field.invariant
    (empty_is (length c.loop-field.rest.now) c.is_empty.result c.is_empty.ensures c.if-is_empty.true) c.loop-field-test.false
