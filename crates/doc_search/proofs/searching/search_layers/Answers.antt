use Rattle.std.proofs.Common.{List, ◌++◌, Err, refl, subst, sym, take}
use Rattle.std.specs.List.{filter}
use Rattle.doc_types.specs.declared.documents.DocRow.{DocRow}
use Rattle.doc_types.specs.Snapshots.{all_living, living}
use Rattle.op_eval.specs.Matching.{matches}
use Rattle.doc_search.specs.Searches.{passes}
use Rattle.doc_search.specs.steps.Gathering.{Gathers, matching_in}
use Rattle.doc_search.specs.steps.Lacking.{IfStopped, LacksSome, sought_question}
use Rattle.doc_search.specs.declared.question.Question.{Question}
use Rattle.doc_search.proofs.Gathering.{all_layers, gathers_none, one_layer}
use Rattle.doc_search.proofs.Stopping.{layers_stopped, stopped_with}
use Rattle.doc_search.proofs.searching.search_layers.Goals as goal

pub loop-layer-init : goal.loop-layer-init
loop-layer-init g c = gathers_none g.S.Sink.Took (sought_question c.args.lacking c.args.question.now) c.args.sink.now (g.met.S.Sink.nothing c.args.sink.now)

pub loop-layer-preserved : goal.loop-layer-preserved
loop-layer-preserved g c =
    let question = sought_question c.args.lacking c.args.question.now in
    let first = c.args.sink.now in
    let before : List DocRow = matching_in question (take c.loop-layer.layer-index c.args.layers.now) in
    subst (λ (found : List DocRow). Gathers g.S.Sink.Took question first found c.collect_layer.new.sink)
    (sym (one_layer question c.args.layers.now c.loop-layer.layer-index c.layer-item.result c.loop-layer-test.true c.layer-item.is))
    (subst (λ (its : Question). Gathers g.S.Sink.Took its first (before ++ filter (matches its.query) (living c.layer-item.result)) c.collect_layer.new.sink) c.in_ok-asked.ensures
    (c.in_ok-collect_layer.ensures.gathers first before (subst (λ (its : Question). Gathers g.S.Sink.Took its first before c.loop-layer.sink) (sym c.in_ok-asked.ensures) c.loop-layer.invariant)))

pub returns-clause-found : goal.returns-clause-found
returns-clause-found g c =
    let question = sought_question c.args.lacking c.args.question.now in
    let docs = all_living c.args.layers.now in
    let so : Gathers g.S.Sink.Took question c.args.sink.now (filter (matches question.query) docs) c.loop-layer.sink =
    subst (λ (found : List DocRow). Gathers g.S.Sink.Took question c.args.sink.now found c.loop-layer.sink) (all_layers question c.args.layers.now c.loop-layer.layer-index c.loop-layer-test.false) c.loop-layer.invariant in
    (filter (passes question) so.rows, record { rows = so.rows; weighed = so.weighed; passing = refl }, so.taken)

pub returns-in_err-collect_layer-clause-lacks : goal.returns-in_err-collect_layer-clause-lacks
returns-in_err-collect_layer-clause-lacks g c =
    let question : Question = sought_question c.args.lacking c.args.question.now in
    stopped_with (LacksSome question (all_living c.args.layers.now)) c.in_err-collect_layer.field-0.0 c.from_residual-in_err-collect_layer.result c.from_residual-in_err-collect_layer.ensures.1
    (layers_stopped question c.args.layers.now c.loop-layer.layer-index c.layer-item.result c.loop-layer-test.true c.layer-item.is c.in_err-collect_layer.field-0.0
    (subst (λ (its : Question). IfStopped {A = Unit {0}} (Err c.in_err-collect_layer.field-0.0) (LacksSome its (living c.layer-item.result))) c.in_ok-asked.ensures c.in_err-collect_layer.ensures.lacks))
