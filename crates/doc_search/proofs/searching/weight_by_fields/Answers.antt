use Rattle.std.proofs.Common.{◌≡◌, ◌∙◌, List, Some, ap, sym, slice_get, subst}
use Rattle.doc_types.specs.declared.documents.DocRow.{DocRow}
use Rattle.doc_types.specs.declared.schema.Value.{Value}
use Rattle.doc_search.specs.steps.Gathering.{AreValuesFor}
use Rattle.doc_search.proofs.Weighing.{are_few, fields_weigh}
use Rattle.doc_search.proofs.searching.weight_by_fields.Goals as goal

pub weigh_by_fields-requires-clause-few : goal.weigh_by_fields-requires-clause-few
weigh_by_fields-requires-clause-few g c = are_few c.args.asked.now c.args.stream.now.rows c.requires.asked

pub returns-clause-weighed : goal.returns-clause-weighed
returns-clause-weighed g c = λ doc here.
    let there : slice_get (g.C.Chunk.content c.args.chunk.now) c.args.number ≡ Some doc =
    ap (slice_get (g.C.Chunk.content c.args.chunk.now)) (sym c.requires.at)
    ∙ ap (λ (rows : List DocRow). slice_get rows c.args.stream.now.at) (sym c.requires.rows)
    ∙ here in
    let read : AreValuesFor c.args.asked.now doc c.as_slice.result.now =
    subst (λ (values : List Value). AreValuesFor c.args.asked.now doc values) (sym c.as_slice.ensures.value) (c.in_ok-read_values.ensures doc there) in
    fields_weigh c.args.asked.now c.args.stream.now.rows c.args.stream.now.query c.args.stream.now.at c.take_fields-fields.result c.weigh_by_fields.result c.as_slice.result.now doc c.requires.asked c.requires.query c.requires.word here
    (c.take_fields-fields.ensures.fields doc here) c.if-fields-eq0.false read c.weigh_by_fields.ensures
