use Rattle.std.proofs.Common.{List, refl, sym, subst}
use Rattle.doc_types.specs.declared.schema.Value.{Value}
use Rattle.word_rows.proofs.Opening.{row_there}
use Rattle.doc_search.specs.declared.told_weights.ToldWeight.TheVariants as told_weights
use Rattle.doc_search.specs.declared.told_weights.ToldWeight.{ToldWeight}
use Rattle.doc_search.specs.steps.Gathering.{AreValuesFor}
use Rattle.doc_search.specs.steps.Windows.{TellsWeight}
use Rattle.doc_search.proofs.ToldWeights.{if_weighed, some_field}
use Rattle.doc_search.proofs.Weighing.{fields_weigh, weighs_one}
use Rattle.doc_search.proofs.told_weights.weight_told.Goals as goal

pub weigh_by_fields-requires-clause-looks : goal.weigh_by_fields-requires-clause-looks
weigh_by_fields-requires-clause-looks g c =
    let there = row_there (g.C.Chunk.content c.args.chunk.now) c.args.number c.requires.number in
    let tells : TellsWeight c.args.asked.now told_weights.Fields there.0 c.args.its =
    subst (λ (weighs : ToldWeight). TellsWeight c.args.asked.now weighs there.0 c.args.its) c.in-Fields.is (c.requires.tells there.0 there.1) in
    tells.0

pub returns-in-One : goal.returns-in-One
returns-in-One g c = λ doc here fits.
    let tells : TellsWeight c.args.asked.now told_weights.One doc c.args.its =
    subst (λ (weighs : ToldWeight). TellsWeight c.args.asked.now weighs doc c.args.its) c.in-One.is (c.requires.tells doc here) in
    weighs_one c.args.asked.now c.args.asked.now.query doc tells refl fits

pub returns-in_ok-read_values-in-Fields : goal.returns-in_ok-read_values-in-Fields
returns-in_ok-read_values-in-Fields g c = λ doc here fits.
    let tells : TellsWeight c.args.asked.now told_weights.Fields doc c.args.its =
    subst (λ (weighs : ToldWeight). TellsWeight c.args.asked.now weighs doc c.args.its) c.in-Fields.is (c.requires.tells doc here) in
    let read : AreValuesFor c.args.asked.now doc c.as_slice.result.now =
    subst (λ (values : List Value). AreValuesFor c.args.asked.now doc values) (sym c.as_slice.ensures.value) (c.in_ok-read_values-in-Fields.ensures doc here) in
    if_weighed c.args.asked.now doc c.weigh_by_fields.result
    (fields_weigh c.args.asked.now (g.C.Chunk.content c.args.chunk.now) c.args.asked.now.query c.args.number c.args.its.fields c.weigh_by_fields.result c.as_slice.result.now doc c.requires.asked refl tells.1 here tells.2
    (some_field c.args.asked.now doc c.args.its.fields tells.2 fits) read c.weigh_by_fields.ensures)
