use Rattle.std.proofs.Common.{◌≡◌, ◌∙◌, Bool, true, false, List, Some, ap, sym, slice_get, subst, rules}
use Rattle.doc_types.specs.declared.documents.DocRow.{DocRow}
use Rattle.doc_types.specs.declared.schema.Value.{Value}
use Rattle.op_eval.specs.Matching.{matches}
use Rattle.op_eval.specs.Streams.{Takes}
use Rattle.doc_search.specs.steps.Gathering.{AreValuesFor}
use Rattle.doc_search.proofs.Weighing.{taken_ranked, taken_weighs}
use Rattle.doc_search.proofs.searching.weight_ranked.Goals as goal

pub returns-then-not-found-clause-weighed : goal.returns-then-not-found-clause-weighed
returns-then-not-found-clause-weighed g c = λ doc here.
    let fails : c.in_ok-found.found ≡ false = search rules in
    let takes : Takes c.args.stream.now false c.args.room.now.hits c.take.new.hits c.take.new.self =
    subst (λ (told : Bool). Takes c.args.stream.now told c.args.room.now.hits c.take.new.hits c.take.new.self) fails c.in_ok-found.ensures.takes in
    subst (λ query. matches query doc ≡ false) c.requires.query (takes.tells doc here).0

pub weigh-requires : goal.weigh-requires
weigh-requires g c =
    let fits : c.in_ok-found.found ≡ true = search rules in
    let takes : Takes c.args.stream.now true c.args.room.now.hits c.take.new.hits c.take.new.self =
    subst (λ (told : Bool). Takes c.args.stream.now told c.args.room.now.hits c.take.new.hits c.take.new.self) fits c.in_ok-found.ensures.takes in
    taken_ranked c.args.asked.now c.args.stream.now c.take.new.self c.args.room.now.hits c.take.new.hits c.requires.asked c.requires.query c.requires.within takes

pub returns-clause-weighed : goal.returns-clause-weighed
returns-clause-weighed g c = λ doc here.
    let fits : c.in_ok-found.found ≡ true = search rules in
    let takes : Takes c.args.stream.now true c.args.room.now.hits c.take.new.hits c.take.new.self =
    subst (λ (told : Bool). Takes c.args.stream.now told c.args.room.now.hits c.take.new.hits c.take.new.self) fits c.in_ok-found.ensures.takes in
    let there : slice_get (g.C.Chunk.content c.args.chunk.now) c.args.number ≡ Some doc =
    ap (slice_get (g.C.Chunk.content c.args.chunk.now)) (sym c.requires.at)
    ∙ ap (λ (rows : List DocRow). slice_get rows c.args.stream.now.at) (sym c.requires.rows)
    ∙ here in
    let read : AreValuesFor c.args.asked.now doc c.as_slice.result.now =
    subst (λ (values : List Value). AreValuesFor c.args.asked.now doc values) (sym c.as_slice.ensures.value) (c.in_ok-read_values.ensures doc there) in
    taken_weighs c.args.asked.now c.args.stream.now c.take.new.self c.args.room.now.hits c.take.new.hits c.weigh.result c.as_slice.result.now doc c.requires.query takes here read c.weigh.ensures
