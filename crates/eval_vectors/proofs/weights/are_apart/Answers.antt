use Rattle.std.proofs.Common.{get_or, take, sym, subst}
use Rattle.std.specs.List.{AllPairs}
use Rattle.std.proofs.lemmas.List.{take_all, take_more}
use Rattle.std.proofs.lemmas.List.Quantifiers.{all_pairs_push}
use Rattle.doc_types.specs.declared.hits.Hit.{Hit}
use Rattle.rankers.specs.Weight.{Differ}
use Rattle.eval_vectors.proofs.weights.are_apart.Goals as goal

pub loop-place-preserved : goal.loop-place-preserved
loop-place-preserved c =
    let d : Hit = record { query = 0; word = 0; field = 0; position = 0 } in
    let before = take c.loop-place.place c.args.hits.now in
    let hit : Hit = get_or c.args.hits.now c.loop-place.place d in
    subst (AllPairs Differ) (sym (take_more c.args.hits.now c.loop-place.place d c.loop-place-test.true))
    (all_pairs_push Differ before hit c.loop-place.invariant (c.has_place.ensures c.if-has_place.false))

pub returns : goal.returns
returns c = λ _. subst (AllPairs Differ) (take_all c.loop-place.place c.args.hits.now c.loop-place-test.false) c.loop-place.invariant
