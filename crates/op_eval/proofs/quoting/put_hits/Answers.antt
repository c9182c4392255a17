use Rattle.std.proofs.Common.{◌<◌, ◌^◌, ◌++◌, ◌∷◌, [], List, take, sym, ap, subst, ◌∙◌}
use Rattle.std.specs.List.{flat_map}
use Rattle.std.proofs.lemmas.List.{flat_map_more, take_more}
use Rattle.occ_lists.specs.declared.term.Term.{Term}
use Rattle.occ_lists.specs.Terms.{IsPlaced}
use Rattle.op_eval.specs.steps.Worded.{term_hits}
use Rattle.op_eval.proofs.quoting.put_hits.Goals as goal

pub put_hits_of-requires : goal.put_hits_of-requires
put_hits_of-requires c = subst IsPlaced (sym c.term-item.is) (c.requires _ _ c.loop-term-test.true)

pub loop-term-preserved : goal.loop-term-preserved
loop-term-preserved c = λ short.
    let terms = c.args.terms.now in
    let at = c.loop-term.term-index in
    let term = c.term-item.result in
    let places = term_hits c.args.spans.now in
    let before = c.args.hits.now.items in
    let fits : term.word < 2 ^ 16 = subst (λ (t : Term). t.word < 2 ^ 16) (sym c.term-item.is) (short _ _ c.loop-term-test.true) in
    c.in_ok-put_hits_of.ensures fits
    ∙ ap (λ list. list ++ places term) (c.loop-term.invariant short)
    ∙ flat_map_more places before (take at terms) term
    ∙ ap (λ (list : List Term). before ++ flat_map places list) (sym (take_more terms at term c.loop-term-test.true ∙ ap (λ (t : Term). take at terms ++ t ∷ []) (sym c.term-item.is)))
