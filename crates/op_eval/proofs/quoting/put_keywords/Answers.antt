use Rattle.std.proofs.Common.{◌≡◌, ◌+◌, ◌<◌, ◌^◌, ◌++◌, ◌∷◌, [], List, map, take, sym, ap, subst, ◌∙◌}
use Rattle.std.specs.List.{flat_map}
use Rattle.std.proofs.lemmas.List.{flat_map_more, take_more}
use Rattle.occ_lists.specs.declared.term.Term.{Term}
use Rattle.occ_lists.specs.Places.{at_place}
use Rattle.occ_lists.specs.Terms.{IsPlaced}
use Rattle.op_eval.specs.steps.Worded.{term_hits, term_places}
use Rattle.op_eval.proofs.WordedPlaces.{places_more}
use Rattle.op_eval.proofs.quoting.put_keywords.Goals as goal

pub put_keyword-requires : goal.put_keyword-requires
put_keyword-requires c = subst IsPlaced (sym c.term-item.is) (c.requires _ _ c.loop-term-test.true)

pub loop-term-preserved : goal.loop-term-preserved
loop-term-preserved c =
    let terms = c.args.terms.now in
    let at = c.loop-term.term-index in
    let term = c.term-item.result in
    let spans = c.args.spans.now in
    let before = c.args.out.now in
    let taken : take at terms ++ term ∷ [] ≡ take (at + 1) terms = sym (take_more terms at term c.loop-term-test.true ∙ ap (λ (t : Term). take at terms ++ t ∷ []) (sym c.term-item.is)) in
    record {
      occs = c.in_ok-put_keyword.ensures.occs
          ∙ ap (λ list. list ++ map at_place (term_places spans term)) c.loop-term.invariant.occs
          ∙ places_more (term_places spans) before.occs.items (take at terms) term
          ∙ ap (λ (list : List Term). before.occs.items ++ map at_place (flat_map (term_places spans) list)) taken;
      hits = λ short.
          let fits : term.word < 2 ^ 16 = subst (λ (t : Term). t.word < 2 ^ 16) (sym c.term-item.is) (short _ _ c.loop-term-test.true) in
          c.in_ok-put_keyword.ensures.hits fits
          ∙ ap (λ list. list ++ term_hits spans term) (c.loop-term.invariant.hits short)
          ∙ flat_map_more (term_hits spans) before.hits.items (take at terms) term
          ∙ ap (λ (list : List Term). before.hits.items ++ flat_map (term_hits spans) list) taken;
    }
