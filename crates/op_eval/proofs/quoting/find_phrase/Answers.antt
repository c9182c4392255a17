use Rattle.std.proofs.Common.{◌≡◌, ◌++◌, ◌∙◌, ap, sym, true, map}
use Rattle.std.specs.List.{filter, flat_map, list_any}
use Rattle.occ_lists.specs.declared.occ.Occ.{Occ}
use Rattle.occ_lists.specs.Places.{holds}
use Rattle.occ_lists.specs.Runs.{runs}
use Rattle.occ_lists.proofs.Members.{same_is}
use Rattle.word_rows.specs.Keywords.{Spans}
use Rattle.op_eval.specs.Finding.{is_inside}
use Rattle.word_rows.specs.Terms.{AreShort}
use Rattle.op_eval.specs.steps.Worded.{term_hits, term_places}
use Rattle.op_eval.proofs.Appending.{empty_same, made_found, made_none}
use Rattle.op_eval.proofs.quoting.find_phrase.Goals as goal

pub returns-clause-found : goal.returns-clause-found
returns-clause-found c =
    let terms = c.args.terms.now in
    let spans = c.args.work.now.spans.items in
    let found = λ (s : Spans). runs (map (term_places s) terms) in
    let list = c.put_runs.new.out.items in
    let is : list ≡ found spans = c.in_ok-put_runs.ensures ∙ ap (λ occs. occs ++ found c.deref.result.now) c.take_occs-runs.ensures ∙ ap found c.deref.ensures.value in
    let hits : AreShort terms → c.put_hits.new.hits.items ≡ flat_map (term_hits spans) terms = λ short.
    c.in_ok-put_hits.ensures short ∙ ap (λ all. all ++ flat_map (term_hits c.deref-3.result.now) terms) c.take_hits-hits.ensures ∙ ap (λ (s : Spans). flat_map (term_hits s) terms) c.deref-3.ensures.value in
    made_found (found spans) list list (flat_map (term_hits spans) terms) c.args.out.now c.put_inside.new.out c.in_ok-some.some
    (same_is list (found spans) is) (λ place. ap (list_any (λ (o : Occ). holds o place)) is) (ap (list_any (λ (o : Occ). true)) is) c.in_ok-some.ensures.some
    (c.in_ok-some.ensures.occs ∙ c.in_ok-extend_from_slice.ensures.items ∙ ap (λ occs. c.args.out.now.occs.items ++ occs) c.deref-2.ensures.value)
    (λ short. c.in_ok-some.ensures.hits ∙ ap (λ all. c.args.out.now.hits.items ++ filter (is_inside list) all) (hits short))

pub returns-then-is_empty-clause-found : goal.returns-then-is_empty-clause-found
returns-then-is_empty-clause-found c =
    let terms = c.args.terms.now in
    let spans = c.args.work.now.spans.items in
    let found = λ (s : Spans). runs (map (term_places s) terms) in
    let list = c.put_runs.new.out.items in
    let is : list ≡ found spans = c.in_ok-put_runs.ensures ∙ ap (λ occs. occs ++ found c.deref.result.now) c.take_occs-runs.ensures ∙ ap found c.deref.ensures.value in
    made_none (found spans) (flat_map (term_hits spans) terms) c.args.out.now (empty_same _ list (found spans) c.put_runs.new.out.ok.0 (sym c.is_empty.ensures ∙ c.if-is_empty.true) (same_is list (found spans) is))
