use Rattle.std.proofs.Common.{◌≡◌, ◌∙◌, ℕ, ℤ, List, [], ◌∷◌, ◌++◌, append_assoc, append-nil, ap, arith, length, rules, subst, sym}
use Rattle.std.specs.List.{AllZip}
use Rattle.std.proofs.lemmas.List.{nil_from_length}
use Rattle.word_rows.proofs.Zipped.{zip_push}
use Rattle.group_facet.specs.Facets.{IsFacet}
use Rattle.group_facet.specs.declared.facet_counts.FacetCounts.{FacetCounts}
use Rattle.table_search.proofs.Offered.{Shows, shown_all}
use Rattle.table_search.proofs.facet_sinks.finish_all.Goals as goal

pub loop-counts-preserved : goal.loop-counts-preserved
loop-counts-preserved c =
    let seen = c.loop-counts.yielded in
    let one = c.in-Some.counts in
    let ahead : c.loop-counts.counts-iterator.rest.items ≡ one ∷ c.next.new.self.rest.items = search rules in
    let shows : Shows one c.new.result = λ facet offered so. subst (λ (shown : List (ℤ × ℕ)). IsFacet offered facet shown) (sym c.new.ensures) (c.in_ok-finish.ensures facet offered so) in
    record {
      shows = subst (AllZip Shows (seen ++ one ∷ [])) (sym c.in_ok-push.ensures.items) (zip_push Shows seen c.loop-counts.shown.items one c.new.result c.loop-counts.invariant.shows shows);
      rest = append_assoc seen (one ∷ []) c.next.new.self.rest.items ∙ ap (λ (left : List FacetCounts). seen ++ left) (sym ahead) ∙ c.loop-counts.invariant.rest;
    }

pub returns : goal.returns
returns c = λ facets offered are.
    let seen = c.loop-counts.yielded in
    let left : List FacetCounts = c.loop-counts.counts-iterator.rest.items in
    let long : length left ≡ 0 = omega (arith, c.in-None.ensures.steps.0, c.loop-counts.counts-iterator.rest.ok.0) in
    let none : left ≡ [] = nil_from_length left long in
    let whole : seen ≡ c.args.list.items = sym (append-nil seen) ∙ ap (λ (left : List FacetCounts). seen ++ left) (sym none) ∙ c.loop-counts.invariant.rest in
    subst (AllZip (IsFacet offered) facets) (sym c.new-2.ensures)
    (shown_all facets offered c.args.list.items c.loop-counts.shown.items (subst (λ (counts : List FacetCounts). AllZip Shows counts c.loop-counts.shown.items) whole c.loop-counts.invariant.shows) are)
