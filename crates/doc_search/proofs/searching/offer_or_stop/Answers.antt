use Rattle.std.proofs.Common.{◌≡◌, ◌∙◌, ℕ, Option, None, false, ap, sym, subst, refl}
use Rattle.row_select.specs.Filters.{hold_weighed}
use Rattle.row_select.specs.declared.row.Row.{Row}
use Rattle.doc_search.specs.Searches.{passes}
use Rattle.doc_search.specs.declared.question.Question.{Question}
use Rattle.doc_search.specs.steps.Gathering.{IsWeightOf, unweighed}
use Rattle.doc_search.proofs.Gathering.{gathers_same, passes_as, row_failing}
use Rattle.doc_search.proofs.searching.offer_or_stop.Goals as goal

pub returns-else-hold_weighed-clause-gathers : goal.returns-else-hold_weighed-clause-gathers
returns-else-hold_weighed-clause-gathers g c = λ first before doc here weighed so.
    let row : Row = unweighed doc in
    let is : c.new-row.result ≡ row = c.new-row.ensures doc here in
    let failing : passes c.args.asked.now row ≡ false =
    passes_as g.S.Sink.Took c.args.asked.now first (unweighed doc) row refl refl (c.requires.passes doc here)
    ∙ ap (hold_weighed c.args.asked.now.filters) (sym is)
    ∙ ap (λ (its : Question). hold_weighed its.filters c.new-row.result) (sym c.asked.view_is)
    ∙ ap (λ filters. hold_weighed filters c.new-row.result) (sym c.asked.invariant.0)
    ∙ sym c.hold_weighed.ensures
    ∙ c.if-hold_weighed.false in
    let none : IsWeightOf c.args.asked.now doc None = subst (λ (weight : Option ℕ). IsWeightOf c.args.asked.now doc weight) c.in-None.is weighed.1 in
    gathers_same g.S.Sink.Took c.args.asked.now first before doc row c.args.sink.now so
    (row_failing g.S.Sink.Took c.args.asked.now first doc row refl refl failing None none refl) failing

pub returns-then-hold_weighed-clause-lacks : goal.returns-then-hold_weighed-clause-lacks
returns-then-hold_weighed-clause-lacks g c = λ doc here weighed.
    let row : Row = unweighed doc in
    let is : c.new-row.result ≡ row = c.new-row.ensures doc here in
    let none : IsWeightOf c.args.asked.now doc None = subst (λ (weight : Option ℕ). IsWeightOf c.args.asked.now doc weight) c.in-None.is weighed.1 in
    record {
      hits = none.hits;
      are = none.are;
      fits = weighed.0;
      passing = passes_as g.S.Sink.Took c.args.asked.now c.args.sink.now (unweighed doc) row refl refl (c.requires.passes doc here)
          ∙ ap (hold_weighed c.args.asked.now.filters) (sym is)
          ∙ ap (λ (its : Question). hold_weighed its.filters c.new-row.result) (sym c.asked.view_is)
          ∙ ap (λ filters. hold_weighed filters c.new-row.result) (sym c.asked.invariant.0)
          ∙ sym c.hold_weighed.ensures
          ∙ c.if-hold_weighed.true;
      none = sym none.is;
    }
