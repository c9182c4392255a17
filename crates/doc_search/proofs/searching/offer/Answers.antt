use Rattle.std.proofs.Common.{◌≡◌, ◌∙◌, ◌++◌, ◌∷◌, [], ap, sym, subst, refl}
use Rattle.row_select.specs.Filters.{hold_weighed}
use Rattle.row_select.specs.declared.row.Row.{Row}
use Rattle.doc_search.specs.declared.question.Question.{Question}
use Rattle.doc_search.specs.steps.Gathering.{unweighed}
use Rattle.doc_search.proofs.Gathering.{gathers_more, gathers_same, passes_as}
use Rattle.doc_search.proofs.Weighing.{row_of}
use Rattle.doc_search.proofs.searching.offer.Goals as goal

pub returns-in_ok-offer : goal.returns-in_ok-offer
returns-in_ok-offer g c = λ first before doc here weighed so.
    let row : Row = record (unweighed doc) { weight = c.args.weight } in
    let is : c.new-row.result ≡ row = c.new-row.ensures doc here in
    gathers_more g.S.Sink.Took c.args.asked.now first before doc row c.args.sink.now c.offer.new.self so
    (row_of c.args.asked.now doc row (record { id = refl; values = refl }) weighed.1)
    (passes_as g.S.Sink.Took c.args.asked.now first (unweighed doc) row refl refl (c.requires.passes doc here)
    ∙ ap (hold_weighed c.args.asked.now.filters) (sym is)
    ∙ ap (λ (its : Question). hold_weighed its.filters c.new-row.result) (sym c.asked.view_is)
    ∙ ap (λ filters. hold_weighed filters c.new-row.result) (sym c.asked.invariant.0)
    ∙ sym c.hold_weighed.ensures
    ∙ c.if-hold_weighed.true)
    (λ rows took. subst (λ offered. g.S.Sink.Took first (rows ++ offered ∷ []) c.offer.new.self) is (c.in_ok-offer.ensures first rows took))

pub returns-else-hold_weighed : goal.returns-else-hold_weighed
returns-else-hold_weighed g c = λ first before doc here weighed so.
    let row : Row = record (unweighed doc) { weight = c.args.weight } in
    let is : c.new-row.result ≡ row = c.new-row.ensures doc here in
    gathers_same g.S.Sink.Took c.args.asked.now first before doc row c.args.sink.now so
    (row_of c.args.asked.now doc row (record { id = refl; values = refl }) weighed.1)
    (passes_as g.S.Sink.Took c.args.asked.now first (unweighed doc) row refl refl (c.requires.passes doc here)
    ∙ ap (hold_weighed c.args.asked.now.filters) (sym is)
    ∙ ap (λ (its : Question). hold_weighed its.filters c.new-row.result) (sym c.asked.view_is)
    ∙ ap (λ filters. hold_weighed filters c.new-row.result) (sym c.asked.invariant.0)
    ∙ sym c.hold_weighed.ensures
    ∙ c.if-hold_weighed.false)
