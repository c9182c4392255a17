use Rattle.std.proofs.Common.{◌∙◌, ap}
use Rattle.row_select.specs.Filters.{hold_unweighed}
use Rattle.doc_search.specs.declared.question.Question.{Question}
use Rattle.doc_search.proofs.scanning.passes.Goals as goal

pub returns : goal.returns
returns g c = λ doc here.
    c.hold_unweighed.ensures
    ∙ ap (λ filters. hold_unweighed filters c.new-found.result) c.asked.invariant.0
    ∙ ap (λ (its : Question). hold_unweighed its.filters c.new-found.result) c.asked.view_is
    ∙ ap (hold_unweighed c.args.asked.now.filters) (c.new-found.ensures doc here)
