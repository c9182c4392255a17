use Rattle.std.proofs.Common.{◌≡◌, ◌∙◌, ℕ, Option, Some, true, subst, sym}
use Rattle.std.specs.Prelude.{IfSome}
use Rattle.std.proofs.lemmas.Bool.{and_parts}
use Rattle.op_eval.specs.Matching.{matches}
use Rattle.doc_search.specs.steps.Gathering.{IsWeighed}
use Rattle.doc_search.proofs.windows.offer_told.Goals as goal

pub weight_told-requires-clause-tells : goal.weight_told-requires-clause-tells
weight_told-requires-clause-tells g c = λ doc here. c.requires.tells c.args.index doc c.told_at.result here c.told_at.ensures

pub offer_weighed-requires-clause-weighs : goal.offer_weighed-requires-clause-weighs
offer_weighed-requires-clause-weighs g c = λ doc here.
    let told = c.requires.told.1.each c.args.index doc c.told_at.result here c.told_at.ensures in
    let fits : matches c.args.asked.now.query doc ≡ true = (and_parts _ _ (sym told.found ∙ c.requires.found c.told_at.result c.told_at.ensures)).0 in
    subst (λ (weight : Option ℕ). IfSome weight (λ its. IsWeighed c.args.asked.now doc (Some (Some its)))) c.in-Some.is (c.in_ok-weight.ensures doc here fits)
