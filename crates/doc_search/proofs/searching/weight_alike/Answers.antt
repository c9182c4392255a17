use Rattle.std.proofs.Common.{◌≡◌, ◌∙◌, true, sym, rules}
use Rattle.doc_search.proofs.Weighing.{weighs_one}
use Rattle.doc_search.proofs.searching.weight_alike.Goals as goal

pub returns-then-found-clause-weighed : goal.returns-then-found-clause-weighed
returns-then-found-clause-weighed g c = λ question doc gives same here.
    let found : c.in_ok-found.found ≡ true = search rules in
    weighs_one question c.args.stream.now.query doc gives same (sym (c.in_ok-found.ensures.told doc here) ∙ found)
