use Rattle.std.proofs.Common.{◌∙◌}
use Rattle.occ_lists.proofs.Following.{place_found}
use Rattle.occ_lists.proofs.runs.goes_on.Goals as goal

pub returns-clause-found : goal.returns-clause-found
returns-clause-found c = λ ascend.
    c.is_ok.ensures.value ∙ place_found c.args.places.now (c.args.end.now.0, c.saturating_add-end.result) c.binary_search.result ascend c.binary_search.ensures.bound c.binary_search.ensures.position
