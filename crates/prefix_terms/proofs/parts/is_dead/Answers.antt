use Rattle.std.proofs.Common.{◌∙◌}
use Rattle.prefix_terms.proofs.DeadRows.{number_found}
use Rattle.prefix_terms.proofs.parts.is_dead.Goals as goal

pub returns : goal.returns
returns c =
    c.is_ok.ensures.value ∙ number_found c.args.dead.now c.args.row c.binary_search.result c.requires c.binary_search.ensures.bound c.binary_search.ensures.position
