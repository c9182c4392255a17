use Rattle.std.proofs.Common.{◌∙◌}
use Rattle.row_select.proofs.Listed.{number_found}
use Rattle.row_select.proofs.conditions.stands_among.Goals as goal

pub returns : goal.returns
returns c =
    c.is_ok.ensures.value ∙ number_found c.args.numbers.now c.args.number.now c.binary_search.result c.requires c.binary_search.ensures.bound c.binary_search.ensures.position
