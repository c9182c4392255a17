use Rattle.std.proofs.Common.{◌∙◌}
use Rattle.layer_commit.proofs.DeadRows.{search_has}
use Rattle.layer_commit.proofs.finding.is_dead.Goals as goal

pub returns : goal.returns
returns c =
    c.is_ok.ensures.value ∙ search_has c.args.dead.now c.args.row c.binary_search.result c.requires c.binary_search.ensures.bound c.binary_search.ensures.position
