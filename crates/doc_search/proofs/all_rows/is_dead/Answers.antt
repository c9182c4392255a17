use Rattle.std.proofs.Common.{◌∙◌}
use Rattle.op_eval.proofs.RowNumbers.{number_found}
use Rattle.doc_search.proofs.all_rows.is_dead.Goals as goal

pub returns : goal.returns
returns c =
    c.is_ok.ensures.value ∙ number_found c.args.dead.now c.args.row c.binary_search.result c.requires c.binary_search.ensures.bound c.binary_search.ensures.position
