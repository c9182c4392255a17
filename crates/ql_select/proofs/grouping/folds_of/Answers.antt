use Rattle.std.proofs.Common.{arith}
use Rattle.std.proofs.lemmas.Grind.{common_steps}
use Rattle.std.proofs.lemmas.List.Elements.{filter_map-append}
use Rattle.ql_select.proofs.grouping.folds_of.Goals as goal

pub sources-preserved : goal.sources-preserved
sources-preserved c = grind (arith, common_steps, filter_map-append)
