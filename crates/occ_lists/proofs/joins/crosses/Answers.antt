use Rattle.std.proofs.Common.{sym}
use Rattle.occ_lists.proofs.joins.crosses.Goals as goal

pub returns-in-None : goal.returns-in-None
returns-in-None c = sym (c.in-None.ensures c.args.occ.last)
