use Rattle.std.proofs.Common.{sym, subst}
use Rattle.occ_lists.specs.Terms.{IsPlaced}
use Rattle.op_eval.proofs.quoting.standing.Goals as goal

pub stands-requires : goal.stands-requires
stands-requires c = subst IsPlaced (sym c.term-item.is) (c.requires _ _ c.loop-term-test.true)
