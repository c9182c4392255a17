use Rattle.std.proofs.Common.{sym, ◌∙◌}
use Rattle.occ_lists.proofs.ClosePlaces.{false_by, none_near}
use Rattle.occ_lists.proofs.nearness.stand_apart.Goals as goal

pub returns-clause-nothing : goal.returns-clause-nothing
returns-clause-nothing c = λ apart. none_near c.args.n c.args.xs.now c.args.ys.now (sym c.are_close.ensures ∙ false_by c.are_close.result apart)
