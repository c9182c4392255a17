use Rattle.std.proofs.Common.{add-one, arith, ◌<◌}
use Rattle.std.proofs.lemmas.Grind.{common_steps}
use Rattle.srch_base.proofs.Shrinking.{positive_shrunk, positive_passed}
use Rattle.srch_base.proofs.pieces.Pieces.pass.Goals as goal

pub invariant_of-self : goal.invariant_of-self
invariant_of-self c = rw add-one (positive_passed c.self.inside.lengths.items c.self.inside.first _ c.self.invariant)

pub invariant_of-self-else-length-count : goal.invariant_of-self-else-length-count
invariant_of-self-else-length-count c =
    let h : c.args.count < c.index-length.result.now = grind (arith, common_steps) in
    positive_shrunk c.self.inside.lengths.items c.self.inside.first _ (omega arith) c.self.invariant
