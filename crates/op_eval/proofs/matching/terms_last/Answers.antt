use Rattle.op_eval.proofs.NodeParts.{placed_parts}
use Rattle.op_eval.proofs.matching.terms_last.Goals as goal

pub returns-clause-first : goal.returns-clause-first
returns-clause-first c = (placed_parts c.args.terms.now c.part_last.result.0.now c.part_last.result.1.now c.part_last.ensures.whole c.requires).0

pub returns-clause-last : goal.returns-clause-last
returns-clause-last c = (placed_parts c.args.terms.now c.part_last.result.0.now c.part_last.result.1.now c.part_last.ensures.whole c.requires).1
