use Rattle.rankers.specs.Weight.{in_field}
use Rattle.rankers.proofs.WholeOffsets.{bound, met_by_positions}
use Rattle.rankers.proofs.law.lcs_is_the_greatest_of_all_offsets.Goals as goal

pub returns-clause-bound : goal.returns-clause-bound
returns-clause-bound c = λ field hits offset. bound (in_field field hits) offset

pub returns-clause-met : goal.returns-clause-met
returns-clause-met c = met_by_positions
