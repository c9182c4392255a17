use Rattle.std.proofs.Common.{length}
use Rattle.prefix_terms.proofs.rewriting.+choice.Given as goal

abbrev pub decreases-choice : goal.decreases-choice
decreases-choice l = length l.words.now
