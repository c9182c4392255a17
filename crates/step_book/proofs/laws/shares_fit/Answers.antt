use Rattle.step_book.proofs.Sums.{shares_fit}
use Rattle.step_book.proofs.laws.shares_fit.Goals as goal

pub returns : goal.returns
returns c = shares_fit
