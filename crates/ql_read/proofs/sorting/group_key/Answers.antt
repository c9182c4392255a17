use Rattle.std.proofs.Common.{refl}
use Rattle.token_grammar.proofs.Rows.{takes_seq, fails_first, fails_with, takes_wider}
use Rattle.ql_read.proofs.sorting.group_key.Goals as goal

pub returns-in_err-by : goal.returns-in_err-by
returns-in_err-by c = fails_with _ _ c.from_residual.result c.from_residual.ensures.1 (fails_first c.in_err-by.ensures refl)

pub returns : goal.returns
returns c = takes_seq c.in_ok-by.ensures refl (takes_wider refl c.direction-descending.ensures)
