use Rattle.std.proofs.Common.{refl}
use Rattle.token_grammar.proofs.Rows.{fails_with, takes_wider, fails_wider}
use Rattle.token_grammar.proofs.Lookahead.{takes_followed, fails_followed, takes_unfollowed, fails_unfollowed}
use Rattle.ql_read.proofs.sorting.sort.Goals as goal

pub returns-in_err-no_argument : goal.returns-in_err-no_argument
returns-in_err-no_argument c = fails_with _ _ c.from_residual.result c.from_residual.ensures.1 (fails_followed c.if-is_followed.ensures refl (fails_wider refl c.in_err-no_argument.ensures))

pub returns-then-is_followed : goal.returns-then-is_followed
returns-then-is_followed c = takes_followed c.if-is_followed.ensures refl (takes_wider refl c.in_ok-no_argument.ensures)

pub returns-in_err-count_all : goal.returns-in_err-count_all
returns-in_err-count_all c = fails_with _ _ c.from_residual-in_err-count_all.result c.from_residual-in_err-count_all.ensures.1 (fails_unfollowed c.if-is_followed.ensures refl (fails_followed c.if-is_followed-2.ensures refl (fails_wider refl c.in_err-count_all.ensures)))

pub returns-then-is_followed-2 : goal.returns-then-is_followed-2
returns-then-is_followed-2 c = takes_unfollowed c.if-is_followed.ensures refl (takes_followed c.if-is_followed-2.ensures refl (takes_wider refl c.in_ok-count_all.ensures))

pub returns-in_err-name : goal.returns-in_err-name
returns-in_err-name c = fails_with _ _ c.from_residual-in_err-name.result c.from_residual-in_err-name.ensures.1 (fails_unfollowed c.if-is_followed.ensures refl (fails_unfollowed c.if-is_followed-2.ensures refl (fails_wider refl c.in_err-name.ensures)))

pub returns : goal.returns
returns c = takes_unfollowed c.if-is_followed.ensures refl (takes_unfollowed c.if-is_followed-2.ensures refl (takes_wider refl c.in_ok-name.ensures))
