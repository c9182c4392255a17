use Rattle.std.proofs.Common.{refl}
use Rattle.std.proofs.Common.{[]}
use Rattle.token_grammar.proofs.Lookahead.{takes_led, fails_led, takes_unled, fails_unled}
use Rattle.token_grammar.proofs.Rows.{plain_seq, plain_first, plain_next, fails_with, takes_as}
use Rattle.ql_read.proofs.settings.scoped.Goals as goal

pub returns-in_err-keyword : goal.returns-in_err-keyword
returns-in_err-keyword c = fails_with _ _ c.from_residual.result c.from_residual.ensures.1 (fails_led c.if-leads.ensures refl (plain_first c.in_err-keyword.ensures))

pub returns-in_err-set : goal.returns-in_err-set
returns-in_err-set c = fails_with _ _ c.from_residual-in_err-set.result c.from_residual-in_err-set.ensures.1 (fails_led c.if-leads.ensures refl (plain_next c.in_ok-keyword.ensures c.in_err-set.ensures))

pub returns-then-leads : goal.returns-then-leads
returns-then-leads c = takes_led c.if-leads.ensures refl (plain_seq c.in_ok-keyword.ensures c.in_ok-set.ensures)

pub returns-in_err-keyword-2 : goal.returns-in_err-keyword-2
returns-in_err-keyword-2 c = fails_with _ _ c.from_residual-in_err-keyword-2.result c.from_residual-in_err-keyword-2.ensures.1 (fails_unled c.if-leads.ensures refl (fails_led c.if-leads-2.ensures refl (plain_first c.in_err-keyword-2.ensures)))

pub returns-in_err-set-2 : goal.returns-in_err-set-2
returns-in_err-set-2 c = fails_with _ _ c.from_residual-in_err-set-2.result c.from_residual-in_err-set-2.ensures.1 (fails_unled c.if-leads.ensures refl (fails_led c.if-leads-2.ensures refl (plain_next c.in_ok-keyword-2.ensures c.in_err-set-2.ensures)))

pub returns-then-leads-2 : goal.returns-then-leads-2
returns-then-leads-2 c = takes_unled c.if-leads.ensures refl (takes_led c.if-leads-2.ensures refl (plain_seq c.in_ok-keyword-2.ensures c.in_ok-set-2.ensures))

pub returns-in_err-set-3 : goal.returns-in_err-set-3
returns-in_err-set-3 c = fails_with _ _ c.from_residual-in_err-set-3.result c.from_residual-in_err-set-3.ensures.1 (fails_unled c.if-leads.ensures refl (fails_unled c.if-leads-2.ensures refl c.in_err-set-3.ensures))

pub returns : goal.returns
returns c = takes_unled c.if-leads.ensures refl (takes_unled c.if-leads-2.ensures refl (takes_as (λ u h. ([], u, refl, refl, h)) c.in_ok-set-3.ensures))
