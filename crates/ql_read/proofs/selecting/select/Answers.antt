use Rattle.std.proofs.Common.{refl}
use Rattle.token_grammar.proofs.Rows.{takes_seq, fails_first, fails_next, fails_with, plain_seq, plain_first, plain_next, takes_wider, fails_wider}
use Rattle.ql_read.proofs.selecting.select.Goals as goal

pub returns-in_err-items : goal.returns-in_err-items
returns-in_err-items c = fails_with _ _ c.from_residual.result c.from_residual.ensures.1 (fails_first c.in_err-items.ensures refl)

pub returns-in_err-keyword : goal.returns-in_err-keyword
returns-in_err-keyword c = fails_with _ _ c.from_residual-in_err-keyword.result c.from_residual-in_err-keyword.ensures.1 (fails_next c.in_ok-items.ensures refl (plain_first c.in_err-keyword.ensures))

pub returns-in_err-index : goal.returns-in_err-index
returns-in_err-index c = fails_with _ _ c.from_residual-in_err-index.result c.from_residual-in_err-index.ensures.1 (fails_next c.in_ok-items.ensures refl (plain_next c.in_ok-keyword.ensures (plain_first c.in_err-index.ensures)))

pub returns-in_err-conds : goal.returns-in_err-conds
returns-in_err-conds c = fails_with _ _ c.from_residual-in_err-conds.result c.from_residual-in_err-conds.ensures.1 (fails_next c.in_ok-items.ensures refl (plain_next c.in_ok-keyword.ensures (plain_next c.in_ok-index.ensures (fails_first c.in_err-conds.ensures refl))))

pub returns-in_err-group : goal.returns-in_err-group
returns-in_err-group c = fails_with _ _ c.from_residual-in_err-group.result c.from_residual-in_err-group.ensures.1 (fails_next c.in_ok-items.ensures refl (plain_next c.in_ok-keyword.ensures (plain_next c.in_ok-index.ensures (fails_next c.in_ok-conds.ensures refl (fails_first c.in_err-group.ensures refl)))))

pub returns-in_err-within : goal.returns-in_err-within
returns-in_err-within c = fails_with _ _ c.from_residual-in_err-within.result c.from_residual-in_err-within.ensures.1 (fails_next c.in_ok-items.ensures refl (plain_next c.in_ok-keyword.ensures (plain_next c.in_ok-index.ensures (fails_next c.in_ok-conds.ensures refl (fails_next c.in_ok-group.ensures refl (fails_first c.in_err-within.ensures refl))))))

pub returns-in_err-having : goal.returns-in_err-having
returns-in_err-having c = fails_with _ _ c.from_residual-in_err-having.result c.from_residual-in_err-having.ensures.1 (fails_next c.in_ok-items.ensures refl (plain_next c.in_ok-keyword.ensures (plain_next c.in_ok-index.ensures (fails_next c.in_ok-conds.ensures refl (fails_next c.in_ok-group.ensures refl (fails_next c.in_ok-within.ensures refl (fails_first c.in_err-having.ensures refl)))))))

pub returns-in_err-order : goal.returns-in_err-order
returns-in_err-order c = fails_with _ _ c.from_residual-in_err-order.result c.from_residual-in_err-order.ensures.1 (fails_next c.in_ok-items.ensures refl (plain_next c.in_ok-keyword.ensures (plain_next c.in_ok-index.ensures (fails_next c.in_ok-conds.ensures refl (fails_next c.in_ok-group.ensures refl (fails_next c.in_ok-within.ensures refl (fails_next c.in_ok-having.ensures refl (fails_first c.in_err-order.ensures refl))))))))

pub returns-in_err-limit : goal.returns-in_err-limit
returns-in_err-limit c = fails_with _ _ c.from_residual-in_err-limit.result c.from_residual-in_err-limit.ensures.1 (fails_next c.in_ok-items.ensures refl (plain_next c.in_ok-keyword.ensures (plain_next c.in_ok-index.ensures (fails_next c.in_ok-conds.ensures refl (fails_next c.in_ok-group.ensures refl (fails_next c.in_ok-within.ensures refl (fails_next c.in_ok-having.ensures refl (fails_next c.in_ok-order.ensures refl (fails_first c.in_err-limit.ensures refl)))))))))

pub returns-in_err-options : goal.returns-in_err-options
returns-in_err-options c = fails_with _ _ c.from_residual-in_err-options.result c.from_residual-in_err-options.ensures.1 (fails_next c.in_ok-items.ensures refl (plain_next c.in_ok-keyword.ensures (plain_next c.in_ok-index.ensures (fails_next c.in_ok-conds.ensures refl (fails_next c.in_ok-group.ensures refl (fails_next c.in_ok-within.ensures refl (fails_next c.in_ok-having.ensures refl (fails_next c.in_ok-order.ensures refl (fails_next c.in_ok-limit.ensures refl (fails_first c.in_err-options.ensures refl))))))))))

pub returns-in_err-facets : goal.returns-in_err-facets
returns-in_err-facets c = fails_with _ _ c.from_residual-in_err-facets.result c.from_residual-in_err-facets.ensures.1 (fails_next c.in_ok-items.ensures refl (plain_next c.in_ok-keyword.ensures (plain_next c.in_ok-index.ensures (fails_next c.in_ok-conds.ensures refl (fails_next c.in_ok-group.ensures refl (fails_next c.in_ok-within.ensures refl (fails_next c.in_ok-having.ensures refl (fails_next c.in_ok-order.ensures refl (fails_next c.in_ok-limit.ensures refl (fails_next c.in_ok-options.ensures refl (fails_wider refl c.in_err-facets.ensures)))))))))))

pub returns : goal.returns
returns c = takes_seq c.in_ok-items.ensures refl (plain_seq c.in_ok-keyword.ensures (plain_seq c.in_ok-index.ensures (takes_seq c.in_ok-conds.ensures refl (takes_seq c.in_ok-group.ensures refl (takes_seq c.in_ok-within.ensures refl (takes_seq c.in_ok-having.ensures refl (takes_seq c.in_ok-order.ensures refl (takes_seq c.in_ok-limit.ensures refl (takes_seq c.in_ok-options.ensures refl (takes_wider refl c.in_ok-facets.ensures))))))))))
