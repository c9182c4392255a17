use Rattle.std.proofs.Common.{◌≡◌, [], ◌∷◌, ◌++◌, List, false, ap, ◌∙◌, rules}
use Rattle.doc_types.specs.declared.transactions.TxnOp.{TxnOp}
use Rattle.doc_types.specs.declared.transactions.TxnOp.TheVariants.{Clear}
use Rattle.ql_answers.specs.declared.plan.Counted.TheVariants.{Nothing}
use Rattle.ql_answers.specs.declared.plan.Plan.TheVariants.{Put}
use Rattle.ql_answers.specs.States.{is_open}
use Rattle.ql_answers.proofs.Placed.{placed}
use Rattle.ql_answers.proofs.writing.plan_truncate.Goals as goal

pub returns : goal.returns
returns g c =
    let served = c.in_ok-index.ensures in
    let at = placed (g.T.Catalog.confs c.args.catalog.now) c.args.name.now c.in_ok-index.index served.0 served.1 served.2 in
    let closed : is_open c.args.state.now ≡ false = search rules in
    let ops : c.new-ops.result ≡ Clear ∷ [] = c.new-ops.ensures ∙ c.in_ok-push.ensures.items ∙ ap (λ before. before ++ Clear ∷ []) c.in_ok-ops.ensures.items in
    (c.in_ok-index.index, at.0, at.1, closed, ap (λ (ops : List TxnOp). Put c.in_ok-index.index (record { ops = ops }) Nothing) ops)
