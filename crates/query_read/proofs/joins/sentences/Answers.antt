use Rattle.token_grammar.proofs.Rows.{fails_with, now_there}
use Rattle.query_read.specs.declared.operators.Operator.TheVariants as operators
use Rattle.query_read.proofs.JoinSteps.{leaves_more, leaf_fails, leaves_done}
use Rattle.query_read.proofs.joins.sentences.Goals as goal

pub returns-in_err-node : goal.returns-in_err-node
returns-in_err-node c =
    fails_with _ _ c.from_residual.result c.from_residual.ensures.1
    (leaf_fails operators.Sentence _ c.leaf.result c.leaves.invariant c.leaves-test.ensures.0 c.leaves-test.ensures.1 c.leaf.ensures c.in_err-node.ensures)

pub leaves-preserved : goal.leaves-preserved
leaves-preserved c =
    leaves_more operators.Sentence _ c.leaf.result c.leaves.invariant (λ s h. h) c.leaves-test.ensures.0 c.leaves-test.ensures.1 c.leaf.ensures c.in_ok-node.ensures

pub returns : goal.returns
returns c = now_there c.leaves-test.ensures.0 (leaves_done c.leaves.invariant c.requires c.leaves-test.ensures.1)
