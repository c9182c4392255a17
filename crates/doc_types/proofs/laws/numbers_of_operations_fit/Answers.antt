use Rattle.doc_types.proofs.Numbers.{ops_fit}
use Rattle.doc_types.proofs.laws.numbers_of_operations_fit.Goals as goal

pub returns : goal.returns
returns c = ops_fit c.args.schema.now c.requires.limits c.args.txn.now c.requires.operations
