use Rattle.std.proofs.Common.{arith}
use Rattle.doc_bytes.proofs.Txns.{is_found, is_only}
use Rattle.doc_bytes.proofs.reading.read_txn.Goals as goal

pub returns-clause-found : goal.returns-clause-found
returns-clause-found c = is_found c.args.schema.now c.args.bytes.now c.placed_txn.result (λ i. omega (arith, c.type_inv.bytes i)) c.placed_txn.ensures

pub returns-clause-only : goal.returns-clause-only
returns-clause-only c = λ txn limits fits numbers is. is_only c.args.schema.now c.args.bytes.now c.placed_txn.result txn limits fits numbers is c.placed_txn.ensures
