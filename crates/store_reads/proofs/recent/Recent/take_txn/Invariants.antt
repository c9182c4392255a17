use Rattle.store_reads.proofs.Recents.{AreLeft}
use Rattle.store_reads.proofs.recent.Recent.take_txn.Given as goal

abbrev pub invariant-ops : goal.invariant-ops
invariant-ops l = AreLeft l.number l.fn.txn.ops l.op-iterator.rest.items l.fn.self l.self
