use Rattle.std.proofs.Common.{◌<◌, length, All}
use Rattle.doc_types.specs.Transactions.{IsOpOf}
use Rattle.share_vectors.specs.Users.{plain}
use Rattle.share_vectors.proofs.jobs.insert_ten.Given as goal

abbrev pub invariant-loop-id : goal.invariant-loop-id
invariant-loop-id l = All (IsOpOf plain) l.ops.items × (length l.ops.items < l.id)
