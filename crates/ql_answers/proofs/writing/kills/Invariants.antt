use Rattle.std.proofs.Common.{◌≡◌, take, map}
use Rattle.doc_types.specs.declared.transactions.TxnOp.TheVariants.{Kill}
use Rattle.ql_answers.proofs.writing.kills.Given as goal

abbrev pub invariant-ids : goal.invariant-ids
invariant-ids l = l.ops.items ≡ map Kill (take l.id-index l.ids)
