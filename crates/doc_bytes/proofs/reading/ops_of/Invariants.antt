use Rattle.std.proofs.Common.{◌≡◌, ◌-◌}
use Rattle.std.specs.Prelude.{length}
use Rattle.byte_fields.specs.Fields.{each, many}
use Rattle.byte_fields.proofs.Looping.{with_front}
use Rattle.doc_types.specs.declared.transactions.TxnOp.{TxnOp as AnyOp}
use Rattle.doc_bytes.specs.Reading.{op_at}
use Rattle.doc_bytes.proofs.reading.ops_of.Given as goal

abbrev pub invariant-loop : goal.invariant-loop
invariant-loop l = with_front l.ops.items (many (λ (_ : Unit {0}). op_at (length l.schema.fields) (length l.schema.attrs)) (λ (_ : AnyOp). tt {0}) (l.count - l.counter) tt l.rest) ≡ each (op_at (length l.schema.fields) (length l.schema.attrs)) l.count l.bytes
