use Rattle.std.proofs.Common.{◌≡◌, ◌-◌}
use Rattle.byte_fields.specs.Fields.{each, many}
use Rattle.byte_fields.proofs.Looping.{with_front}
use Rattle.doc_types.specs.declared.schema.Value.{Value as AnyValue}
use Rattle.doc_bytes.specs.Reading.{value_at}
use Rattle.doc_bytes.proofs.reading.values_of.Given as goal

abbrev pub invariant-loop : goal.invariant-loop
invariant-loop l = with_front l.values.items (many (λ (_ : Unit {0}). value_at) (λ (_ : AnyValue). tt {0}) (l.count - l.counter) tt l.rest) ≡ each value_at l.count l.bytes
