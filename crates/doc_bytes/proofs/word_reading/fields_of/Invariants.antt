use Rattle.std.proofs.Common.{◌≡◌, ◌-◌, List}
use Rattle.byte_fields.specs.Fields.{each, many}
use Rattle.byte_fields.proofs.Looping.{with_front}
use Rattle.doc_types.specs.declared.tokens.TokenWord.{TokenWord}
use Rattle.doc_bytes.specs.Reading.{field_at}
use Rattle.doc_bytes.proofs.word_reading.fields_of.Given as goal

abbrev pub invariant-loop : goal.invariant-loop
invariant-loop l = with_front l.fields.items (many (λ (_ : Unit {0}). field_at) (λ (_ : List TokenWord). tt {0}) (l.count - l.counter) tt l.rest) ≡ each field_at l.count l.bytes
