use Rattle.std.proofs.Common.{◌≡◌, ◌-◌}
use Rattle.byte_fields.specs.Fields.{many}
use Rattle.byte_fields.proofs.Looping.{with_front}
use Rattle.doc_types.specs.declared.tokens.TokenWord.{TokenWord}
use Rattle.doc_bytes.specs.Reading.{word_at, words_at}
use Rattle.doc_bytes.proofs.word_reading.words_of.Given as goal

abbrev pub invariant-loop : goal.invariant-loop
invariant-loop l = with_front l.words.items (many word_at (λ (word : TokenWord). word.position) (l.count - l.counter) l.before l.rest) ≡ words_at l.count l.bytes
