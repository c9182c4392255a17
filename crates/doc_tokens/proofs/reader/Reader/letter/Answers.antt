use Rattle.std.proofs.Common.{refl}
use Rattle.doc_tokens.proofs.ReaderSteps.{letter_kept, letter_cut}
use Rattle.doc_tokens.proofs.reader.Reader.letter.Goals as goal

pub returns-in_ok-push : goal.returns-in_ok-push
returns-in_ok-push c = λ all letters rest holds.
    letter_kept all c.args.self.now _ letters c.args.letter rest refl refl refl c.if-self-lt-MAX_WORD_CHARS.true c.in_ok-push.ensures.bytes refl holds

pub returns-else-self-lt-MAX_WORD_CHARS : goal.returns-else-self-lt-MAX_WORD_CHARS
returns-else-self-lt-MAX_WORD_CHARS c = λ all letters rest holds. letter_cut all c.args.self.now letters c.args.letter rest c.if-self-lt-MAX_WORD_CHARS.false holds
