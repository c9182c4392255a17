use Rattle.std.proofs.Common.{sym, ap, ◌∙◌}
use Rattle.query_write.specs.Written.{part_of}
use Rattle.query_write.proofs.WrittenParts.{part_word, part_quoted, part_and, part_or, part_maybe, part_before, part_near, part_sentence, part_paragraph, part_span}
use Rattle.query_write.proofs.written.line_of.Goals as goal

pub returns-in-Word : goal.returns-in-Word
returns-in-Word c = λ names. sym (ap (λ p. p.line) (ap (part_of names) c.in-Word.is ∙ part_word names _))

pub returns-in-Quoted : goal.returns-in-Quoted
returns-in-Quoted c = λ names. sym (ap (λ p. p.line) (ap (part_of names) c.in-Quoted.is ∙ part_quoted names _ _))

pub returns-in-And : goal.returns-in-And
returns-in-And c = λ names. sym (ap (λ p. p.line) (ap (part_of names) c.in-And.is ∙ part_and names _))

pub returns-in-Or : goal.returns-in-Or
returns-in-Or c = λ names. sym (ap (λ p. p.line) (ap (part_of names) c.in-Or.is ∙ part_or names _ _))

pub returns-in-Maybe : goal.returns-in-Maybe
returns-in-Maybe c = λ names. sym (ap (λ p. p.line) (ap (part_of names) c.in-Maybe.is ∙ part_maybe names _ _))

pub returns-in-Before : goal.returns-in-Before
returns-in-Before c = λ names. sym (ap (λ p. p.line) (ap (part_of names) c.in-Before.is ∙ part_before names _ _))

pub returns-in-Near : goal.returns-in-Near
returns-in-Near c = λ names. sym (ap (λ p. p.line) (ap (part_of names) c.in-Near.is ∙ part_near names _ _ _))

pub returns-in-Sentence : goal.returns-in-Sentence
returns-in-Sentence c = λ names. sym (ap (λ p. p.line) (ap (part_of names) c.in-Sentence.is ∙ part_sentence names _ _))

pub returns-in-Paragraph : goal.returns-in-Paragraph
returns-in-Paragraph c = λ names. sym (ap (λ p. p.line) (ap (part_of names) c.in-Paragraph.is ∙ part_paragraph names _ _))

pub returns-in-ZoneSpan : goal.returns-in-ZoneSpan
returns-in-ZoneSpan c = λ names. sym (ap (λ p. p.line) (ap (part_of names) c.in-ZoneSpan.is ∙ part_span names _ _))
