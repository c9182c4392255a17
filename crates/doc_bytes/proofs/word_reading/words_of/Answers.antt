use Rattle.std.proofs.lemmas.Result.{err_from_is_err_and}
use Rattle.byte_fields.proofs.Looping.{ends, goes_on, is_done}
use Rattle.doc_types.specs.declared.tokens.TokenWord.{TokenWord}
use Rattle.doc_bytes.specs.Reading.{word_at, words_at}
use Rattle.doc_bytes.proofs.word_reading.words_of.Goals as goal

pub returns-in_err-word : goal.returns-in_err-word
returns-in_err-word c =
    let p = err_from_is_err_and c.from_residual-in_err-word.result c.from_residual-in_err-word.ensures.1 in
    rw (p.1, p.2) (ends word_at (λ (word : TokenWord). word.position) c.in_err-word.field-0.0 c.loop.words.items c.args.count c.loop.counter c.loop.before c.loop.rest.now (words_at c.args.count c.args.bytes.now) c.loop-test.true c.in_err-word.ensures c.loop.invariant)

pub loop-preserved : goal.loop-preserved
loop-preserved c =
    rw c.in_ok-push.ensures.items (goes_on word_at (λ (word : TokenWord). word.position) c.loop.words.items c.args.count c.loop.counter c.loop.before c.loop.rest.now c.in_ok-word.word c.in_ok-word.after.now (words_at c.args.count c.args.bytes.now) c.loop-test.true c.in_ok-word.ensures c.loop.invariant)

pub returns : goal.returns
returns c = is_done word_at (λ (word : TokenWord). word.position) c.loop.words.items c.args.count c.loop.counter c.loop.before c.loop.rest.now (words_at c.args.count c.args.bytes.now) c.loop-test.false c.loop.invariant
