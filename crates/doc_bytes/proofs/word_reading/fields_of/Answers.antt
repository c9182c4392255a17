use Rattle.std.proofs.Common.{List}
use Rattle.std.proofs.lemmas.Result.{err_from_is_err_and}
use Rattle.byte_fields.specs.Fields.{each}
use Rattle.byte_fields.proofs.Looping.{ends, goes_on, is_done}
use Rattle.doc_types.specs.declared.tokens.TokenWord.{TokenWord}
use Rattle.doc_bytes.specs.Reading.{field_at}
use Rattle.doc_bytes.proofs.word_reading.fields_of.Goals as goal

pub returns-in_err-words : goal.returns-in_err-words
returns-in_err-words c =
    let p = err_from_is_err_and c.from_residual.result c.from_residual.ensures.1 in
    rw (p.1, p.2) (ends (λ (_ : Unit {0}). field_at) (λ (_ : List TokenWord). tt {0}) c.in_err-words.field-0.0 c.loop.fields.items c.args.count c.loop.counter tt c.loop.rest.now (each field_at c.args.count c.args.bytes.now) c.loop-test.true c.in_err-words.ensures c.loop.invariant)

pub loop-preserved : goal.loop-preserved
loop-preserved c =
    rw c.in_ok-push.ensures.items (goes_on (λ (_ : Unit {0}). field_at) (λ (_ : List TokenWord). tt {0}) c.loop.fields.items c.args.count c.loop.counter tt c.loop.rest.now c.in_ok-words.words c.in_ok-words.after.now (each field_at c.args.count c.args.bytes.now) c.loop-test.true c.in_ok-words.ensures c.loop.invariant)

pub returns : goal.returns
returns c = is_done (λ (_ : Unit {0}). field_at) (λ (_ : List TokenWord). tt {0}) c.loop.fields.items c.args.count c.loop.counter tt c.loop.rest.now (each field_at c.args.count c.args.bytes.now) c.loop-test.false c.loop.invariant
