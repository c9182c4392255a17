use Rattle.std.proofs.Common.{[]}
use Rattle.std.proofs.lemmas.Result.{err_from_is_err_and}
use Rattle.doc_tokens.proofs.ReaderSteps.{finish_above, all_found}
use Rattle.doc_tokens.proofs.reader.Reader.finish.Goals as goal

pub returns-in_err-end_run : goal.returns-in_err-end_run
returns-in_err-end_run c = λ all wants.
    let p = err_from_is_err_and c.from_residual.result c.from_residual.ensures.1 in
    rw (p.1, p.2) (finish_above c.args.self c.end_run.new.self c.in_err-end_run.field-0.0 all c.in_err-end_run.ensures wants)

pub returns : goal.returns
returns c = λ all wants. all_found all c.end_run.new.self (c.in_ok-end_run.ensures all wants.letters [] tt wants.holds)
