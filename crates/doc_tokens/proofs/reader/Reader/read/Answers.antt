use Rattle.std.proofs.Common.{rules, ◌++◌, [], ◌∷◌, subst}
use Rattle.std.proofs.lemmas.Result.{err_from_is_err_and}
use Rattle.doc_tokens.specs.declared.sign.TextSign.{TextSign}
use Rattle.doc_tokens.specs.steps.TokenReader.{BeginApart, Holds}
use Rattle.doc_tokens.proofs.Runs.{apart_before}
use Rattle.doc_tokens.proofs.ReaderSteps.{read_above}
use Rattle.doc_tokens.proofs.reader.Reader.read.Goals as goal

pub returns-in_err-end_run-in-Separator : goal.returns-in_err-end_run-in-Separator
returns-in_err-end_run-in-Separator c =
    let apart : BeginApart (c.args.sign ∷ []) = search rules in
    let end = c.from_residual-in_err-end_run-in-Separator in
    let p = err_from_is_err_and end.result end.ensures.1 in
    rw (p.1, p.2) (read_above c.args.self.now c.end_run.new.self c.args.sign c.in_err-end_run-in-Separator.field-0.0 apart c.in_err-end_run-in-Separator.ensures)

pub returns-in_ok-letter-in-Letter : goal.returns-in_ok-letter-in-Letter
returns-in_ok-letter-in-Letter c = λ all rest wants. record {
  letters = wants.letters ++ c.in-Letter.letter ∷ [];
  holds = c.in_ok-letter-in-Letter.ensures all wants.letters rest (subst (λ (s : TextSign). Holds all c.args.self.now wants.letters (s ∷ rest)) c.in-Letter.is wants.holds);
}

pub returns-in_ok-put-in-Separator : goal.returns-in_ok-put-in-Separator
returns-in_ok-put-in-Separator c = λ all rest wants.
    let apart : BeginApart (c.args.sign ∷ []) = search rules in
    record {
      letters = [];
      holds = c.in_ok-put-in-Separator.ensures all rest (c.in_ok-end_run-in-Separator.ensures all wants.letters (c.args.sign ∷ rest) (apart_before c.args.sign rest apart) wants.holds);
    }
