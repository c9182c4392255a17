use Rattle.std.proofs.Common.{subst, refl, arith, ◌+◌}
use Rattle.std.specs.Prelude.{Option, option_to_list, Ok, Err}
use Rattle.std.proofs.lemmas.Result.{err_from_is_err_and}
use Rattle.doc_tokens.specs.declared.sign.TextSign.{TextSign}
use Rattle.doc_tokens.specs.steps.TokenReader.{ReadsSome}
use Rattle.doc_tokens.proofs.PassSteps.{passing_start, passing_next, passing_end, passing_above}
use Rattle.doc_tokens.proofs.walk.pass_marks.Goals as goal

pub marks-init : goal.marks-init
marks-init c = record {
  within = c.requires;
  passing = λ from below has. passing_start c.args.marks.now c.args.reader.now c.args.start from c.args.end below has;
}

pub returns-in_err-read_some : goal.returns-in_err-read_some
returns-in_err-read_some c =
    let p = err_from_is_err_and c.from_residual.result c.from_residual.ensures.1 in
    rw (p.1, p.2)
    (passing_above c.args.marks.now c.args.reader.now c.marks.reader c.read_some.new.reader c.args.start c.marks.passed c.in-Some.mark c.args.end c.in_err-read_some.field-0.0 c.in-Some.ensures
    (subst (λ (o : Option TextSign). ReadsSome c.marks.reader (option_to_list o) c.read_some.new.reader (Err c.in_err-read_some.field-0.0)) c.tag_sign_of.ensures c.in_err-read_some.ensures)
    c.marks.invariant.passing)

pub marks-preserved : goal.marks-preserved
marks-preserved c =
    let next = c.in-Some.ensures in
    record {
      within = omega (arith, next.below);
      passing = λ from below has.
          passing_next c.args.marks.now c.args.reader.now c.marks.reader c.read_some.new.reader c.marks.passed (record { next = c.marks.passed.next + 1; cover = c.then.result }) c.in-Some.mark from c.args.end next refl c.then.ensures
          (subst (λ (o : Option TextSign). ReadsSome c.marks.reader (option_to_list o) c.read_some.new.reader (Ok tt)) c.tag_sign_of.ensures c.in_ok-read_some.ensures)
          (c.marks.invariant.passing from below has);
    }

pub returns : goal.returns
returns c = λ from below has. passing_end c.args.marks.now c.args.reader.now c.marks.reader c.marks.passed from c.args.end c.marks.invariant.within c.in_default.ensures (c.marks.invariant.passing from below has)
