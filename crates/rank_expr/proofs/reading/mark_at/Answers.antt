use Rattle.std.proofs.Common.{◌<◌, ◌≤◌, arith, ap}
use Rattle.token_grammar.specs.Reading.{first_place}
use Rattle.rank_expr.specs.steps.MarkAlphabet.{expr_marks}
use Rattle.rank_expr.proofs.MarkPlaces.{all_ahead, one_passed, mark_here, mark_last}
use Rattle.rank_expr.proofs.reading.mark_at.Goals as goal
use Rattle.rank_expr.proofs.reading.mark_at.Goals.{else-marks-test, then-marks-test+then-place}

pub marks-init : goal.marks-init
marks-init c = all_ahead c.args.schema.now c.args.text.now c.args.place c.new-input.result c.new-input.ensures

pub marks-preserved : goal.marks-preserved
marks-preserved c =
    let less : c.skip.result.at < c.args.place = omega (arith, c.if-place.false, c.place.ensures, ap (first_place expr_marks) c.skip.ensures) in
    one_passed c.skip.result c.marks.invariant c.skip.ensures less

pub returns : goal.returns
returns c =
    elim c.marks-test.branch [
      | else-marks-test w ↦ mark_last c.mark.result c.marks.invariant c.mark.ensures.1 w.marks-test.ensures
      | then-marks-test+then-place w ↦
          let least : c.args.place ≤ c.mark.result.at = omega (arith, w.if-place.true, w.place.ensures, ap (first_place expr_marks) c.mark.ensures.1) in
          mark_here c.mark.result c.marks.invariant c.mark.ensures.1 least
    ]
