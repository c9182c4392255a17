use Rattle.std.proofs.Common.{arith, ◌≡◌}
use Rattle.image_cover.specs.Covers.{seen}
use Rattle.covered_rows.proofs.Passing.{are_passed}
use Rattle.covered_rows.proofs.rows.stopped_row.Goals as goal

pub returns : goal.returns
returns c = λ row low.
    let same : c.rows.row ≡ c.args.rows = omega arith in
    are_passed c.args.starts.now c.args.width c.args.rows (seen c.args.cover.now) c.requires.laid c.first_clear-clear.result c.first_clear-clear.ensures.before c.first_clear-clear.ensures.clear c.rows.next c.rows.row (omega (arith, same)) c.rows.invariant row (omega (arith, low, same))
