use Rattle.std.proofs.Common.{◌≡◌, ◌+◌, ℕ, Option, IfSome, length, ap, subst, arith}
use Rattle.op_eval.specs.steps.Wanted.{is_wanted, numbers_from}
use Rattle.op_eval.proofs.RowsAhead.{end_ahead}
use Rattle.row_flags.proofs.Counted.{few_numbers}
use Rattle.row_flags.proofs.counting.count_rows.Goals as goal

pub overflow_add-count : goal.overflow_add-count
overflow_add-count g c =
    let rows = g.C.Chunk.content c.args.chunk.now in
    let passes = is_wanted c.args.root.now c.args.dead.now in
    let told : c.in-Some.more + length (numbers_from passes (c.windows.at + c.min-size.result) rows) ≡ length (numbers_from passes c.windows.at rows) =
    subst (λ (o : Option ℕ). IfSome o (λ count. count + length (numbers_from passes (c.windows.at + c.min-size.result) rows) ≡ length (numbers_from passes c.windows.at rows))) c.in-Some.is c.in_ok-more.ensures in
    omega (arith, told, c.windows.invariant.count, few_numbers passes rows c.args.from, c.rows-rows.ensures, c.rows-rows.type_inv)

pub returns : goal.returns
returns g c =
    let rows = g.C.Chunk.content c.args.chunk.now in
    let passes = is_wanted c.args.root.now c.args.dead.now in
    omega (arith, c.windows.invariant.count, ap length (end_ahead passes rows c.windows.at (omega (arith, c.windows-test.false, c.rows-rows.ensures))))
