use Rattle.std.proofs.Common.{◌≡◌, ◌+◌, ℕ, Bool, length, ap, arith}
use Rattle.std.proofs.lemmas.List.Sums.{count_by-le-length}
use Rattle.op_eval.specs.steps.Wanted.{is_wanted, numbers_from}
use Rattle.row_flags.proofs.Counted.{counted}
use Rattle.row_flags.proofs.counting.count_flagged.Goals as goal

pub overflow_cast-result : goal.overflow_cast-result
overflow_cast-result g c =
    omega (arith, c.count_set.ensures, count_by-le-length (λ (flag : Bool). flag) c.flag_living.new.into, c.in_ok-flag_living.ensures.long, c.requires.few)

pub returns : goal.returns
returns g c =
    let rows = g.C.Chunk.content c.args.chunk.now in
    let passes = is_wanted c.args.root.now c.args.dead.now in
    let from = c.args.from in
    let flags = c.flag_living.new.into in
    let long : length flags ≡ length c.args.flags.now = c.in_ok-flag_living.ensures.long in
    let total = counted passes rows from flags (omega (arith, long, c.requires.within)) (c.in_ok-flag_living.ensures.flags c.if-not-branch.false) in
    omega (arith, c.count_set.ensures, total, ap (λ (n : ℕ). length (numbers_from passes (from + n) rows)) long)
