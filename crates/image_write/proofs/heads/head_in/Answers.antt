use Rattle.std.proofs.Common.{arith, drop, length-drop}
use Rattle.image_write.proofs.Standing.{cut_fits, cut_head, cut_read}
use Rattle.image_write.proofs.heads.head_in.Goals as goal

pub overflow_add-result : goal.overflow_add-result
overflow_add-result c =
    omega (arith, cut_fits c.args.size c.eight_at.result c.front_of.result c.eight_at.type_inv c.if-size-gt0.true c.if-size-le-EIGHTH.true c.front_of.ensures)

pub returns-then-bytes-at-gt-EIGHTH-clause-is : goal.returns-then-bytes-at-gt-EIGHTH-clause-is
returns-then-bytes-at-gt-EIGHTH-clause-is c =
    cut_head (drop c.args.at c.args.bytes.now) c.args.size c.eight_at.result c.front_of.result c.eight_at.ensures.bytes
    (omega (arith, length-drop c.args.at c.args.bytes.now, c.if-bytes-at-gt-EIGHTH.true)) c.if-size-gt0.true c.if-size-le-EIGHTH.true c.eight_at.ensures.is c.front_of.ensures

pub returns-then-bytes-at-gt-EIGHTH-clause-bytes : goal.returns-then-bytes-at-gt-EIGHTH-clause-bytes
returns-then-bytes-at-gt-EIGHTH-clause-bytes c = cut_read (drop c.args.at c.args.bytes.now) c.args.size c.eight_at.ensures.bytes
