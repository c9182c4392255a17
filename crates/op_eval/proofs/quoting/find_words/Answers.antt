use Rattle.std.proofs.Common.{arith}
use Rattle.op_eval.proofs.WordedPlaces.{worded_none}
use Rattle.op_eval.proofs.quoting.find_words.Goals as goal

pub returns-then-count-eq0 : goal.returns-then-count-eq0
returns-then-count-eq0 c = worded_none c.args.spans.now c.args.terms.now c.args.out.now (omega (arith, c.standing-count.ensures, c.if-count-eq0.true))
