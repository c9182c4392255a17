use Rattle.std.proofs.Common.{sym, arith}
use Rattle.std.proofs.lemmas.List.{length-take-le, take_all}
use Rattle.ql_refusals.proofs.refusal.cut.Goals as goal

pub returns-then-name-le-SHOWN-clause-value : goal.returns-then-name-le-SHOWN-clause-value
returns-then-name-le-SHOWN-clause-value c = sym (take_all 64 c.args.name.now (omega arith))

pub slice_bounds-result-end : goal.slice_bounds-result-end
slice_bounds-result-end c = sym (length-take-le 64 c.args.name.now (omega arith))

pub returns-clause-short : goal.returns-clause-short
returns-clause-short c = omega (arith, length-take-le 64 c.args.name.now (omega arith))
