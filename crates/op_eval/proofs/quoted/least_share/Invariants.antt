use Rattle.std.proofs.Common.{ℕ, ◌<◌, ◌*◌, ◌^◌}
use Rattle.op_eval.proofs.quoted.least_share.Given as goal

abbrev pub invariant-loop : goal.invariant-loop
invariant-loop l = (m : ℕ) → m < l.least → m * (10 ^ l.counter) < l.digits * l.n
