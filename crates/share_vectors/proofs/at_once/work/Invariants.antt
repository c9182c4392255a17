use Rattle.share_vectors.specs.Users.{IsUser}
use Rattle.share_vectors.proofs.at_once.work.Given as goal

abbrev pub invariant-loop-count : goal.invariant-loop-count
invariant-loop-count g l = IsUser g.J.Naming.schema l.engine l.token
