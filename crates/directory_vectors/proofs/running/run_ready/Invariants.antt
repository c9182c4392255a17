use Rattle.directory_vectors.specs.Ready.{IsReady}
use Rattle.directory_vectors.specs.Seats.{AreSeats}
use Rattle.directory_vectors.proofs.running.run_ready.Given as goal

abbrev pub invariant-loop-step : goal.invariant-loop-step
invariant-loop-step g l = IsReady g.D.Disk g.J.Naming.schema g.J.Naming.base g.J.Naming.opened l.keeper × AreSeats (g.J.Naming.schema 0) (g.J.Naming.base 0) l.seats
