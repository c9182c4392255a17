use Rattle.share_vectors.proofs.Beginning.{still}
use Rattle.share_vectors.proofs.jobs.work.Goals as goal

pub end-requires-2-clause-job : goal.end-requires-2-clause-job
end-requires-2-clause-job g c = still (g.J.Naming.base c.args.engine.now.index) c.begin-2.new.token c.begin-3.new.token c.in_ok-new.new c.begin-3.ensures.seen c.in_ok-new.ensures.job

pub end-requires-3-clause-job : goal.end-requires-3-clause-job
end-requires-3-clause-job g c = still (g.J.Naming.base c.args.engine.now.index) c.begin-3.new.token c.end-2.new.token c.in_ok-late.late c.end-2.ensures.seen c.in_ok-late.ensures.job
