use Rattle.std.proofs.Common.{rules, refl}
use Rattle.step_history.specs.History.{last_snapshot}
use Rattle.share_vectors.proofs.Bare.{job_follows}
use Rattle.share_vectors.proofs.writing.end_of_job.Goals as goal

pub new-requires-in-Ok-clause-follows : goal.new-requires-in-Ok-clause-follows
new-requires-in-Ok-clause-follows g c =
    let base = g.J.Naming.base c.front-front.result.now.index in
    let steps = c.front-front.result.now.steps in
    job_follows (g.J.Naming.schema c.front-front.result.now.index) base steps c.args.job _ (last_snapshot base steps) c.bare-after.result c.reshape-made.result
    c.reshape-made.ensures refl (search rules) (search rules) (search rules) (search rules)
