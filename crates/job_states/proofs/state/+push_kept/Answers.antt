use Rattle.job_states.proofs.Pushing.{nothing_more}
use Rattle.job_states.proofs.state.+push_kept.Goals as goal

pub returns-in-None : goal.returns-in-None
returns-in-None g t c = nothing_more c.args.out.now.items c.args.entries.now c.args.layers.now c.in-None.ensures.cases
