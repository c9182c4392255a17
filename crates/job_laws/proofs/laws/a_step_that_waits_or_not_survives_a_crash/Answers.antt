use Rattle.store_steps.proofs.Keeping.{gives_now}
use Rattle.job_laws.proofs.laws.a_step_that_waits_or_not_survives_a_crash.Goals as goal

pub returns : goal.returns
returns g c = gives_now g.D.Disk _ _ _ _ _ _ c.requires.kept
