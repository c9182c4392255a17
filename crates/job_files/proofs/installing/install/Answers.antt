use Rattle.store_steps.proofs.Leaving.{leaves_then}
use Rattle.job_files.proofs.installing.install.Goals as goal

pub returns-in-Ok-clause-crash : goal.returns-in-Ok-clause-crash
returns-in-Ok-clause-crash g c = leaves_then g.D.Disk _ c.write_files.new.disk _ c.write_files.ensures.crash c.replace_root.ensures.crash (λ x p. p) (λ x p. p)
