use Rattle.std.proofs.Common.{refl, None}
use Rattle.gate_log.specs.Logs.{quiet_log}
use Rattle.job_files.proofs.Writing.{begun_left, made_log}
use Rattle.job_files.proofs.installing.begin_log.Goals as goal

pub returns-in-Ok-clause-stands : goal.returns-in-Ok-clause-stands
returns-in-Ok-clause-stands g c =
    begun_left g.D.Disk c.args.file (quiet_log c.args.file 0 None) c.args.disk.now c.remake.new.disk refl (made_log g.D.Disk c.args.file c.args.disk.now c.remake.new.disk c.in-Ok.ensures.written) c.in-Ok.ensures.durable (g.met.D.Disk.tells c.remake.new.disk) c.remake.ensures.crash
