use Rattle.std.proofs.Common.{List, ℕ, Option, ap, sym, subst}
use Rattle.std.specs.Option.{option_copied}
use Rattle.chunk_store.specs.Images.{Changes}
use Rattle.root_slots.specs.Roots.{Steps}
use Rattle.job_files.specs.Jobs.{Becomes}
use Rattle.job_files.proofs.Writing.{remade_left}
use Rattle.job_files.proofs.installing.put_chunk.Goals as goal

pub returns-in-Ok-clause-stands : goal.returns-in-Ok-clause-stands
returns-in-Ok-clause-stands g c =
    subst (λ (v : Option (List ℕ)). Steps g.D.Disk (Changes c.args.file (Becomes v)) c.args.disk.now c.remake.new.disk) (sym (ap option_copied c.in-Some.is))
    (remade_left g.D.Disk c.args.file c.in-Some.bytes.now c.args.disk.now c.remake.new.disk c.in-Ok.ensures.written c.in-Ok.ensures.durable (g.met.D.Disk.tells c.remake.new.disk) c.remake.ensures.crash)
