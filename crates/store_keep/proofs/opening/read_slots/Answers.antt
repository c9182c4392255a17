use Rattle.chunk_store.proofs.WholeFiles.{looks_then}
use Rattle.store_keep.proofs.Steadied.{slots_read, steady_then}
use Rattle.store_keep.proofs.opening.read_slots.Goals as goal

pub returns-in-Ok-steady-clause-read : goal.returns-in-Ok-steady-clause-read
returns-in-Ok-steady-clause-read g c =
    slots_read c.read_root.result (g.D.Disk.told c.read_root.new.disk) (g.D.Disk.may_leave c.read_root.new.disk) c.read_root.ensures.read
    (steady_then g.D.Disk c.steady.new.disk c.read_root.new.disk 0 (looks_then g.D.Disk c.steady.new.disk c.steady-in-Ok.new.disk c.read_root.new.disk c.steady-in-Ok.ensures.looks c.read_root.ensures.looks) c.in-Ok.ensures.steady)
    (steady_then g.D.Disk c.steady-in-Ok.new.disk c.read_root.new.disk 1 c.read_root.ensures.looks c.in-Ok-steady.ensures.steady)
