use Rattle.std.proofs.Common.{◌≤◌, take}
use Rattle.chunk_store.specs.Calls.{OnlyReads}
use Rattle.store_keep.proofs.Steadied.{AreSteadyChunks}
use Rattle.store_keep.proofs.opening.steady_chunks.Given as goal

abbrev pub invariant-chunks : goal.invariant-chunks
invariant-chunks g l =
    AreSteadyChunks (g.D.Disk.told l.disk) (g.D.Disk.may_leave l.disk) (take l.entry-index l.chunks)
    × OnlyReads g.D.Disk l.fn.disk l.disk
    × (g.D.Disk.faults l.fn.disk ≤ g.D.Disk.faults l.disk)
