use Rattle.std.proofs.Common.{◌≤◌, length}
use Rattle.chunk_store.specs.Calls.{OnlyReads}
use Rattle.chunk_store.specs.CrashModel.{KeepsAll}
use Rattle.chunk_files.proofs.Pairing.{IsAmid}
use Rattle.chunk_files.proofs.files.read_files.Given as goal

abbrev pub invariant-pairs : goal.invariant-pairs
invariant-pairs g l =
    IsAmid l.schema l.through l.entries l.rest (g.D.Disk.told l.disk) l.layers.items
    × OnlyReads g.D.Disk l.fn.disk l.disk
    × KeepsAll g.D.Disk.may_leave l.fn.disk l.disk
    × (g.D.Disk.faults l.fn.disk ≤ g.D.Disk.faults l.disk)

abbrev pub decreases-pairs : goal.decreases-pairs
decreases-pairs g l = length l.rest
