use Rattle.std.proofs.Common.{[], ◌∷◌, sym, subst}
use Rattle.srch_base.specs.declared.faults.Or.{Or}
use Rattle.chunk_files.specs.declared.fault.ChunkFault.{ChunkFault}
use Rattle.chunk_files.specs.steps.Files.{file_of}
use Rattle.chunk_files.specs.steps.Rests.{Refuses}
use Rattle.chunk_files.proofs.Pairing.{same_told, two_front, two_refused}
use Rattle.chunk_files.proofs.pairs.read_two.Goals as goal

pub returns-in-Ok-check_two-clause-read : goal.returns-in-Ok-check_two-clause-read
returns-in-Ok-check_two-clause-read g c =
    two_front c.args.schema.now c.args.through c.args.first.now c.args.second.now (g.D.Disk.told c.find-in-Ok.new.disk) (file_of c.in-Ok.found) (file_of c.in-Ok-find.its) c.in-Ok-check_two.layers.0 c.in-Ok-check_two.layers.1
    (same_told c.args.first.now (file_of c.in-Ok.found) (g.D.Disk.told c.find.new.disk) (g.D.Disk.told c.find-in-Ok.new.disk) c.find-in-Ok.ensures.looks.same c.in-Ok.ensures.found) c.in-Ok-find.ensures.found c.in-Ok-check_two.ensures.0 c.in-Ok-check_two.ensures.1

pub returns-in-Err-check_two-clause-read : goal.returns-in-Err-check_two-clause-read
returns-in-Err-check_two-clause-read g c =
    subst (λ (f : Or ChunkFault). Refuses c.args.schema.now c.args.through (c.args.first.now ∷ c.args.second.now ∷ []) (g.D.Disk.told c.find-in-Ok.new.disk) f) (sym c.chunk_fault.ensures)
    (two_refused c.args.schema.now c.args.through c.args.first.now c.args.second.now (g.D.Disk.told c.find-in-Ok.new.disk) (file_of c.in-Ok.found) (file_of c.in-Ok-find.its) c.in-Err-check_two.fault
    (same_told c.args.first.now (file_of c.in-Ok.found) (g.D.Disk.told c.find.new.disk) (g.D.Disk.told c.find-in-Ok.new.disk) c.find-in-Ok.ensures.looks.same c.in-Ok.ensures.found) c.in-Ok-find.ensures.found c.in-Err-check_two.ensures)
