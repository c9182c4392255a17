use Rattle.chunk_store.specs.Images.{Vanishes}
use Rattle.chunk_store.specs.CrashModel.{MayVanish}
use Rattle.chunk_store.proofs.Weaker.{crashes_of}
use Rattle.job_files.proofs.Removing.{kept_without, removing_leaves}
use Rattle.job_files.proofs.installing.remove.Goals as goal

pub returns-in-Ok-clause-kept : goal.returns-in-Ok-clause-kept
returns-in-Ok-clause-kept g c = kept_without g.D.Disk _ _ _ _ _ _ c.requires.kept c.requires.sure c.args.file c.requires.no_slot c.requires.unnamed c.remove.new.self Vanishes c.in-Ok.ensures.gone (crashes_of g.D.Disk _ _ c.remove.ensures.crash)

pub returns-in-Ok-clause-crash : goal.returns-in-Ok-clause-crash
returns-in-Ok-clause-crash g c =
    removing_leaves g.D.Disk _ _ _ _ _ _ c.requires.kept c.requires.sure c.args.file c.requires.no_slot c.requires.unnamed c.remove.new.self (g.met.D.Disk.only_now c.args.disk.now) (crashes_of g.D.Disk _ _ c.remove.ensures.crash)

pub returns-in-Err-clause-kept : goal.returns-in-Err-clause-kept
returns-in-Err-clause-kept g c = kept_without g.D.Disk _ _ _ _ _ _ c.requires.kept c.requires.sure c.args.file c.requires.no_slot c.requires.unnamed c.remove.new.self MayVanish c.in-Err.ensures.gone (crashes_of g.D.Disk _ _ c.remove.ensures.crash)

pub returns-in-Err-clause-crash : goal.returns-in-Err-clause-crash
returns-in-Err-clause-crash g c =
    removing_leaves g.D.Disk _ _ _ _ _ _ c.requires.kept c.requires.sure c.args.file c.requires.no_slot c.requires.unnamed c.remove.new.self (g.met.D.Disk.only_now c.args.disk.now) (crashes_of g.D.Disk _ _ c.remove.ensures.crash)
