use Rattle.store_steps.proofs.Keeping.{gives_now}
use Rattle.store_steps.proofs.Leaving.{leaves_still}
use Rattle.store_keep.proofs.kept.Kept.remove_unnamed.Goals as goal

pub returns-then-file-lt2-clause-crash : goal.returns-then-file-lt2-clause-crash
returns-then-file-lt2-clause-crash g c = leaves_still g.D.Disk c.args.self.now.disk (g.met.D.Disk.only_now c.args.self.now.disk) (gives_now g.D.Disk _ _ _ _ _ _ c.requires.kept)
