use denote.Param.Send.{sendable}
use Rattle.std.proofs.Common.{◌<◌, subst}
use Rattle.std.proofs.Crossing.{sync as heap_sync}
use Rattle.snap_share.proofs.Crossing.{engine_sync}
use Rattle.share_vectors.specs.Users.{IsUser}
use Rattle.share_vectors.proofs.at_once.work_all.Goals as goal

pub for_each_mut-requires-sync-F : goal.for_each_mut-requires-sync-F
for_each_mut-requires-sync-F g c κs within = search (sendable, engine_sync, heap_sync) depth 40

pub returns : goal.returns
returns g c k d lt =
    let at = (c.for_each_mut.ensures k d (subst (λ n. k < n) c.for_each_mut.auto.s lt)).1 in
    subst (IsUser g.J.Naming.schema c.args.engine.now) at.left at.call
