use Rattle.std.proofs.Common.{subst}
use Rattle.store_keep.proofs.Steadied.{AreSteadyChunks, files_steady, steady_all}
use Rattle.store_keep.proofs.opening.steady_files.Goals as goal

pub returns-in-Ok-clause-steady : goal.returns-in-Ok-clause-steady
returns-in-Ok-clause-steady g c =
    let told = g.D.Disk.told c.steady_logs.new.disk in
    let may = g.D.Disk.may_leave c.steady_logs.new.disk in
    files_steady c.steady_logs.result c.args.state.now told may
    (subst (AreSteadyChunks told may) c.as_slice.ensures (steady_all g.D.Disk c.steady_chunks.new.disk c.steady_logs.new.disk c.as_slice.result.now c.steady_logs.ensures.looks c.in-Ok.ensures.steady))
    c.steady_logs.ensures.older c.steady_logs.ensures.newer
