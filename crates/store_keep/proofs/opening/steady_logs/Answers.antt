use Rattle.store_keep.proofs.Steadied.{on_ok, steady_then}
use Rattle.store_keep.proofs.opening.steady_logs.Goals as goal

pub returns-in-Ok-clause-older : goal.returns-in-Ok-clause-older
returns-in-Ok-clause-older g c = on_ok c.steady-in-Ok.result _ (λ apart. steady_then g.D.Disk c.steady-2.new.disk c.steady-in-Ok.new.disk c.args.older c.steady-in-Ok.ensures.looks c.in-Ok.ensures.steady)
