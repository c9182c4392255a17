use Rattle.store_keep.proofs.Steadied.{steady_by}
use Rattle.store_keep.proofs.opening.steady.Goals as goal

pub returns-in-Some-clause-steady : goal.returns-in-Some-clause-steady
returns-in-Some-clause-steady g c = steady_by c.sync.result c.args.file _ _ c.sync.ensures.durable
