use Rattle.std.proofs.Common.{refl}
use Rattle.store_reads.proofs.Loads.{loaded_nothing}
use Rattle.store_reads.proofs.loading.Loaded.over.Goals as goal

pub returns : goal.returns
returns c = λ schema are. loaded_nothing schema c.args.chunks.items c.args.through _ are c.in_ok-laid.ensures.is refl refl
