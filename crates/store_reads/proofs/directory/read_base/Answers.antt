use Rattle.store_reads.proofs.Bases.{base_read}
use Rattle.store_reads.proofs.directory.read_base.Goals as goal

pub returns-in-Ok-clause-read : goal.returns-in-Ok-clause-read
returns-in-Ok-clause-read g c = base_read c.args.schema.now c.args.state.now _ c.in-Ok.layers.items c.requires.schema c.requires.state c.in-Ok.ensures.read
