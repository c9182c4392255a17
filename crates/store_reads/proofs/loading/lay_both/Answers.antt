use Rattle.std.proofs.Common.{◌++◌}
use Rattle.store_reads.proofs.loading.lay_both.Goals as goal

pub lay-requires-2 : goal.lay-requires-2
lay-requires-2 c = (c.requires.0, c.requires.1, (c.requires.2.0, c.requires.2.1, c.requires.2.2 ++ c.requires.2.3, c.requires.2.4, c.in_ok-laid.ensures c.requires.0 c.requires.2.0 c.requires.2.1 c.requires.2.2 c.requires.2.3 c.requires.2.5 c.requires.2.6, c.requires.2.7))
