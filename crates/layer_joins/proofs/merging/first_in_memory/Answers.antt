use Rattle.layer_joins.proofs.Behind.{later_behind}
use Rattle.layer_joins.proofs.merging.first_in_memory.Goals as goal

pub returns-else-not-is_on_disk-clause-memory : goal.returns-else-not-is_on_disk-clause-memory
returns-else-not-is_on_disk-clause-memory g c = λ start le. later_behind c.args.layers.now c.loop-first.first start c.loop-first.invariant.1 le

pub returns-after-loop-first-clause-memory : goal.returns-after-loop-first-clause-memory
returns-after-loop-first-clause-memory g c = λ start le. later_behind c.args.layers.now c.loop-first.first start c.loop-first.invariant.1 le
