use Rattle.std.proofs.Common.{arith}
use Rattle.occ_lists.proofs.Gathering.{ascend_there}
use Rattle.occ_lists.proofs.wanted.gather_word.Goals as goal

pub within-requires : goal.within-requires
within-requires c = ascend_there c.args.terms.now c.loop-term.term-index c.term-item.result c.deref.result.now c.requires (omega arith) c.term-item.is c.deref.ensures.value
