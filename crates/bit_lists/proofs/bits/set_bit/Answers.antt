use Rattle.bit_lists.proofs.BitsOf.{bit_kept, bit_set}
use Rattle.bit_lists.proofs.bits.set_bit.Goals as goal

pub returns-clause-own : goal.returns-clause-own
returns-clause-own c = bit_set c.args.bytes.now c.args.at c.requires

pub returns-clause-others : goal.returns-clause-others
returns-clause-others c = λ k other. bit_kept c.args.bytes.now c.args.at k c.requires other
