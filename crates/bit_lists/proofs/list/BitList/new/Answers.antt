use Rattle.std.proofs.Common.{refl}
use Rattle.bit_lists.specs.Bits.{bits_in}
use Rattle.bit_lists.proofs.list.BitList.new.Goals as goal

pub returns : goal.returns
unfolding bits_in
returns c = refl
