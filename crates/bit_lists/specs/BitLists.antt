-- What a list of bits shows.
use Rattle.std.specs.Prelude.{ℕ, List}
use Rattle.bit_lists.specs.Bits.{bits_in}
use Rattle.bit_lists.specs.declared.list.BitList.{BitList}

-- its bits, each 0 or 1
abbrev pub bits_of : BitList → List ℕ
bits_of list = bits_in list.bytes.items list.count
