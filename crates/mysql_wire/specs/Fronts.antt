-- How the bytes of a stream begin.
use Rattle.std.specs.Prelude.{ℕ, ◌<◌, List}
use Rattle.std.specs.List.{All}
use Rattle.mysql_wire.specs.Packets.{IsTooLarge, IsOutOfOrder, IsPartial, BeginsWith}

-- less than a packet, a packet and what follows it, or one of two headers to refuse
pub data Front : Type 0 where
  Part : Front
  Packet : (payload rest : List ℕ) → Front
  TooLarge : (size seq : ℕ) → Front
  OutOfOrder : (seq : ℕ) → Front

-- The bytes begin so, where this sequence number is expected.
abbrev pub HasFront : ℕ → List ℕ → Front → Type 0
HasFront expect bytes Part = IsPartial expect bytes
HasFront expect bytes (Packet payload rest) = BeginsWith expect bytes payload rest
HasFront expect bytes (TooLarge size seq) = IsTooLarge bytes size seq
HasFront expect bytes (OutOfOrder seq) = IsOutOfOrder expect bytes seq

-- Numbers that are bytes.
abbrev pub AreBytes : List ℕ → Type 0
AreBytes = All (λ byte. byte < 256)
