-- What the code sees in the first bytes that are held.
use Rattle.std.specs.Prelude.{◌≡◌, ℕ, ◌≤◌, ◌+◌, length, take, drop, List, Some}
use Rattle.mysql_wire.specs.Packets.{header_of, IsPartial, BeginsWith}
use Rattle.mysql_wire.specs.Framing.{IsRefused}
use Rattle.mysql_wire.specs.declared.framer.Next.{Next}
use Rattle.mysql_wire.specs.declared.framer.Next.TheVariants.{TooLarge, OutOfOrder}
use Rattle.mysql_wire.specs.declared.framer.Refusal.{Refusal}
use Rattle.mysql_wire.specs.declared.framer.Refusal.TheVariants as because
use Rattle.mysql_wire.specs.declared.framer.Head.{Head}
use Rattle.mysql_wire.specs.declared.framer.Head.TheVariants.{Part, Whole, Refused}

-- a part of a packet, a whole one whose payload has this size, or a header to refuse
abbrev pub IsHead : ℕ → List ℕ → Head → Type 0
IsHead expect bytes Part = IsPartial expect bytes
IsHead expect bytes (Whole size) = (header_of bytes ≡ Some (size, expect)) × BeginsWith expect bytes (take size (drop 4 bytes)) (drop size (drop 4 bytes)) × (4 + size ≤ length bytes)
IsHead expect bytes (Refused reason) = IsRefused expect bytes reason

-- the answer that tells a refusal
abbrev pub refusal_answer : Refusal → Next
refusal_answer (because.TooLarge size seq) = TooLarge size seq
refusal_answer (because.OutOfOrder seq) = OutOfOrder seq
