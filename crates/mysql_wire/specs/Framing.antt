-- What a framer stands for, what it answers, and what it holds afterwards.
use Rattle.std.specs.Prelude.{◌≡◌, ◌⊎◌, ℕ, List, [], ◌++◌, Option, Some, None}
use Rattle.mysql_wire.specs.Packets.{IsTooLarge, IsOutOfOrder, IsPartial, BeginsWith}
use Rattle.mysql_wire.specs.declared.framer.Next.{Next}
use Rattle.mysql_wire.specs.declared.framer.Next.TheVariants.{NeedMore, Packet, TooLarge, OutOfOrder}
use Rattle.mysql_wire.specs.declared.framer.Refusal.{Refusal}
use Rattle.mysql_wire.specs.declared.framer.Refusal.TheVariants as because

-- a stream in mid-way: the bytes that are held, why nothing is read any more, and how many more bytes can be held without taking memory
pub record Stream : Type 0 where
  pub held : List ℕ
  pub refused : Option Refusal
  pub room : ℕ

-- nothing is held and nothing is refused
abbrev pub IsFresh : Stream → Type 0
IsFresh stream = (stream.held ≡ []) × (stream.refused ≡ None)

-- These bytes follow what was held.
abbrev pub HoldsMore : Stream → List ℕ → Stream → Type 0
HoldsMore before bytes after = (after.held ≡ before.held ++ bytes) × (after.refused ≡ before.refused)

-- The bytes begin with a header to refuse, where this sequence number is expected.
abbrev pub IsRefused : ℕ → List ℕ → Refusal → Type 0
IsRefused expect bytes (because.TooLarge size seq) = IsTooLarge bytes size seq
IsRefused expect bytes (because.OutOfOrder seq) = IsOutOfOrder expect bytes seq

-- The stream is refused: it was before, or its bytes are.
abbrev pub Refuses : ℕ → Stream → Refusal → Type 0
Refuses expect stream reason = (stream.refused ≡ Some reason) ⊎ ((stream.refused ≡ None) × IsRefused expect stream.held reason)

-- The stream has less than a whole packet, and nothing is wrong with it.
abbrev pub Waits : ℕ → Stream → Type 0
Waits expect stream = (stream.refused ≡ None) × IsPartial expect stream.held

-- A packet is taken from the stream, and the rest is held.
abbrev pub Takes : ℕ → Stream → List ℕ → Stream → Type 0
Takes expect before payload after = (before.refused ≡ None) × BeginsWith expect before.held payload after.held × (after.refused ≡ None)

-- the answer that fits the stream
abbrev pub Answers : ℕ → Stream → Next → Type 0
Answers expect stream NeedMore = Waits expect stream
Answers expect stream (Packet seq payload) = (seq ≡ expect) × ((after : Stream) × Takes expect stream payload.now after)
Answers expect stream (TooLarge size seq) = Refuses expect stream (because.TooLarge size seq)
Answers expect stream (OutOfOrder seq) = Refuses expect stream (because.OutOfOrder seq)

-- the stream after an answer
abbrev pub Leaves : ℕ → Stream → Next → Stream → Type 0
Leaves expect before NeedMore after = after ≡ before
Leaves expect before (Packet seq payload) after = Takes expect before payload.now after
Leaves expect before (TooLarge size seq) after = after ≡ record before { refused = Some (because.TooLarge size seq) }
Leaves expect before (OutOfOrder seq) after = after ≡ record before { refused = Some (because.OutOfOrder seq) }
