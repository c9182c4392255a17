-- The replies to one command, as they are written.
use Rattle.std.specs.Prelude.{◌≡◌, ℕ, ◌-◌, ◌<◌, List, [], ◌++◌, Bool, false}
use Rattle.mysql_wire.specs.Packets.{packets_from, sequence_after}

-- What was written, and what may follow.
pub record Written : Type 0 where
  -- the packets, one after another
  pub bytes : List ℕ
  -- the sequence number of the packet after them
  pub next : ℕ
  -- how many more replies have room: so many OKs and refusals take no memory
  pub room : ℕ
  -- the last reply is a refusal, and none follows
  pub refused : Bool

-- nothing is written yet, and packets are numbered from here
abbrev pub begun : ℕ → Written
begun seq = record { bytes = []; next = seq; room = 32; refused = false }

-- Another reply may follow.
abbrev pub IsOpen : Written → Type 0
IsOpen written = (written.refused ≡ false) × (0 < written.room)

-- what is written once a reply of these payloads follows, which is a refusal or not
abbrev pub then_reply : Written → List (List ℕ) → Bool → Written
then_reply written payloads refused = record {
  bytes = written.bytes ++ packets_from written.next payloads;
  next = sequence_after written.next payloads;
  room = written.room - 1;
  refused = refused;
}
