-- A connection from its greeting to its end: what was read, what was written, and how it ended. It knows nothing of how the
-- bytes were cut into reads. "Connection Lifecycle" of the protocol: the greeting, the client's response, a packet a command.
use Rattle.std.specs.Prelude.{◌≡◌, ◌≢◌, ◌⊎◌, ⊤, ℕ, suc, ◌+◌, ◌%◌, ◌^◌, ◌≤◌, ◌<◌, List, [], ◌∷◌, ◌++◌, true, length, codes, decimal}
use Rattle.std.specs.List.{flat_map}
use Rattle.srch_base.specs.Counts.{Rose}
use Rattle.srch_base.specs.Moves.{Meters, IsCut}
use Rattle.mysql_wire.specs.Packets.{packet, max_payload, BeginsWith, IsPartial, IsTooLarge, IsOutOfOrder}
use Rattle.mysql_wire.specs.Replies.{greeting, ok_packet, err_packet}
use Rattle.mysql_wire.specs.Handshake.{Response, IsResponse, IsBadResponse}
use Rattle.mysql_wire.specs.Commands.{Quit as asks_quit, command_of}
use Rattle.serve_line.specs.Machines.{Machine}
use Rattle.serve_line.specs.declared.line.LinkEnd.{LinkEnd}
use Rattle.serve_line.specs.declared.line.LinkEnd.TheVariants.{Quit, End, Truncated, BadHandshake, TooLarge, OutOfOrder, ReadFault, WriteFault, Worn, NoMemory}

-- how many commands a connection may send
abbrev pub most_commands : ℕ
most_commands = 2 ^ 32

-- How far a connection is: nothing was written of the connection with this number, or the greeting was, and a session begins in this state
-- once the response is accepted; or it was, so many commands were answered, and the session is in this state.
pub data Phase (S : Type 0) : Type 0 where
  Opened : (connection : ℕ) (start : S) → Phase S
  Greeted : (start : S) → Phase S
  Talking : (state : S) (answered : ℕ) → Phase S

-- a further packet is read
abbrev pub Listens : {S : Type 0} → Phase S → Type 0
Listens (Opened connection start) = ⊥
Listens (Greeted start) = ⊤
Listens (Talking state answered) = answered < most_commands

-- the sequence number of the packet that comes next
abbrev pub expected : {S : Type 0} → Phase S → ℕ
expected (Talking state answered) = 0
expected phase = 1

-- one turn: the whole packet that was read, what was written, the events of the command
pub record Turn (E : Type 0) : Type 0 where
  pub read : List ℕ
  pub written : List ℕ
  pub events : List E

-- The turn reads the packet of this payload.
abbrev pub TakesPacket : {E : Type 0} → ℕ → List ℕ → Turn E → Type 0
TakesPacket seq payload turn = (length payload ≤ max_payload) × (turn.read ≡ packet seq payload)

-- The turn leads from phase to phase.
abbrev pub Step : {S E : Type 0} → Machine S E → Phase S → Turn E → Phase S → Type 0
Step machine (Opened connection start) turn (Greeted start') =
    (turn.read ≡ []) × (turn.written ≡ greeting connection) × (turn.events ≡ []) × (start' ≡ start)
Step machine (Greeted start) turn (Talking new answered) =
    (payload : List ℕ) × (response : Response) × TakesPacket 1 payload turn × IsResponse payload response
    × (turn.written ≡ ok_packet 2 0 (machine.status start)) × (turn.events ≡ []) × (new ≡ start) × (answered ≡ 0)
Step machine (Talking old answered) turn (Talking new answered') =
    (payload : List ℕ) × (answered < most_commands) × TakesPacket 0 payload turn × (command_of payload ≢ asks_quit)
    × machine.answers old (command_of payload) turn.events turn.written new × (answered' ≡ suc answered)
Step machine old turn new = ⊥

-- Turns, one after another.
abbrev pub Run : {S E : Type 0} → Machine S E → Phase S → List (Turn E) → Phase S → Type 0
Run machine old [] new = new ≡ old
Run {S} machine old (turn ∷ turns) new = (next : Phase S) × Step machine old turn next × Run machine next turns new

-- ERR 1043, 1153 and 1156: numbered on from the packet that they refuse
abbrev pub bad_handshake_packet : ℕ → List ℕ
bad_handshake_packet place = err_packet 2 1043 (codes "08S01") (codes "bad handshake at " ++ decimal place)

abbrev pub too_large_packet : ℕ → List ℕ
too_large_packet seq = err_packet ((seq + 1) % 256) 1153 (codes "08S01") (codes "packet above 8388608 bytes")

abbrev pub out_of_order_packet : ℕ → List ℕ
out_of_order_packet seq = err_packet ((seq + 1) % 256) 1156 (codes "08S01") (codes "packet out of order")

-- ERR 1037: numbered as the reply to the packet that couldn't be read
abbrev pub no_room : ℕ → List ℕ
no_room seq = err_packet seq 1037 (codes "HY001") (codes "out of memory")

-- The bytes begin with a packet that is refused so, and the connection ends.
abbrev pub Refuses : {S : Type 0} → Phase S → List ℕ → List ℕ → LinkEnd → Type 0
Refuses {S} phase rest refusal (BadHandshake place) =
    (payload after : List ℕ) × (start : S) × (phase ≡ Greeted start) × BeginsWith 1 rest payload after × IsBadResponse payload place
    × (refusal ≡ bad_handshake_packet place)
Refuses phase rest refusal (TooLarge size) =
    (seq : ℕ) × IsTooLarge rest size seq × Listens phase × (refusal ≡ too_large_packet seq)
Refuses phase rest refusal (OutOfOrder seq) =
    IsOutOfOrder (expected phase) rest seq × Listens phase × (refusal ≡ out_of_order_packet seq)
Refuses phase rest refusal end = ⊥

-- where a connection ends: the phase after its last turn that was written whole, what was read and written after that turn, and
-- the events of a turn that was written in part
pub record Finish (S E : Type 0) : Type 0 where
  pub phase : Phase S
  pub rest : List ℕ
  pub last : List ℕ
  pub events : List E

-- Nothing was written after the last turn.
abbrev pub IsSilent : {S E : Type 0} → Finish S E → Type 0
IsSilent at = (at.last ≡ []) × (at.events ≡ [])

-- The packet was written, or a prefix of it and the count of writes rose.
abbrev pub WritesOrFails : {S E : Type 0} → Finish S E → List ℕ → Meters → Meters → Type 0
WritesOrFails at bytes before now =
    ((at.last ≡ bytes) ⊎ (Rose before.write_faults now.write_faults × IsCut at.last bytes)) × (at.events ≡ [])

-- A turn was written in part.
abbrev pub CutsTurn : {S E : Type 0} → Machine S E → Finish S E → Type 0
CutsTurn {S} {E} machine at =
    (turn : Turn E) × (next : Phase S) × (after : List ℕ) × Step machine at.phase turn next
    × (at.rest ≡ turn.read ++ after) × IsCut at.last turn.written × (at.events ≡ turn.events)

-- A refusal was written in part.
abbrev pub CutsRefusal : {S E : Type 0} → Finish S E → Type 0
CutsRefusal at = (refusal : List ℕ) × (end : LinkEnd) × Refuses at.phase at.rest refusal end × IsCut at.last refusal × (at.events ≡ [])

-- The connection ends here, by what was read and by the link's meters before and after.
abbrev pub Stops : {S E : Type 0} → Machine S E → Meters → Meters → LinkEnd → Finish S E → Type 0
Stops machine before now Quit at =
    (payload after : List ℕ) × Listens at.phase × (expected at.phase ≡ 0) × BeginsWith 0 at.rest payload after × (command_of payload ≡ asks_quit) × IsSilent at
Stops machine before now End at = Listens at.phase × (now.input_ended ≡ true) × (at.rest ≡ []) × IsSilent at
Stops machine before now Truncated at =
    Listens at.phase × (now.input_ended ≡ true) × (at.rest ≢ []) × IsPartial (expected at.phase) at.rest × IsSilent at
Stops machine before now ReadFault at =
    Listens at.phase × Rose before.read_faults now.read_faults × IsPartial (expected at.phase) at.rest × IsSilent at
Stops machine before now WriteFault at = Rose before.write_faults now.write_faults × (CutsTurn machine at ⊎ CutsRefusal at)
Stops {S} machine before now Worn at = (state : S) × (at.phase ≡ Talking state most_commands) × IsSilent at
Stops machine before now NoMemory at =
    Listens at.phase × IsPartial (expected at.phase) at.rest × WritesOrFails at (no_room (expected at.phase + 1)) before now
Stops machine before now end at = Refuses at.phase at.rest at.last end × (at.events ≡ [])

-- From a phase, with bytes held back from earlier reads: what was read and written until the connection's end, and the events.
pub record Ends {S E : Type 0} (machine : Machine S E) (before now : Meters) (end : LinkEnd) (old : Phase S) (held read written : List ℕ) (events : List E) : Type 0 where
  pub turns : List (Turn E)
  pub at : Finish S E
  pub run : Run machine old turns at.phase
  pub stops : Stops machine before now end at
  pub is_read : held ++ read ≡ flat_map (λ t. t.read) turns ++ at.rest
  pub is_written : written ≡ flat_map (λ t. t.written) turns ++ at.last
  pub happened : events ≡ flat_map (λ t. t.events) turns ++ at.events

-- A whole connection, with its number and the state in which its session begins: at first nothing was read and nothing written.
abbrev pub IsLine : {S E : Type 0} → Machine S E → ℕ → S → Meters → Meters → List ℕ → List ℕ → LinkEnd → List E → Type 0
IsLine machine connection start before now read written end events = Ends machine before now end (Opened connection start) [] read written events

-- The connection ended by what its client sent: neither reading nor writing failed, and memory wasn't refused.
abbrev pub EndsByClient : LinkEnd → Type 0
EndsByClient ReadFault = ⊥
EndsByClient WriteFault = ⊥
EndsByClient NoMemory = ⊥
EndsByClient end = ⊤
