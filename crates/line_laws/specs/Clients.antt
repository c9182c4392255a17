-- Clients that keep to the protocol: they answer the greeting, and then send one command a packet. "Connection Lifecycle" of the protocol.
use Rattle.std.specs.Prelude.{◌≡◌, ⊤, ℕ, ◌≤◌, List, [], ◌∷◌, ◌++◌, true, length}
use Rattle.std.specs.List.{AllByRecursion, flat_map}
use Rattle.srch_base.specs.Moves.{Meters}
use Rattle.mysql_wire.specs.Handshake.{Response, IsResponse}
use Rattle.mysql_wire.specs.Packets.{max_payload, packet}

-- the bytes of what a client sends: the answer to the greeting, numbered 1, and then commands, numbered 0
abbrev pub bytes_of : List (List ℕ) → List ℕ
bytes_of [] = []
bytes_of (answer ∷ commands) = packet 1 answer ++ flat_map (packet 0) commands

-- No payload is above the limit.
abbrev pub AreShort : List (List ℕ) → Type 0
AreShort payloads = AllByRecursion (λ payload. length payload ≤ max_payload) payloads

-- The first payload, if there is one, answers the greeting.
abbrev pub AnswersGreeting : List (List ℕ) → Type 0
AnswersGreeting [] = ⊤
AnswersGreeting (answer ∷ commands) = (response : Response) × IsResponse answer response

-- What was read is what the client sends, as far as it was read: all of it where the input has ended.
pub record KeepsToProtocol (now : Meters) (read : List ℕ) (payloads : List (List ℕ)) : Type 0 where
  pub answers : AnswersGreeting payloads
  pub short : AreShort payloads
  pub unread : List ℕ
  pub sent : read ++ unread ≡ bytes_of payloads
  pub whole : now.input_ended ≡ true → unread ≡ []
