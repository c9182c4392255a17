-- Packets: "MySQL Packets" of the client/server protocol. A length of three bytes, the low one first, a sequence byte, the payload.
use Rattle.std.specs.Prelude.{◌≡◌, ◌≢◌, ◌⊎◌, ℕ, ◌+◌, ◌*◌, ◌%◌, ◌<◌, ◌≤◌, List, [], ◌∷◌, ◌++◌, length, take, Option, Some, None, IsNone}
use Rattle.std.specs.Int.{w32, to_le_bytes}

-- the longest payload that is read, in bytes
abbrev pub max_payload : ℕ
max_payload = 8388608

-- the one spelling of a packet
unfoldable pub packet : ℕ → List ℕ → List ℕ
packet seq payload = take 3 (to_le_bytes w32 (length payload)) ++ seq ∷ payload

-- payloads as packets, one after another, numbered on from a sequence number, modulo 256
abbrev pub packets_from : ℕ → List (List ℕ) → List ℕ
packets_from seq [] = []
packets_from seq (payload ∷ payloads) = packet seq payload ++ packets_from ((seq + 1) % 256) payloads

-- the number of the packet after so many
abbrev pub sequence_after : ℕ → List (List ℕ) → ℕ
sequence_after seq payloads = (seq + length payloads) % 256

-- the length and the sequence number that the first four bytes give
abbrev pub header_of : List ℕ → Option (ℕ × ℕ)
header_of (a ∷ b ∷ c ∷ seq ∷ rest) = Some (a + 256 * b + 65536 * c, seq)
header_of bytes = None

-- The bytes begin with a header whose length is above the limit.
abbrev pub IsTooLarge : List ℕ → ℕ → ℕ → Type 0
IsTooLarge bytes size seq = (header_of bytes ≡ Some (size, seq)) × (max_payload < size)

-- The bytes begin with a header within the limit whose sequence number is another than the one expected.
abbrev pub IsOutOfOrder : ℕ → List ℕ → ℕ → Type 0
IsOutOfOrder expect bytes seq = (size : ℕ) × (header_of bytes ≡ Some (size, seq)) × (size ≤ max_payload) × (seq ≢ expect)

-- Less than a whole packet, of which nothing is wrong yet: no whole header, or a good one and a part of its payload.
abbrev pub IsPartial : ℕ → List ℕ → Type 0
IsPartial expect bytes = IsNone (header_of bytes) ⊎ ((size : ℕ) × (header_of bytes ≡ Some (size, expect)) × (size ≤ max_payload) × (length bytes < 4 + size))

-- The bytes begin with this packet, which has the number expected, and go on with the rest.
abbrev pub BeginsWith : ℕ → List ℕ → List ℕ → List ℕ → Type 0
BeginsWith expect bytes payload rest = (length payload ≤ max_payload) × (bytes ≡ packet expect payload ++ rest)
