-- "Protocol::HandshakeResponse41": how a client answers the greeting.
use Rattle.std.specs.Prelude.{◌≡◌, ◌≢◌, ◌⊎◌, ℕ, ◌+◌, ◌<◌, ◌≤◌, Bool, true, false, not, ◌==◌, ◌&&◌, nat_lt, nat_le, bit_and, List, ◌∷◌, ◌++◌, Option, Some, None, length, take, drop, if◌then◌else◌}
use Rattle.std.specs.Bool.{MatchBool}
use Rattle.std.specs.List.{AllByRecursion}
use Rattle.srch_base.specs.Numbers.{number_of}
use Rattle.mysql_wire.specs.Fields.{Lengthed, IsField}

-- what a response says, as far as it is looked at
pub record Response : Type 0 where
  pub flags : ℕ
  pub user : List ℕ
  pub database : Option (List ℕ)

-- A capability is among the client's.
abbrev pub has : ℕ → ℕ → Bool
has flags flag = not (bit_and flags flag == 0)

-- the capabilities that the layout depends on
abbrev pub connect_with_database : ℕ
connect_with_database = 0x8

abbrev pub protocol_41 : ℕ
protocol_41 = 0x200

abbrev pub secure_connection : ℕ
secure_connection = 0x8000

abbrev pub length_encoded_answer : ℕ
length_encoded_answer = 0x200000

-- the flags, in the first four bytes
abbrev pub flags_of : List ℕ → ℕ
flags_of payload = number_of (take 4 payload)

-- The flags are whole, and the client speaks protocol 4.1.
abbrev pub speaks_41 : List ℕ → Bool
speaks_41 payload = nat_le 4 (length payload) && has (flags_of payload) protocol_41

abbrev pub HasNoNul : List ℕ → Type 0
HasNoNul = AllByRecursion (λ byte. byte ≢ 0)

-- a text up to a NUL, and what follows it
abbrev pub EndsAtNul : List ℕ → List ℕ → List ℕ → Type 0
EndsAtNul bytes text rest = HasNoNul text × (bytes ≡ text ++ 0 ∷ rest)

-- The authentication answer, and what follows it: after its length, which is length-encoded or one byte, or up to a NUL.
abbrev pub HasAnswer : ℕ → List ℕ → List ℕ → Type 0
HasAnswer flags bytes rest = (answer : List ℕ) × MatchBool (has flags length_encoded_answer)
    ((part : List ℕ) × IsField (Lengthed answer) part × (bytes ≡ part ++ rest))
    (MatchBool (has flags secure_connection) (bytes ≡ length answer ∷ answer ++ rest) (EndsAtNul bytes answer rest))

-- the database, where its flag is set: up to a NUL or to the end
abbrev pub HasDatabase : ℕ → List ℕ → Option (List ℕ) → Type 0
HasDatabase flags bytes None = has flags connect_with_database ≡ false
HasDatabase flags bytes (Some name) = (has flags connect_with_database ≡ true) × HasNoNul name × ((bytes ≡ name) ⊎ ((rest : List ℕ) × (bytes ≡ name ++ 0 ∷ rest)))

-- The payload is this response: 32 bytes of which only the flags are looked at, the user, the answer, the database. Any bytes may follow, such as the plugin's name.
abbrev pub IsResponse : List ℕ → Response → Type 0
IsResponse payload response = (speaks_41 payload ≡ true) × (32 ≤ length payload) × (response.flags ≡ flags_of payload)
    × ((behind_user behind_answer : List ℕ) × EndsAtNul (drop 32 payload) response.user behind_user
    × HasAnswer response.flags behind_user behind_answer × HasDatabase response.flags behind_answer response.database)

-- the field that a payload of 4 to 31 bytes breaks off in: the longest packet, the character set, or 23 bytes that say nothing
abbrev pub cut_place : ℕ → ℕ
cut_place size = if nat_lt size 8 then 4 else (if nat_lt size 9 then 8 else 9)

-- The payload is no response, and the first field that isn't whole is at this place: the flags, also where they lack protocol 4.1, one of fixed size, the user, or the answer.
abbrev pub IsBadResponse : List ℕ → ℕ → Type 0
IsBadResponse payload place =
    ((speaks_41 payload ≡ false) × (place ≡ 0))
    ⊎ ((speaks_41 payload ≡ true) × (length payload < 32) × (place ≡ cut_place (length payload)))
    ⊎ ((speaks_41 payload ≡ true) × (32 ≤ length payload) × HasNoNul (drop 32 payload) × (place ≡ 32))
    ⊎ ((speaks_41 payload ≡ true) × (32 ≤ length payload) × ((user behind_user : List ℕ) × EndsAtNul (drop 32 payload) user behind_user
    × ((rest : List ℕ) → HasAnswer (flags_of payload) behind_user rest → ⊥) × (place ≡ 33 + length user)))
