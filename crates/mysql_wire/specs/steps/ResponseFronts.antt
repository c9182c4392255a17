-- A response, read from left to right.
use Rattle.std.specs.Prelude.{◌≡◌, ℕ, ◌+◌, ◌==◌, nat_lt, nat_le, List, [], ◌∷◌, Option, Some, None, Result, Ok, Err, length, drop, option_map, option_and_then, if◌then◌else◌}
use Rattle.mysql_wire.specs.steps.NumberFronts.{lenenc_front}
use Rattle.mysql_wire.specs.Answered.{response_by}
use Rattle.mysql_wire.specs.declared.handshake.Response41.{Response41}
use Rattle.mysql_wire.specs.declared.handshake.BadHandshake.{BadHandshake}
use Rattle.mysql_wire.specs.Handshake.{Response, has, connect_with_database, speaks_41, secure_connection, length_encoded_answer, flags_of, cut_place}

-- what is after so many bytes
abbrev pub behind : ℕ → List ℕ → Option (List ℕ)
behind size bytes = if nat_le size (length bytes) then Some (drop size bytes) else None

-- what is after as many bytes as a number says
abbrev pub behind_counted : Option (ℕ × List ℕ) → Option (List ℕ)
behind_counted = option_and_then (λ counted. behind counted.0 counted.1)

-- what is after as many bytes as the first byte says
abbrev pub behind_byte : List ℕ → Option (List ℕ)
behind_byte [] = None
behind_byte (size ∷ bytes) = behind size bytes

-- a text up to a NUL, and what is after it
abbrev pub text_front : List ℕ → Option (List ℕ × List ℕ)
text_front [] = None
text_front (byte ∷ bytes) = if byte == 0 then Some ([], bytes) else option_map (λ split. (byte ∷ split.0, split.1)) (text_front bytes)

-- the text, where there is one, or all
abbrev pub text_or_all : Option (List ℕ × List ℕ) → List ℕ → List ℕ
text_or_all None bytes = bytes
text_or_all (Some split) bytes = split.0

-- what is after the authentication answer
unfoldable pub behind_answer : ℕ → List ℕ → Option (List ℕ)
behind_answer flags bytes =
    if has flags length_encoded_answer then behind_counted (lenenc_front bytes)
    else (if has flags secure_connection then behind_byte bytes
    else option_map (λ split. split.1) (text_front bytes))

unfoldable pub database_of : ℕ → List ℕ → Option (List ℕ)
database_of flags bytes = if has flags connect_with_database then Some (text_or_all (text_front bytes) bytes) else None

-- with the user and what is after it
abbrev pub response_with : ℕ → List ℕ → Option (List ℕ) → Result Response ℕ
response_with flags user None = Err (33 + length user)
response_with flags user (Some rest) = Ok (record { flags = flags; user = user; database = database_of flags rest })

abbrev pub response_behind : ℕ → Option (List ℕ × List ℕ) → Result Response ℕ
response_behind flags None = Err 32
response_behind flags (Some split) = response_with flags split.0 (behind_answer flags split.1)

-- the response, or the place of the first field that isn't whole
unfoldable pub response_of : List ℕ → Result Response ℕ
response_of payload =
    if speaks_41 payload
    then (if nat_lt (length payload) 32 then Err (cut_place (length payload)) else response_behind (flags_of payload) (text_front (drop 32 payload)))
    else Err 0

-- What was answered is what reading gives.
abbrev pub GivesResponse : Result Response41 BadHandshake → Result Response ℕ → Type 0
GivesResponse (Ok r) read = read ≡ Ok (response_by r)
GivesResponse (Err e) read = read ≡ Err e.place
