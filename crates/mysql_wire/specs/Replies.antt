-- What the server writes: the greeting, OK_Packet, ERR_Packet, EOF_Packet, "Column Definition" and "Text Resultset Row".
use Rattle.std.specs.Prelude.{ℕ, List, [], ◌∷◌, ◌++◌, replicate, codes}
use Rattle.std.specs.Int.{w16, w32, to_le_bytes}
use Rattle.mysql_wire.specs.Packets.{packet}
use Rattle.mysql_wire.specs.LengthEncoded.{lenenc}

-- protocol 10, the version's text, the connection, 8 bytes of scramble, the capabilities, the character set, the status, 12 more bytes of scramble, the plugin's name
unfoldable pub greeting_payload : ℕ → List ℕ
greeting_payload connection =
    10 ∷ codes "2.2.11-rt1" ++ 0 ∷ []
    ++ to_le_bytes w32 connection
    ++ 1 ∷ 2 ∷ 3 ∷ 4 ∷ 5 ∷ 6 ∷ 7 ∷ 8 ∷ 0 ∷ []
    ++ 0x09 ∷ 0xa2 ∷ 0x21 ∷ 0x02 ∷ 0x00 ∷ 0x0b ∷ 0x00 ∷ 0x15 ∷ replicate 10 0
    ++ 9 ∷ 10 ∷ 11 ∷ 12 ∷ 13 ∷ 14 ∷ 15 ∷ 16 ∷ 17 ∷ 18 ∷ 19 ∷ 20 ∷ 0 ∷ []
    ++ codes "mysql_native_password" ++ 0 ∷ []

-- the packet that opens a line
abbrev pub greeting : ℕ → List ℕ
greeting connection = packet 0 (greeting_payload connection)

-- the rows affected, the last insert id 0, the status, no warnings
unfoldable pub ok_payload : ℕ → ℕ → List ℕ
ok_payload affected status = 0x00 ∷ lenenc affected ++ lenenc 0 ++ to_le_bytes w16 status ++ to_le_bytes w16 0

abbrev pub ok_packet : ℕ → ℕ → ℕ → List ℕ
ok_packet seq affected status = packet seq (ok_payload affected status)

-- the code, the SQL state after its mark, the text
unfoldable pub err_payload : ℕ → List ℕ → List ℕ → List ℕ
err_payload code state text = 0xff ∷ to_le_bytes w16 code ++ 0x23 ∷ state ++ text

abbrev pub err_packet : ℕ → ℕ → List ℕ → List ℕ → List ℕ
err_packet seq code state text = packet seq (err_payload code state text)

-- no warnings, the status
unfoldable pub eof_payload : ℕ → List ℕ
eof_payload status = 0xfe ∷ to_le_bytes w16 0 ++ to_le_bytes w16 status

abbrev pub eof_packet : ℕ → ℕ → List ℕ
eof_packet seq status = packet seq (eof_payload status)
