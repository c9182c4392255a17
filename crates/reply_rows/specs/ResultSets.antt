-- Result sets as payloads. "COM_QUERY Response" of the protocol.
use Rattle.std.specs.Prelude.{ℕ, ◌+◌, ◌/◌, ◌%◌, ◌==◌, List, [], ◌∷◌, ◌++◌, map, length, if◌then◌else◌}
use Rattle.mysql_wire.specs.LengthEncoded.{lenenc}
use Rattle.mysql_wire.specs.Replies.{eof_payload}
use Rattle.mysql_wire.specs.Rows.{column_payload, row_payload}
use Rattle.reply_rows.specs.declared.result_set.ResultSet.{ResultSet}

-- the payloads of a result set, in packets with this status: the number of columns, the columns, EOF, the rows, EOF
abbrev pub set_payloads : ℕ → ResultSet → List (List ℕ)
set_payloads status set =
    lenenc (length set.columns) ∷ map column_payload set.columns ++ eof_payload status ∷ map row_payload set.rows ++ eof_payload status ∷ []

-- a status that also says that another result set follows: its bit of 8 is set
abbrev pub followed : ℕ → ℕ
followed status = if ((status / 8) % 2) == 1 then status else status + 8

-- the status of a result set that so many others follow, where this is that of the last one
abbrev pub status_before : List ResultSet → ℕ → ℕ
status_before [] status = status
status_before (set ∷ sets) status = followed status

-- the payloads of result sets one after another, the last with this status
abbrev pub sets_payloads : ℕ → List ResultSet → List (List ℕ)
sets_payloads status [] = []
sets_payloads status (set ∷ sets) = set_payloads (status_before sets status) set ++ sets_payloads status sets
