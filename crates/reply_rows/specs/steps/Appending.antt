-- How result sets are written.
use Rattle.std.specs.Prelude.{◌≡◌, ℕ, List, ◌++◌, length, take, Result, Ok, Err}
use Rattle.mysql_wire.specs.Packets.{packets_from, sequence_after}

-- these payloads were appended as packets, or only a prefix of their bytes
abbrev pub Appends : {E : Type 0} → Result ℕ E → ℕ → List (List ℕ) → List ℕ → List ℕ → Type 0
Appends (Ok next) seq payloads old new = (next ≡ sequence_after seq payloads) × (new ≡ old ++ packets_from seq payloads)
Appends (Err e) seq payloads old new = take (length old) new ≡ old
