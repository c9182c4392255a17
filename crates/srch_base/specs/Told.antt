-- What a link records: the bytes that went over it, in order, or nothing at all.
use Rattle.std.specs.Prelude.{ℕ, List, [], ◌++◌, Bool, false, ◌&&◌, ◌==◌, nat_lt, length, take, Option, Some, None, Result, Ok, Err}
use Rattle.srch_base.specs.declared.faults.Failed.{Failed}

-- what is recorded once these bytes have moved as well: where nothing was recorded, nothing is
abbrev pub then_bytes : Option (List ℕ) → List ℕ → Option (List ℕ)
then_bytes None moved = None
then_bytes (Some told) moved = Some (told ++ moved)

-- the bytes that a read or a write moved: the prefix that it counts, and none where it failed
abbrev pub moved_by : Result ℕ Failed → List ℕ → List ℕ
moved_by (Ok count) bytes = take count bytes
moved_by (Err e) bytes = []

-- a call that moved nothing, though there was room or there were bytes
abbrev pub moves_none : Result ℕ Failed → List ℕ → Bool
moves_none (Ok count) bytes = (count == 0) && nat_lt 0 (length bytes)
moves_none (Err e) bytes = false
