-- Writing some bytes to their end.
use Rattle.std.specs.Prelude.{◌≡◌, ℕ, List, [], Result, Ok, Err}
use Rattle.srch_base.specs.Counts.{Rose}
use Rattle.srch_base.specs.Moves.{Meters, IsCut}

-- All the bytes were written, or a prefix of them and the count of writes rose.
abbrev pub WritesAll : {T E : Type 0} → Result T E → List ℕ → Meters → Meters → List ℕ → List ℕ → Type 0
WritesAll (Ok x) bytes before now read written = (read ≡ []) × (written ≡ bytes)
WritesAll (Err e) bytes before now read written = (read ≡ []) × IsCut written bytes × Rose before.write_faults now.write_faults
