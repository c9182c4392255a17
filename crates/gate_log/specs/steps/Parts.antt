-- What stands where a gate should.
use Rattle.std.specs.Prelude.{◌≡◌, ℕ, ◌<◌, ◌^◌, List, ◌∷◌, ◌++◌, length, Result, Ok, Err}
use Rattle.gate_log.specs.Frames.{frame}
use Rattle.gate_log.specs.Reading.{IsClosed, IsWrong, MayCome}
use Rattle.gate_log.specs.declared.fault.LogFault.{LogFault}
use Rattle.gate_log.specs.declared.fault.LogFault.TheVariants as faults
use Rattle.gate_log.specs.declared.reading.Before.{Before}
use Rattle.gate_log.specs.declared.reading.Part.{Part}
use Rattle.gate_log.specs.declared.reading.Part.TheVariants as parts

-- An open gate stands here, a record that may come next, and what begins with a gate.
pub record IsNext (before : Before) (number : ℕ) (payload after rest : List ℕ) : Type 0 where
  pub short : length payload < 2 ^ 32
  pub small : number < 2 ^ 63
  pub may : MayCome before number
  pub gate : 0 < length after
  pub is : rest ≡ 1 ∷ (frame (record { number = number; payload = payload }) ++ after)

-- what stands here
abbrev pub IsPart : Before → List ℕ → Part → Type 0
IsPart before rest (parts.Record number payload after) = IsNext before number payload.now after.now rest
IsPart before rest parts.Closed = IsClosed rest
IsPart before rest (parts.Wrong kind) = IsWrong kind before rest

-- The answer isn't that the disk failed.
abbrev pub IsOfBytes : {T : Type 0} → Result T LogFault → Type 0
IsOfBytes (Ok value) = Unit {0}
IsOfBytes (Err faults.DiskFault) = ⊥
IsOfBytes (Err fault) = Unit {0}
