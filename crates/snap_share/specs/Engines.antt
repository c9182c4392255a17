-- Engines: an index as its workers share it.
use Rattle.std.specs.Prelude.{ℕ}

-- Of which index it is, how many workers commit, and how many records, documents and chunks on the disk there were at opening.
pub record EngineValue : Type 0 where
  pub index : ℕ
  pub workers : ℕ
  pub records : ℕ
  pub documents : ℕ
  pub chunks : ℕ
