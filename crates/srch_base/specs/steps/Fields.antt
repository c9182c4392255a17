-- Number fields among other bytes.
use Rattle.std.specs.Prelude.{◌≡◌, ◌<◌, ◌≤◌, ◌^◌, ◌++◌, ℕ, ◌+◌, List, Some, None, length, take, drop}
use Rattle.std.specs.Int.{w16, w32, w64, to_le_bytes}
use Rattle.std.proofs.Common.{arith}
use Rattle.std.proofs.lemmas.Grind.{common_steps}
use Rattle.std.proofs.lemmas.Bool.Decides.{nat_tests}
use Rattle.std.proofs.lemmas.Nat.{from_le_bytes-to_le_bytes_2, from_le_bytes-to_le_bytes_4, from_le_bytes-to_le_bytes_8}
use Rattle.srch_base.specs.Numbers.{number_of, field_at}

-- a field that follows other bytes is the number that it spells
pub field_at-between : (front field rest : List ℕ) → field_at (length field) (front ++ field ++ rest) (length front) ≡ Some (number_of field)
field_at-between front field rest = grind (arith, common_steps)

-- a field is there exactly where it is whole
pub field_at-whole : (size : ℕ) (bytes : List ℕ) (at : ℕ) → at + size ≤ length bytes → field_at size bytes at ≡ Some (number_of (take size (drop at bytes)))
field_at-whole size bytes at whole = grind (arith, nat_tests)

pub field_at-cut : (size : ℕ) (bytes : List ℕ) (at : ℕ) → length bytes < at + size → field_at size bytes at ≡ None
field_at-cut size bytes at cut = grind (arith, nat_tests)

-- the bytes that a number is written as spell it
pub number_of-le_2 : (n : ℕ) → n < 2 ^ 16 → number_of (to_le_bytes w16 n) ≡ n
number_of-le_2 n fits = omega (arith, from_le_bytes-to_le_bytes_2 n fits)

pub number_of-le_4 : (n : ℕ) → n < 2 ^ 32 → number_of (to_le_bytes w32 n) ≡ n
number_of-le_4 n fits = omega (arith, from_le_bytes-to_le_bytes_4 n fits)

pub number_of-le_8 : (n : ℕ) → n < 2 ^ 64 → number_of (to_le_bytes w64 n) ≡ n
number_of-le_8 n fits = omega (arith, from_le_bytes-to_le_bytes_8 n fits)
