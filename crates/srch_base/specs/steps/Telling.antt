-- What is recorded over calls in a row.
use Rattle.std.specs.Prelude.{◌≡◌, ℕ, List, [], ◌++◌, length, Option, Some, None, Ok}
use Rattle.std.proofs.Common.{◌≤◌, refl, ap, append-nil, append_assoc, arith}
use Rattle.std.proofs.lemmas.Grind.{common_steps}
use Rattle.srch_base.specs.Told.{then_bytes, moved_by}

-- where nothing moved, the same is recorded
pub then_bytes-none : (told : Option (List ℕ)) → then_bytes told [] ≡ told
then_bytes-none None = refl
then_bytes-none (Some told) = ap Some (append-nil told)

-- two moves in a row record what one move of both records
pub then_bytes-twice : (told : Option (List ℕ)) (first second : List ℕ) → then_bytes (then_bytes told first) second ≡ then_bytes told (first ++ second)
then_bytes-twice None first second = refl
then_bytes-twice (Some told) first second = ap Some (append_assoc told first second)

-- a move within its bytes moves as many as it counts
pub length-moved_by : (count : ℕ) (bytes : List ℕ) → count ≤ length bytes → length (moved_by (Ok count) bytes) ≡ count
length-moved_by count bytes fits = grind (arith, common_steps)
