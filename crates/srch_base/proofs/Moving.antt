-- What was read grows by what a read moved.
use Rattle.std.proofs.Common.{◌≡◌, ℕ, ◌+◌, List, ◌++◌, length, take, drop}
use Rattle.std.proofs.Math.Seq.{take-add}
use Rattle.std.proofs.lemmas.List.{take_at}

pub read_on : (input moved rest : List ℕ) (at count : ℕ) → moved ≡ take count (drop at input) → length moved ≡ count → take (at + count) input ≡ take at input ++ take count (moved ++ rest)
read_on input moved rest at count e l = rw (take_at moved rest count l, e) (take-add at count input)
