-- How the rows of each word are collected: word by word, in a tree.
use Rattle.std.specs.Prelude.{ℕ, ◌-◌, List, [], ◌∷◌, ◌++◌, Bool, true, false, ◌==◌, Option, Some, None, length, slice_get, if◌then◌else◌}
use Rattle.std.specs.Option.{option_map, option_map_or}
use Rattle.std.specs.BTreeMap.{BTreeMap, get}
use Rattle.std.specs.Cmp.Lexicographic.{slice_cmp}
use Rattle.std.specs.Ordering.{nat_cmp}
use Rattle.std.proofs.Common.{Vec, Global}

-- the rows that were collected for a word, if there are some
abbrev pub rows_in : BTreeMap (List ℕ) (Vec ℕ Global) → List ℕ → Option (List ℕ)
rows_in collected word = option_map (λ rows. rows.items) (get (slice_cmp nat_cmp) collected word)

-- a list that isn't empty
abbrev pub some_of : List ℕ → Option (List ℕ)
some_of [] = None
some_of (x ∷ xs) = Some (x ∷ xs)

-- the number is the last one of the list
abbrev pub ends_in : ℕ → List ℕ → Bool
ends_in n xs = option_map_or (λ last. last == n) (slice_get xs (length xs - 1)) false

-- the list with the number at its end, where it isn't there already
abbrev pub ended_by : ℕ → List ℕ → List ℕ
ended_by n xs = if ends_in n xs then xs else xs ++ n ∷ []

-- the rows of a word with one more, where that row has the word
abbrev pub with_row : ℕ → Bool → Option (List ℕ) → Option (List ℕ)
with_row n false rows = rows
with_row n true None = Some (n ∷ [])
with_row n true (Some rows) = Some (ended_by n rows)
