-- The order of words by their bytes.
use Rattle.std.specs.Prelude.{◌≡◌, ℕ, List, [], ◌∷◌, Bool, true, ◌&&◌, AllPairs}
use Rattle.std.specs.Ordering.{nat_cmp, is_lt}
use Rattle.std.specs.Cmp.Lexicographic.{slice_cmp}
use Rattle.std.specs.declared.cmp.Ordering.TheVariants.{Less}

-- one word stands before another in the order of their bytes
abbrev pub Precedes : List ℕ → List ℕ → Type 0
Precedes word next = slice_cmp nat_cmp word next ≡ Less

-- the words are sorted by their bytes, and distinct: each stands before all that follow
abbrev pub IsInOrder : List (List ℕ) → Type 0
IsInOrder words = AllPairs Precedes words

-- a word stands before the first of these, and so each before the next: the test that computes over a whole table
abbrev pub in_order_after : List ℕ → List (List ℕ) → Bool
in_order_after word [] = true
in_order_after word (next ∷ words) = is_lt (slice_cmp nat_cmp word next) && in_order_after next words

-- the same of all the words
abbrev pub in_order : List (List ℕ) → Bool
in_order [] = true
in_order (word ∷ words) = in_order_after word words
