-- The words that are kept of those that were found.
use Rattle.std.specs.Prelude.{◌≡◌, ◌≤◌, ℕ, List, [], ◌∷◌, ◌++◌, Bool, true, false, Result, Ok, Err, ◌<◌, length, take}
use Rattle.prefix_terms.specs.Prefixes.{Lists, words_together}
use Rattle.srch_base.specs.declared.faults.Or.{Or}
use Rattle.srch_base.specs.declared.faults.Or.TheVariants as causes
use Rattle.prefix_terms.specs.declared.expansion.TheConstants.{MAX_PREFIX_WORDS}
use Rattle.prefix_terms.specs.declared.expansion.Expansion.{Expansion}
use Rattle.prefix_terms.specs.declared.expansion.TooMany.{TooMany}

-- these words were found, and as many of them kept as there is room for
pub record AreFound (room : ℕ) (words : List (List ℕ)) (kept : List (List ℕ)) (count : ℕ) : Type 0 where
  pub first : kept ≡ take room words
  pub counted : count ≡ length words

-- the words with one more, if it is living
abbrev pub with_living : Bool → List (List ℕ) → List ℕ → List (List ℕ)
with_living true words word = words ++ word ∷ []
with_living false words word = words

-- these lists were found with so many words together, and they are kept where these aren't too many
pub record AreListed (lists kept : Lists) (count : ℕ) : Type 0 where
  pub counted : count ≡ words_together lists
  pub whole : count ≤ MAX_PREFIX_WORDS → kept ≡ lists

-- what is told of lists with so many words together
abbrev pub Tells : Lists → ℕ → Result Expansion (Or TooMany) → Type 0
Tells kept count (Ok expansion) = (count ≤ MAX_PREFIX_WORDS) × (expansion.keys ≡ kept)
Tells kept count (Err causes.NoMemory) = ⊥
Tells kept count (Err (causes.Fault many)) = (many.count ≡ count) × (MAX_PREFIX_WORDS < count)
