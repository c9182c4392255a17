-- The tokens of a language, and the classes by which its grammar names them.
use Rattle.std.specs.Prelude.{◌≡◌, ℕ, Bool, true}

-- The classes C and the tokens T of a language. The last three say that the tests are right.
pub record Alphabet (C T : Type 0) : Type 0 where
  -- the token is of the class
  pub fits : C → T → Bool
  -- some token may be of both classes
  pub meets : C → C → Bool
  -- each token of the first class is one of the second
  pub within : C → C → Bool
  -- where a token stands in its text
  pub at : T → ℕ
  pub some : (c : C) → (t : T) × (fits c t ≡ true)
  pub meeting : (c d : C) (t : T) → fits c t ≡ true → fits d t ≡ true → meets c d ≡ true
  pub inside : (c d : C) (t : T) → within c d ≡ true → fits c t ≡ true → fits d t ≡ true
