-- What a reader has made of a list so far, and of a first token that has no certain second one.
use Rattle.std.specs.Prelude.{◌≡◌, List, ◌++◌, Bool, true, false}
use Rattle.token_grammar.specs.Alphabets.{Alphabet}
use Rattle.token_grammar.specs.Language.{Re, seq, many, listed, repeated, verdict}
use Rattle.token_grammar.specs.Firsts.{IsFree}
use Rattle.token_grammar.specs.Values.{AreListed, AreInRow}
use Rattle.token_grammar.specs.Reading.{IsNextOf, second_fits}

-- Whether a token of the class c is next, and none of the class d after it.
pub data IsLeading {C T : Type 0} (Σ : Alphabet C T) (c d : C) (tokens : List T) : Bool → Type 0 where
  leads : IsNextOf Σ c tokens true → second_fits Σ d tokens ≡ false → IsLeading Σ c d tokens true
  other : IsNextOf Σ c tokens false → IsLeading Σ c d tokens false
  led : IsNextOf Σ c tokens true → second_fits Σ d tokens ≡ true → IsLeading Σ c d tokens false

-- Of parts with a separator between them these have been read, and others may follow.
pub record TakesListed {C T A : Type 0} (Σ : Alphabet C T) (c : C) (Between : List T → Type 0) (r : Re C) (goes_on : List C) (Is : A → List T → Type 0) (before : List T) (items : List A) (now : List T) : Type 0 where
  pub takes : (rest : Re C) → IsFree Σ goes_on rest → verdict Σ (seq (listed c r) rest) before ≡ verdict Σ (seq (repeated c r) rest) now
  pub used : List T
  pub is : before ≡ used ++ now
  pub has : AreListed Between Is items used

-- Of parts in a row these have been read, and others may follow.
pub record TakesRow {C T A : Type 0} (Σ : Alphabet C T) (r : Re C) (goes_on : List C) (Is : A → List T → Type 0) (before : List T) (items : List A) (now : List T) : Type 0 where
  pub takes : (rest : Re C) → IsFree Σ goes_on rest → verdict Σ (seq (many r) rest) before ≡ verdict Σ (seq (many r) rest) now
  pub used : List T
  pub is : before ≡ used ++ now
  pub has : AreInRow Is items used
