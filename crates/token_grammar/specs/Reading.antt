-- What a reader of a part of the grammar makes of the tokens before it.
use Rattle.std.specs.Prelude.{◌≡◌, ℕ, List, [], ◌∷◌, ◌++◌, Bool, true, false, Some, Result, Ok, Err}
use Rattle.srch_base.specs.declared.faults.Or.{Or}
use Rattle.srch_base.specs.declared.faults.Or.TheVariants.{Fault}
use Rattle.token_grammar.specs.Alphabets.{Alphabet}
use Rattle.token_grammar.specs.Language.{Re, one, seq, verdict}
use Rattle.token_grammar.specs.Firsts.{IsFree}

-- the place of the next token
abbrev pub first_place : {C T : Type 0} → Alphabet C T → List T → ℕ
first_place Σ [] = 0
first_place Σ (t ∷ ts) = Σ.at t

-- The part r has been read, whatever follows it, unless that can begin with one of the tokens with which r may go on: what is
-- left now leaves the rest of the grammar exactly where what was left before leaves r and this rest. The tokens in between
-- have the property.
pub record TakesPart {C T : Type 0} (Σ : Alphabet C T) (r : Re C) (goes_on : List C) (P : List T → Type 0) (before now : List T) : Type 0 where
  pub takes : (rest : Re C) → IsFree Σ goes_on rest → verdict Σ (seq r rest) before ≡ verdict Σ rest now
  pub used : List T
  pub is : before ≡ used ++ now
  pub has : P used

-- The part r can't be read, whatever follows it: no text goes on with the token at this place.
pub record StopsPart {C T : Type 0} (Σ : Alphabet C T) (r : Re C) (goes_on : List C) (before : List T) (place : ℕ) : Type 0 where
  pub rest : List T
  pub place_is : place ≡ first_place Σ rest
  pub leaves : (more : Re C) → IsFree Σ goes_on more → verdict Σ (seq r more) before ≡ Some rest

-- So it is where a reader answered with this error, unless memory was refused.
pub record FailsPart {C T : Type 0} (Σ : Alphabet C T) (r : Re C) (goes_on : List C) (before : List T) (error : Or ℕ) : Type 0 where
  pub fails : (place : ℕ) → error ≡ Fault place → StopsPart Σ r goes_on before place

-- A reader of the part r, whose values are such tokens, answered so.
abbrev pub ReadsPart : {C T A : Type 0} → Alphabet C T → Re C → List C → (A → List T → Type 0) → List T → Result A (Or ℕ) → List T → Type 0
ReadsPart Σ r goes_on Is before (Ok value) now = TakesPart Σ r goes_on (Is value) before now
ReadsPart Σ r goes_on Is before (Err error) now = FailsPart Σ r goes_on before error

-- Whether the next token is of the class.
pub record IsNextOf {C T : Type 0} (Σ : Alphabet C T) (c : C) (tokens : List T) (answer : Bool) : Type 0 where
  pub next : T
  pub rest : List T
  pub is : tokens ≡ next ∷ rest
  pub fits : Σ.fits c next ≡ answer

-- Whether the next token was of the class: then it was taken.
abbrev pub TakesIf : {C T : Type 0} → Alphabet C T → C → (List T → Type 0) → List T → Bool → List T → Type 0
TakesIf Σ c P before true now = TakesPart Σ (one c) [] P before now × IsNextOf Σ c before true
TakesIf Σ c P before false now = (now ≡ before) × IsNextOf Σ c before false

-- whether the token after the next one is there and of the class
abbrev pub second_fits : {C T : Type 0} → Alphabet C T → C → List T → Bool
second_fits Σ c [] = false
second_fits Σ c (t ∷ []) = false
second_fits Σ c (t ∷ u ∷ ts) = Σ.fits c u

-- Whether a token of the one class is next, and one of the other after it.
pub data IsFollowed {C T : Type 0} (Σ : Alphabet C T) (c d : C) (tokens : List T) : Bool → Type 0 where
  followed : IsNextOf Σ c tokens true → second_fits Σ d tokens ≡ true → IsFollowed Σ c d tokens true
  unlike : IsNextOf Σ c tokens false → IsFollowed Σ c d tokens false
  unfollowed : IsNextOf Σ c tokens true → second_fits Σ d tokens ≡ false → IsFollowed Σ c d tokens false
