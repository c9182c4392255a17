-- Which tokens stand for a value: one part after another, a part or none, and lists of parts.
use Rattle.std.specs.Prelude.{◌≡◌, List, [], ◌∷◌, ◌++◌, ◌⊎◌, Option, Some, None}

-- some tokens, and then some others
infixr 20 ◌then◌
abbrev pub ◌then◌ : {T : Type 0} → (List T → Type 0) → (List T → Type 0) → List T → Type 0
◌then◌ {T} P Q u = (a : List T) × (b : List T) × (u ≡ a ++ b) × P a × Q b

-- no token
abbrev pub IsAbsent : {T : Type 0} → List T → Type 0
IsAbsent u = u ≡ []

-- one token with a property
abbrev pub IsOne : {T : Type 0} → (T → Type 0) → List T → Type 0
IsOne {T} P u = (t : T) × (u ≡ t ∷ []) × P t

-- these tokens, or none
abbrev pub IsPerhaps : {T : Type 0} → (List T → Type 0) → List T → Type 0
IsPerhaps P u = P u ⊎ IsAbsent u

-- a value's tokens, and none where there is no value
abbrev pub IsGiven : {T A : Type 0} → (A → List T → Type 0) → Option A → List T → Type 0
IsGiven Is None u = IsAbsent u
IsGiven Is (Some x) u = Is x u

-- the tokens of some values, and none where there is no value
abbrev pub AreGiven : {T A : Type 0} → (List A → List T → Type 0) → List A → List T → Type 0
AreGiven Are [] u = IsAbsent u
AreGiven Are (x ∷ xs) u = Are (x ∷ xs) u

-- one value or more, each told from the next by a separator
abbrev pub AreListed : {T A : Type 0} → (List T → Type 0) → (A → List T → Type 0) → List A → List T → Type 0
AreListed Between Is [] u = ⊥
AreListed Between Is (x ∷ []) u = Is x u
AreListed Between Is (x ∷ y ∷ xs) u = (Is x then Between then AreListed Between Is (y ∷ xs)) u

-- any number of values, one after the other
abbrev pub AreInRow : {T A : Type 0} → (A → List T → Type 0) → List A → List T → Type 0
AreInRow Is [] u = IsAbsent u
AreInRow Is (x ∷ xs) u = (Is x then AreInRow Is xs) u

-- some value's tokens begin with these
abbrev pub Begins : {T A : Type 0} → (A → List T → Type 0) → List T → Type 0
Begins {T} {A} Is front = (x : A) × (more : List T) × Is x (front ++ more)

-- The stop of tokens that are no value's: the first token with which no value's tokens go on.
pub record IsStop {T A : Type 0} (Is : A → List T → Type 0) (tokens : List T) (stop : T) : Type 0 where
  pub front : List T
  pub rest : List T
  pub is : tokens ≡ front ++ stop ∷ rest
  pub begins : Begins Is front
  pub stops : Begins Is (front ++ stop ∷ []) → ⊥
