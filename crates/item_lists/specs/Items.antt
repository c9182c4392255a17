-- Items that are spelled one behind the other, such as the words of a dictionary or the lists of a file. How the next one is spelled,
-- and what it may be, depends on what the one before left.
use Rattle.std.specs.Prelude.{◌≡◌, ◌⊎◌, ℕ, ◌-◌, ◌<◌, List, [], ◌∷◌, ◌++◌, length}

-- the spelling of some items
abbrev pub spelled : {S A : Type 0} → (S → A → List ℕ) → (S → A → S) → S → List A → List ℕ
spelled write next s [] = []
spelled write next s (x ∷ xs) = write s x ++ spelled write next (next s x) xs

-- what some items leave
abbrev pub left_by : {S A : Type 0} → (S → A → S) → S → List A → S
left_by next s [] = s
left_by next s (x ∷ xs) = left_by next (next s x) xs

-- each is what it may be
abbrev pub AllFit : {S A : Type 0} → (S → A → S) → (S → A → Type 0) → S → List A → Type 0
AllFit next Fits s [] = Unit {0}
AllFit next Fits s (x ∷ xs) = Fits s x × AllFit next Fits (next s x) xs

-- the bytes are so many items, and nothing else
pub record AreAllItems {S A : Type 0} (write : S → A → List ℕ) (next : S → A → S) (Fits : S → A → Type 0) (bytes : List ℕ) (s : S) (count : ℕ) (xs : List A) : Type 0 where
  pub counted : length xs ≡ count
  pub fit : AllFit next Fits s xs
  pub is : bytes ≡ spelled write next s xs

-- none that fits is spelled next
abbrev pub IsNone : {S A : Type 0} → (S → A → List ℕ) → (S → A → Type 0) → S → List ℕ → Type 0
IsNone {S} {A} write Fits s rest = (x : A) (later : List ℕ) → Fits s x → rest ≡ write s x ++ later → ⊥

-- one that fits is spelled next, and bytes are left behind it
abbrev pub IsFollowed : {S A : Type 0} → (S → A → List ℕ) → (S → A → Type 0) → S → List ℕ → Type 0
IsFollowed {S} {A} write Fits s rest = (x : A) × (later : List ℕ) × Fits s x × (rest ≡ write s x ++ later) × (0 < length later)

-- what is wrong where so many items should follow: none that fits is spelled next, or the next one is the last and bytes are left
-- behind it
abbrev pub IsWrong : {S A : Type 0} → (S → A → List ℕ) → (S → A → Type 0) → ℕ → S → List ℕ → Type 0
IsWrong write Fits more s rest = IsNone write Fits s rest ⊎ ((more ≡ 1) × IsFollowed write Fits s rest)

-- The bytes are not so many items: this is the place of the first one that is wrong.
pub record IsFirstWrong {S A : Type 0} (write : S → A → List ℕ) (next : S → A → S) (Fits : S → A → Type 0) (bytes : List ℕ) (s : S) (count place : ℕ) : Type 0 where
  pub before : List A
  pub rest : List ℕ
  pub fit : AllFit next Fits s before
  pub is : bytes ≡ spelled write next s before ++ rest
  pub place_is : place ≡ length (spelled write next s before)
  pub some : length before < count
  pub wrong : IsWrong write Fits (count - length before) (left_by next s before) rest

-- no spelling of an item begins that of another
abbrev pub AreApart : {S A : Type 0} → (S → A → List ℕ) → (S → A → Type 0) → Type 0
AreApart {S} {A} write Fits = (s : S) (a b : A) (x y : List ℕ) → Fits s a → Fits s b → write s a ++ x ≡ write s b ++ y → (a ≡ b) × (x ≡ y)
