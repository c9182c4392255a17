-- Short numbers one behind the other, a step at a time.
use Rattle.std.proofs.Common.{◌≡◌, ℕ, zero, ◌+◌, ◌<◌, ◌^◌, List, ◌∷◌, ◌++◌, length, get_or, drop, subst, ◌∙◌, arith, append_assoc}
use Rattle.std.specs.List.{flat_map}
use Rattle.std.proofs.lemmas.List.{drop_more}
use Rattle.doc_types.proofs.Numbers.{All-tail}
use Rattle.posting_codec.specs.Numbers.{number, IsNumberAt}
use Rattle.image_parts.specs.steps.Reading.{AreNumbersAt}
use Rattle.image_parts.proofs.Pieces.{behind, from_there}

-- what lies behind the first number
abbrev pub behind_first : List ℕ → ℕ → ℕ → List ℕ → List ℕ
behind_first bytes at n others = flat_map number others ++ drop (at + length (number n ++ flat_map number others)) bytes

pub first_there : (bytes : List ℕ) (at n : ℕ) (others : List ℕ) → AreNumbersAt bytes at (n ∷ others) → IsNumberAt bytes at n (behind_first bytes at n others)
first_there bytes at n others are = record {
  fits = are.fit zero n (omega arith);
  here = from_there bytes (number n ++ flat_map number others) at are.here ∙ append_assoc (number n) (flat_map number others) (drop (at + length (number n ++ flat_map number others)) bytes);
}

pub others_there : (bytes : List ℕ) (at to n : ℕ) (others : List ℕ) → AreNumbersAt bytes at (n ∷ others) → to ≡ at + length (number n) → AreNumbersAt bytes to others
others_there bytes at to n others are e = record {
  fit = All-tail (λ (n : ℕ). n < 2 ^ 32) n others are.fit;
  here = behind bytes (number n) (flat_map number others) at to are.here e;
}

-- where some are left
pub next_there : (bytes : List ℕ) (at : ℕ) (numbers : List ℕ) (i : ℕ) → i < length numbers → AreNumbersAt bytes at (drop i numbers) → AreNumbersAt bytes at (get_or numbers i 0 ∷ drop (i + 1) numbers)
next_there bytes at numbers i low are = subst (AreNumbersAt bytes at) (drop_more numbers i 0 low) are
