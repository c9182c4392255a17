-- Characters as they are written.
use Rattle.std.proofs.Common.{◌≡◌, ℕ, zero, suc, ◌-◌, ◌^◌, ◌<◌, ◌≤◌, List, [], ◌∷◌, length, take, take_all, drop, get_or, Option, Some, None, MatchOption, sym, ap, subst, arith, inl, inr, length-take}
use Rattle.std.specs.Char.{digit_value}
use Rattle.std.specs.Str.Parse.{digits_value, AllDigits}
use Rattle.std.proofs.lemmas.Int.Digits.{digits_value-lt}
use Rattle.std.proofs.Math.Nat.{pow-le-pow_right}
use Rattle.charset_map.specs.Characters.{IsCharacter, IsCode}

-- five digits are few enough for one more
pub code_below : (digits : List ℕ) (i : ℕ) → i < length digits → length digits ≤ 6 → AllDigits 16 (take i digits) → digits_value 16 (take i digits) < 1048576
code_below digits i within few all =
    let below : digits_value 16 (take i digits) < 16 ^ length (take i digits) = digits_value-lt 16 (take i digits) all in
    let short : length (take i digits) ≤ 5 = omega (arith, length-take {A = ℕ}) in
    let room : 16 ^ length (take i digits) ≤ 16 ^ 5 = pow-le-pow_right (omega arith) short in
    omega (arith, below, room)

-- each digit is one
pub digit_at : (digits : List ℕ) (i : ℕ) → AllDigits 16 digits → i < length digits → digit_value (get_or digits i 0) < 16
digit_at [] i all within = absurd (omega arith)
digit_at (digit ∷ digits) zero all within = all.0
digit_at (digit ∷ digits) (suc i) all within = digit_at digits i all.1 (omega arith)

-- what isn't a digit spoils the code
pub no_code : (digits : List ℕ) (i : ℕ) → i < length digits → ¬ (digit_value (get_or digits i 0) < 16) → (c : ℕ) → ¬ (IsCode (85 ∷ 43 ∷ digits) c)
no_code digits i within other c code =
    let same : digits ≡ code.digits = cc in
    other (subst (λ (ds : List ℕ). digit_value (get_or ds i 0) < 16) (sym same) (digit_at code.digits i code.hexadecimal (subst (λ (ds : List ℕ). i < length ds) same within)))

-- a text that begins with the two bytes
two_bytes : (text : List ℕ) → 2 ≤ length text → get_or text 0 0 ≡ 85 → get_or text 1 0 ≡ 43 → text ≡ 85 ∷ 43 ∷ take (length text - 2) (drop 2 text)
two_bytes [] long first second = absurd (omega arith)
two_bytes (a ∷ []) long first second = absurd (omega arith)
two_bytes (a ∷ b ∷ rest) long first second =
    let all : take (length (a ∷ b ∷ rest) - 2) rest ≡ rest = take_all (length (a ∷ b ∷ rest) - 2) rest (omega arith) in
    let tail : a ∷ b ∷ take (length (a ∷ b ∷ rest) - 2) rest ≡ a ∷ b ∷ rest = ap (λ r. a ∷ b ∷ r) all in
    cc

-- such a text is a code or nothing
pub character_from_code : (text : List ℕ) (found : Option ℕ) → 2 ≤ length text → get_or text 0 0 ≡ 85 → get_or text 1 0 ≡ 43 → MatchOption found ((c : ℕ) → ¬ (IsCode (85 ∷ 43 ∷ take (length text - 2) (drop 2 text)) c)) (λ c. IsCode (85 ∷ 43 ∷ take (length text - 2) (drop 2 text)) c) → MatchOption found ((c : ℕ) → ¬ (IsCharacter text c)) (λ c. IsCharacter text c)
character_from_code text (Some c) long first second said = inr (subst (λ (t : List ℕ). IsCode t c) (sym (two_bytes text long first second)) said)
character_from_code text None long first second said = λ c written. elim written [
  | inl plain ↦ absurd (omega (arith, ap length plain.0))
  | inr code ↦ said c (subst (λ (t : List ℕ). IsCode t c) (two_bytes text long first second) code)
]
