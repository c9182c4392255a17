-- The parts of a response, read from left to right.
use Rattle.std.proofs.Common.{◌≡◌, ◌≤◌, ℕ, suc, ◌+◌, ◌<◌, Bool, true, false, not, ◌==◌, nat_lt, cond, List, [], ◌∷◌, Option, Some, None, option_map, length, take, drop, refl, arith}
use Rattle.std.proofs.lemmas.Bool.Decides.{nat_tests}
use Rattle.std.specs.List.{position, position_or_len}
use Rattle.mysql_wire.specs.steps.ResponseFronts.{text_front}

abbrev is_nul : ℕ → Bool
is_nul byte = byte == 0

-- the front, by whether its first byte is a NUL
abbrev front_by : Bool → ℕ → List ℕ → Option (List ℕ × List ℕ)
front_by nul byte bytes = cond nul (Some ([], bytes)) (option_map {T = List ℕ × List ℕ} {U = List ℕ × List ℕ} (λ split. (byte ∷ split.0, split.1)) (text_front bytes))

none_by : (nul : Bool) (byte e : ℕ) (bytes : List ℕ) → (length bytes ≤ e → text_front bytes ≡ None) → length (byte ∷ bytes) ≤ cond (not nul) (1 + e) 0 → front_by nul byte bytes ≡ None
none_by true byte e bytes rest none = absurd (omega (arith, none))
none_by false byte e bytes rest none = rw (rest (omega (arith, none)))

some_by : (nul : Bool) (byte e : ℕ) (bytes : List ℕ) → (e < length bytes → text_front bytes ≡ Some (take e bytes, drop (e + 1) bytes)) → cond (not nul) (1 + e) 0 < length (byte ∷ bytes)
    → front_by nul byte bytes ≡ Some (take (cond (not nul) (1 + e) 0) (byte ∷ bytes), drop (cond (not nul) (1 + e) 0 + 1) (byte ∷ bytes))
some_by true byte e bytes rest at = refl
some_by false byte e bytes rest at =
    let more : 1 + e + 1 ≡ suc (e + 1) = omega arith in
    let one : 1 + e ≡ suc e = omega arith in
    rw (more, one, rest (omega (arith, at)))

-- a text ends before the first NUL
pub text_front_none : (bytes : List ℕ) → length bytes ≤ position_or_len is_nul bytes → text_front bytes ≡ None
text_front_none [] none = refl
text_front_none (byte ∷ bytes) none = none_by (byte == 0) byte (position_or_len is_nul bytes) bytes (text_front_none bytes) none

pub text_front_at : (bytes : List ℕ) → position_or_len is_nul bytes < length bytes → text_front bytes ≡ Some (take (position_or_len is_nul bytes) bytes, drop (position_or_len is_nul bytes + 1) bytes)
text_front_at [] at = absurd (omega (arith, at))
text_front_at (byte ∷ bytes) at = some_by (byte == 0) byte (position_or_len is_nul bytes) bytes (text_front_at bytes) at

split_by : (found : Bool) (end : ℕ) (bytes : List ℕ) → (found ≡ true → text_front bytes ≡ Some (take end bytes, drop (end + 1) bytes)) → (found ≡ false → text_front bytes ≡ None)
    → text_front bytes ≡ option_map {T = ℕ} {U = List ℕ × List ℕ} (λ end. (take end bytes, drop (end + 1) bytes)) (cond found (Some end) None)
split_by true end bytes some none = some refl
split_by false end bytes some none = none refl

pub text_front_split : (bytes : List ℕ) → text_front bytes ≡ option_map {T = ℕ} {U = List ℕ × List ℕ} (λ end. (take end bytes, drop (end + 1) bytes)) (position is_nul bytes)
text_front_split bytes =
    let end = position_or_len is_nul bytes in
    split_by (nat_lt end (length bytes)) end bytes
    (λ is. text_front_at bytes (grind (arith, nat_tests, is)))
    (λ is. text_front_none bytes (grind (arith, nat_tests, is)))
