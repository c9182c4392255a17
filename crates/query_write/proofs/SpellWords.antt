-- A word as it is written is one piece of the text.
use Rattle.std.proofs.Common.{◌≡◌, ℕ, ◌+◌, ◌-◌, ◌<◌, ◌≤◌, Bool, true, false, eqb, List, [], ◌∷◌, ◌++◌, ◌||◌, ◌&&◌, length, get_or, chars, encode_utf8, encode_utf8_all, refl, sym, ap, ◌∙◌, subst, arith, ⊎_elim, append_assoc, length-append}
use Rattle.std.specs.Prelude.{Option, Some, None, ◌==◌, is_some}
use Rattle.std.proofs.Math.Utf8.{scalar}
use Rattle.std.proofs.lemmas.Bool.{both_ways, cases_lt, and_right, or_from}
use Rattle.std.proofs.lemmas.List.{get_or_append_left}
use Rattle.std.proofs.lemmas.Str.{chars-nil, encode_ascii}
use Rattle.query_pieces.specs.QueryBytes.{byte, byte_before, is_bound}
use Rattle.query_pieces.specs.Operators.{operator_at, operator_by}
use Rattle.query_pieces.specs.Letters.{Alphabet, Letter, char_at, first_of, by_table, is_star, is_word_mark, letter_at}
use Rattle.query_pieces.specs.Pieces.{AreLetters}
use Rattle.query_write.specs.Spelling.{stays, escape, spelled_from}
use Rattle.query_write.proofs.SpellPlaces.{IsRest, rest_past, byte_first, before_on, before_next, char_is_at}
use Rattle.query_write.proofs.SpellSigns.{IsEnd, end_cases}
use Rattle.query_write.proofs.SpellLetters.{AreKept, HasNone, if_true, if_false, chars_small, encode_some, encode_high, are_high, high_at, bound_low, spelled_encode, letter_small, letter_high}

-- ---- the letters of a word, one after the other
-- the byte before the place is no bound, or the flag is true
abbrev IsAfter : List ℕ → ℕ → Bool → Type 0
IsAfter text place bounded = is_bound (byte_before text place) ≡ true → bounded ≡ true

-- the letters from each place on where they stand so
abbrev Follow : Alphabet → List ℕ → List ℕ → List ℕ → Type 0
Follow alphabet text cs rest =
    (place : ℕ) (bounded : Bool) → IsAfter text place bounded → IsRest text place (spelled_from bounded (encode_utf8_all cs) ++ rest)
    → AreLetters alphabet text true place cs (place + length (spelled_from bounded (encode_utf8_all cs)))

small_step : (alphabet : Alphabet) (text : List ℕ) (inside : Bool) (place : ℕ) (bounded : Bool) (c : ℕ) (cs rest : List ℕ) (s : Bool) → stays bounded c (encode_utf8_all cs) ≡ s → c < 128 → alphabet.fold c ≡ Some c → IsEnd rest → IsAfter text place bounded → Follow alphabet text cs rest → IsRest text place (spelled_from bounded (c ∷ encode_utf8_all cs) ++ rest) → AreLetters alphabet text inside place (c ∷ cs) (place + length (spelled_from bounded (c ∷ encode_utf8_all cs)))
small_step alphabet text inside place bounded c cs rest s stay small same end before follow at =
    let bytes : List ℕ = encode_utf8_all cs in
    let here : IsRest text place (escape s ++ (c ∷ (spelled_from (is_bound c) bytes ++ rest))) =
    subst (λ (l : List ℕ). IsRest text place l) (append_assoc (escape s) (c ∷ spelled_from (is_bound c) bytes) rest) (subst (λ (t : Bool). IsRest text place (escape t ++ c ∷ spelled_from (is_bound c) bytes ++ rest)) stay at) in
    let beside : IsRest text (place + length (escape s)) (c ∷ (spelled_from (is_bound c) bytes ++ rest)) = rest_past text place (escape s) (c ∷ (spelled_from (is_bound c) bytes ++ rest)) here in
    let next : IsRest text (place + length (escape s) + 1) (spelled_from (is_bound c) bytes ++ rest) = rest_past text (place + length (escape s)) (c ∷ []) (spelled_from (is_bound c) bytes ++ rest) beside in
    let after : IsAfter text (place + length (escape s) + 1) (is_bound c) = λ bound. sym (ap is_bound (before_next text (place + length (escape s)) c (spelled_from (is_bound c) bytes ++ rest) beside)) ∙ bound in
    let size : length (spelled_from bounded (c ∷ bytes)) ≡ length (escape s) + (1 + length (spelled_from (is_bound c) bytes)) =
    ap (λ (t : Bool). length (escape t ++ c ∷ spelled_from (is_bound c) bytes)) stay ∙ length-append (escape s) (c ∷ spelled_from (is_bound c) bytes) ∙ ap (λ (n : ℕ). length (escape s) + n) (omega arith) in
    let to : place + length (escape s) + 1 + length (spelled_from (is_bound c) bytes) ≡ place + length (spelled_from bounded (c ∷ bytes)) = omega (arith, size) in (
      record { folded = c; to = place + length (escape s) + 1 },
      letter_small alphabet text inside place bounded c bytes rest s stay small same end before at,
      refl,
      subst (λ (n : ℕ). AreLetters alphabet text true (place + length (escape s) + 1) cs n) to (follow (place + length (escape s) + 1) (is_bound c) after next),
    )

-- no bound stands before what follows a character that isn't ASCII
high_before : (text : List ℕ) (place : ℕ) (front rest : List ℕ) → 0 < length front → are_high front ≡ true → IsRest text place (front ++ rest) → is_bound (byte_before text (place + length front)) ≡ true → false ≡ true
high_before text place front rest some are at bound =
    let below : length front - 1 < length front = omega (arith, some) in
    let e : place + length front ≡ place + (length front - 1) + 1 = omega (arith, some) in
    let is : byte_before text (place + length front) ≡ get_or front (length front - 1) 32 =
    ap (byte_before text) e ∙ before_on text place (length front - 1) (front ++ rest) at ∙ get_or_append_left front rest 32 (length front - 1) below in
    absurd (both_ways (is_bound (get_or front (length front - 1) 32)) (bound_low (get_or front (length front - 1) 32) (high_at front (length front - 1) are below)) (ap is_bound (sym is) ∙ bound))

high_step : (alphabet : Alphabet) (text : List ℕ) (inside : Bool) (place : ℕ) (bounded : Bool) (c : ℕ) (cs rest : List ℕ) → 128 ≤ c → scalar c ≡ true → alphabet.fold c ≡ Some c → IsEnd rest → IsAfter text place bounded → Follow alphabet text cs rest → IsRest text place (spelled_from bounded (encode_utf8 c ++ encode_utf8_all cs) ++ rest) → AreLetters alphabet text inside place (c ∷ cs) (place + length (spelled_from bounded (encode_utf8 c ++ encode_utf8_all cs)))
high_step alphabet text inside place bounded c cs rest high is same end before follow at =
    let bytes : List ℕ = encode_utf8_all cs in
    let here : IsRest text place (encode_utf8 c ++ (spelled_from false bytes ++ rest)) =
    subst (λ (l : List ℕ). IsRest text place l) (append_assoc (encode_utf8 c) (spelled_from false bytes) rest) (subst (λ (l : List ℕ). IsRest text place (l ++ rest)) (spelled_encode bounded c bytes high) at) in
    let next : IsRest text (place + length (encode_utf8 c)) (spelled_from false bytes ++ rest) = rest_past text place (encode_utf8 c) (spelled_from false bytes ++ rest) here in
    let size : length (spelled_from bounded (encode_utf8 c ++ bytes)) ≡ length (encode_utf8 c) + length (spelled_from false bytes) =
    ap length (spelled_encode bounded c bytes high) ∙ length-append (encode_utf8 c) (spelled_from false bytes) in
    let to : place + length (encode_utf8 c) + length (spelled_from false bytes) ≡ place + length (spelled_from bounded (encode_utf8 c ++ bytes)) = omega (arith, size) in (
      record { folded = c; to = place + length (encode_utf8 c) },
      letter_high alphabet text inside place bounded c bytes rest high is same end before at,
      refl,
      subst (λ (n : ℕ). AreLetters alphabet text true (place + length (encode_utf8 c)) cs n) to (follow (place + length (encode_utf8 c)) false (high_before text place (encode_utf8 c) (spelled_from false bytes ++ rest) (encode_some c) (encode_high c high) here) next),
    )

pub letters_are : (alphabet : Alphabet) (text : List ℕ) (inside : Bool) (place : ℕ) (bounded : Bool) (cs rest : List ℕ) → AreKept alphabet.fold cs → IsEnd rest → IsAfter text place bounded → IsRest text place (spelled_from bounded (encode_utf8_all cs) ++ rest) → AreLetters alphabet text inside place cs (place + length (spelled_from bounded (encode_utf8_all cs)))
letters_are alphabet text inside place bounded [] rest kept end before at = omega arith
letters_are alphabet text inside place bounded (c ∷ cs) rest kept end before at =
    let follow : Follow alphabet text cs rest = λ next flag after here. letters_are alphabet text true next flag cs rest kept.2 end after here in
    ⊎_elim (λ small.
    subst (λ (l : List ℕ). AreLetters alphabet text inside place (c ∷ cs) (place + length (spelled_from bounded l))) (sym (ap (λ (l : List ℕ). l ++ encode_utf8_all cs) (encode_ascii c small)))
    (small_step alphabet text inside place bounded c cs rest (stays bounded c (encode_utf8_all cs)) refl small kept.1 end before follow
    (subst (λ (l : List ℕ). IsRest text place (spelled_from bounded (l ++ encode_utf8_all cs) ++ rest)) (encode_ascii c small) at)))
    (λ high. high_step alphabet text inside place bounded c cs rest high kept.0 kept.1 end before follow at)
    (cases_lt c 128)

-- ---- no letter stands after them
-- a `*` ends a word where it makes a prefix of it
abbrev pub StarEnds : Alphabet → Bool → List ℕ → Type 0
StarEnds alphabet inside rest = get_or rest 0 32 ≡ 42 → (inside ≡ true) × (alphabet.stars ≡ true)

pub no_letter : (alphabet : Alphabet) (text : List ℕ) (inside : Bool) (place : ℕ) (rest : List ℕ) → HasNone alphabet.fold → IsEnd rest → StarEnds alphabet inside rest → IsRest text place rest → letter_at alphabet text inside place ≡ None
unfolding letter_at operator_at
no_letter alphabet text inside place rest none end stars at = end_cases P (get_or rest 0 32) end.is blank (operator 41 refl refl refl refl) (operator 34 refl refl refl refl) dollar star (byte_first text place rest at) refl
  where
    P : ℕ → Type 0
    P b = byte text place ≡ b → get_or rest 0 32 ≡ b → letter_at alphabet text inside place ≡ None

    first : (list : List ℕ) → IsRest text place list → get_or list 0 32 ≡ 32 → by_table alphabet.fold place (char_at text place) ≡ None
    first [] here is = ap (by_table alphabet.fold place) (char_is_at text place [] here ∙ ap first_of chars-nil)
    first (b ∷ more) here is =
        ap (by_table alphabet.fold place) (char_is_at text place (b ∷ more) here ∙ ap (λ (c : ℕ). first_of (chars (c ∷ more))) is ∙ ap first_of (chars_small 32 more (omega arith)))
        ∙ ap (λ (o : Option ℕ). elim o as (λ _. Option Letter) [ None ↦ None | Some v ↦ Some (record { folded = v; to = place + 1 }) ]) none.blank

    at_byte : (b k : ℕ) → byte text place ≡ b → eqb b k ≡ false → (byte text place == k) ≡ false
    at_byte b k is other = ap (λ (c : ℕ). eqb c k) is ∙ other

    -- a byte that is no mark of a word
    unmarked : (b : ℕ) → ((b == 94) || (b == 36)) ≡ false → (b == 42) ≡ false → is_word_mark alphabet inside b ≡ false
    unmarked b usual other = or_from ((b == 94) || (b == 36)) (inside && is_star alphabet b) usual (and_right inside (is_star alphabet b) (and_right alphabet.stars (b == 42) other))

    blank : P 32
    blank is same =
        if_false (byte text place == 92) _ _ None (at_byte 32 92 is refl)
        (if_false (is_word_mark alphabet inside (byte text place)) None _ None (ap (is_word_mark alphabet inside) is ∙ unmarked 32 refl refl)
        (if_false (is_some (operator_at text inside place)) None (by_table alphabet.fold place (char_at text place)) None (ap (λ (c : ℕ). is_some (operator_by text inside place c)) is) (first rest at same)))

    operator : (b : ℕ) → eqb b 92 ≡ false → ((b == 94) || (b == 36)) ≡ false → (b == 42) ≡ false → is_some (operator_by text inside place b) ≡ true → P b
    operator b other usual plain some is same =
        if_false (byte text place == 92) _ _ None (at_byte b 92 is other)
        (if_false (is_word_mark alphabet inside (byte text place)) None _ None (ap (is_word_mark alphabet inside) is ∙ unmarked b usual plain)
        (if_true (is_some (operator_at text inside place)) None (by_table alphabet.fold place (char_at text place)) None (ap (λ (c : ℕ). is_some (operator_by text inside place c)) is ∙ some) refl))

    -- a mark of a word
    marked : (b : ℕ) → eqb b 92 ≡ false → is_word_mark alphabet inside b ≡ true → P b
    marked b other mark is same =
        if_false (byte text place == 92) _ _ None (at_byte b 92 is other)
        (if_true (is_word_mark alphabet inside (byte text place)) None _ None (ap (is_word_mark alphabet inside) is ∙ mark) refl)

    dollar : P 36
    dollar = marked 36 refl refl

    star : P 42
    star is same = let both = stars same in marked 42 refl (ap (λ (b : Bool). b && is_star alphabet 42) both.0 ∙ ap (λ (b : Bool). b && (42 == 42)) both.1) is same
