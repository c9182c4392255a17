-- The letters of a word as it is written.
use Rattle.std.proofs.Common.{◌≡◌, ℕ, zero, suc, ◌+◌, ◌<◌, ◌≤◌, Bool, true, false, eqb, leb, List, [], ◌∷◌, ◌++◌, ◌&&◌, ◌||◌, not, length, get_or, codes, bytes_eq, chars, encode_utf8, refl, sym, ap, ◌∙◌, subst, arith, ⊎_elim, append_assoc, append-nil}
use Rattle.std.specs.Prelude.{Option, Some, None, if◌then◌else◌, ◌==◌, is_some}
use Rattle.std.specs.Char.{len_utf8}
use Rattle.std.specs.List.{list_all}
use Rattle.std.proofs.Math.Utf8.{scalar, low_scalar}
use Rattle.std.proofs.lemmas.Bool.{both_ways, cases_lt, and_parts, and_from, and_left, and_right, or_from, or_left, not_from_false, le-leb, eq-eqb}
use Rattle.std.proofs.lemmas.Str.{chars-append, chars-encodes, IsUtf8-encode, encode_ascii, inside_one, length-encode, len_utf8_bounds, len_utf8_ascii}
use Rattle.query_pieces.specs.QueryBytes.{byte, byte_before, is_bound}
use Rattle.query_pieces.specs.Operators.{operator_at}
use Rattle.query_pieces.specs.Letters.{Alphabet, char_at, first_of, letter_of, by_table, is_star, is_word_mark, letter_at}
use Rattle.query_write.specs.Spelling.{is_plain, is_lettered, stays, escape, spelled_from}
use Rattle.query_write.proofs.SpellPlaces.{IsRest, rest_next, byte_first, char_is_at}
use Rattle.query_write.proofs.SpellSigns.{IsEnd, IsPlainByte, no_operator, apart}

-- characters that the table folds to themselves
abbrev pub AreKept : (ℕ → Option ℕ) → List ℕ → Type 0
AreKept fold [] = Unit {0}
AreKept fold (c ∷ cs) = (scalar c ≡ true) × (fold c ≡ Some c) × AreKept fold cs

-- The table has none of `"`, `\` and the space.
pub record HasNone (fold : ℕ → Option ℕ) : Type 0 where
  pub quote : fold 34 ≡ None
  pub escape : fold 92 ≡ None
  pub blank : fold 32 ≡ None

pub if_true : {X : Type 0} (b : Bool) (x y z : X) → b ≡ true → x ≡ z → (if b then x else y) ≡ z
if_true true x y z e f = f
if_true false x y z e f = absurd (both_ways false refl e)

pub if_false : {X : Type 0} (b : Bool) (x y z : X) → b ≡ false → y ≡ z → (if b then x else y) ≡ z
if_false false x y z e f = f
if_false true x y z e f = absurd (both_ways true e refl)

-- ---- characters
pub chars_next : (c : ℕ) (more : List ℕ) → scalar c ≡ true → chars (encode_utf8 c ++ more) ≡ c ∷ chars more
chars_next c more is =
    chars-append (encode_utf8 c) more (IsUtf8-encode c is)
    ∙ ap (λ (l : List ℕ). l ++ chars more) (ap chars (sym (append-nil (encode_utf8 c))) ∙ chars-encodes (c ∷ []) (and_from (scalar c) true is refl))

pub chars_small : (c : ℕ) (more : List ℕ) → c < 128 → chars (c ∷ more) ≡ c ∷ chars more
chars_small c more small = ap (λ (l : List ℕ). chars (l ++ more)) (sym (encode_ascii c small)) ∙ chars_next c more (low_scalar c (omega (arith, small)))

high_byte : (c k : ℕ) → 128 ≤ c → k < length (encode_utf8 c) → 128 ≤ get_or (encode_utf8 c) k 0
high_byte c k high below =
    ⊎_elim (λ low. absurd (omega (arith, high, low, inside_one c [] (encode_utf8 c) k (sym (append-nil (encode_utf8 c))) below low))) (λ h. h)
    (cases_lt (get_or (encode_utf8 c) k 0) 128)

abbrev pub are_high : List ℕ → Bool
are_high bytes = list_all (λ b. leb 128 b) bytes

all_high : (bytes : List ℕ) → ((k : ℕ) → k < length bytes → 128 ≤ get_or bytes k 0) → are_high bytes ≡ true
all_high [] each = refl
all_high (b ∷ bytes) each = and_from (leb 128 b) (are_high bytes) (le-leb 128 b (each 0 (omega arith))) (all_high bytes (λ k below. each (suc k) (omega (arith, below))))

pub high_at : (bytes : List ℕ) (k : ℕ) → are_high bytes ≡ true → k < length bytes → leb 128 (get_or bytes k 32) ≡ true
high_at [] k are below = absurd (omega arith)
high_at (b ∷ bytes) zero are below = (and_parts (leb 128 b) (are_high bytes) are).0
high_at (b ∷ bytes) (suc k) are below = high_at bytes k (and_parts (leb 128 b) (are_high bytes) are).1 (omega (arith, below))

pub encode_high : (c : ℕ) → 128 ≤ c → are_high (encode_utf8 c) ≡ true
encode_high c high = all_high (encode_utf8 c) (λ k below. high_byte c k high below)

pub encode_some : (c : ℕ) → 0 < length (encode_utf8 c)
encode_some c = omega (arith, length-encode c, (len_utf8_bounds c).0)

high_apart : (b k : ℕ) → leb 128 b ≡ true → leb 128 k ≡ false → eqb b k ≡ false
high_apart b k high low = apart (λ c. leb 128 c) b k high low

stays_high : (bounded : Bool) (b : ℕ) (bytes : List ℕ) → leb 128 b ≡ true → stays bounded b bytes ≡ true
stays_high bounded b bytes high =
    and_from (is_plain b) (not (bounded && is_lettered (b ∷ bytes))) (or_left _ (b == 95) (or_left (leb 128 b) _ high))
    (not_from_false (bounded && is_lettered (b ∷ bytes)) (and_right bounded (is_lettered (b ∷ bytes))
    (or_from _ (bytes_eq (b ∷ bytes) (codes "PARAGRAPH")) (or_from (bytes_eq (b ∷ bytes) (codes "MAYBE")) (bytes_eq (b ∷ bytes) (codes "SENTENCE")) (and_left (eqb b 77) _ (high_apart b 77 high refl)) (and_left (eqb b 83) _ (high_apart b 83 high refl))) (and_left (eqb b 80) _ (high_apart b 80 high refl)))))

pub bound_low : (b : ℕ) → leb 128 b ≡ true → is_bound b ≡ false
bound_low b high = or_from _ (b == 34) (or_from _ (b == 41) (or_from _ (b == 40) (or_from _ (b == 10) (or_from _ (b == 13) (or_from (b == 32) (b == 9) (at 32 refl) (at 9 refl)) (at 13 refl)) (at 10 refl)) (at 40 refl)) (at 41 refl)) (at 34 refl)
  where
    at : (k : ℕ) → leb 128 k ≡ false → eqb b k ≡ false
    at k low = high_apart b k high low

-- the bytes of a character that isn't ASCII stay as they are
pub spelled_high : (bounded : Bool) (b : ℕ) (high more : List ℕ) → leb 128 b ≡ true → are_high high ≡ true → spelled_from bounded (b ∷ (high ++ more)) ≡ b ∷ (high ++ spelled_from false more)
spelled_high bounded b [] more first are =
    ap (λ (s : Bool). escape s ++ b ∷ spelled_from (is_bound b) more) (stays_high bounded b more first) ∙ ap (λ (s : Bool). b ∷ spelled_from s more) (bound_low b first)
spelled_high bounded b (h ∷ high) more first are =
    let both = and_parts (leb 128 h) (are_high high) are in
    ap (λ (s : Bool). escape s ++ b ∷ spelled_from (is_bound b) (h ∷ (high ++ more))) (stays_high bounded b (h ∷ (high ++ more)) first)
    ∙ ap (λ (l : List ℕ). b ∷ l) (spelled_high (is_bound b) h high more both.0 both.1)

pub spelled_encode : (bounded : Bool) (c : ℕ) (more : List ℕ) → 128 ≤ c → spelled_from bounded (encode_utf8 c ++ more) ≡ encode_utf8 c ++ spelled_from false more
spelled_encode bounded c more high = by (encode_utf8 c) (encode_some c) (encode_high c high)
  where
    by : (bytes : List ℕ) → 0 < length bytes → are_high bytes ≡ true → spelled_from bounded (bytes ++ more) ≡ bytes ++ spelled_from false more
    by [] some are = absurd (omega (arith, some))
    by (b ∷ bytes) some are = let both = and_parts (leb 128 b) (are_high bytes) are in spelled_high bounded b bytes more both.0 both.1

pub spelled_small : (bounded : Bool) (c : ℕ) (more : List ℕ) → c < 128 → spelled_from bounded (encode_utf8 c ++ more) ≡ escape (stays bounded c more) ++ c ∷ spelled_from (is_bound c) more
spelled_small bounded c more small = ap (λ (l : List ℕ). spelled_from bounded (l ++ more)) (encode_ascii c small)

-- ---- one letter
letter_is : (fold : ℕ → Option ℕ) (place to c : ℕ) (o : Option ℕ) → o ≡ Some c → fold c ≡ Some c → place + len_utf8 c ≡ to → by_table fold place o ≡ Some (record { folded = c; to = to })
letter_is fold place to c o is same e = ap (by_table fold place) is ∙ ap (letter_of (place + len_utf8 c)) same ∙ ap (λ (n : ℕ). letter_of n (Some c)) e

letter_escaped : (alphabet : Alphabet) (text : List ℕ) (inside : Bool) (place to c : ℕ) → byte text place ≡ 92 → char_at text (place + 1) ≡ Some c → alphabet.fold c ≡ Some c → place + 1 + len_utf8 c ≡ to → letter_at alphabet text inside place ≡ Some (record { folded = c; to = to })
unfolding letter_at
letter_escaped alphabet text inside place to c is char same e =
    if_true (byte text place == 92) (by_table alphabet.fold (place + 1) (char_at text (place + 1))) _ (Some (record { folded = c; to = to })) (eq-eqb (byte text place) 92 is) (letter_is alphabet.fold (place + 1) to c (char_at text (place + 1)) char same e)

pub letter_plain : (alphabet : Alphabet) (text : List ℕ) (inside : Bool) (place b : ℕ) → byte text place ≡ b → is_plain b ≡ true → operator_at text inside place ≡ None → letter_at alphabet text inside place ≡ by_table alphabet.fold place (char_at text place)
unfolding letter_at
letter_plain alphabet text inside place b is plain none =
    if_false (byte text place == 92) (by_table alphabet.fold (place + 1) (char_at text (place + 1))) _ (by_table alphabet.fold place (char_at text place)) (at 92 refl)
    (if_false (is_word_mark alphabet inside (byte text place)) None _ (by_table alphabet.fold place (char_at text place))
    (or_from ((byte text place == 94) || (byte text place == 36)) (inside && is_star alphabet (byte text place)) (or_from (byte text place == 94) (byte text place == 36) (at 94 refl) (at 36 refl))
    (and_right inside (is_star alphabet (byte text place)) (and_right alphabet.stars (byte text place == 42) (at 42 refl))))
    (if_false (is_some (operator_at text inside place)) None (by_table alphabet.fold place (char_at text place)) (by_table alphabet.fold place (char_at text place)) (ap is_some none) refl))
  where
    at : (k : ℕ) → is_plain k ≡ false → (byte text place == k) ≡ false
    at k other = ap (λ (c : ℕ). eqb c k) is ∙ apart is_plain b k plain other

pub letter_small : (alphabet : Alphabet) (text : List ℕ) (inside : Bool) (place : ℕ) (bounded : Bool) (c : ℕ) (bytes rest : List ℕ) (s : Bool) → stays bounded c bytes ≡ s → c < 128 → alphabet.fold c ≡ Some c → IsEnd rest → (is_bound (byte_before text place) ≡ true → bounded ≡ true) → IsRest text place (spelled_from bounded (c ∷ bytes) ++ rest) → letter_at alphabet text inside place ≡ Some (record { folded = c; to = place + length (escape s) + 1 })
letter_small alphabet text inside place bounded c bytes rest true stay small same end before at =
    let here : IsRest text place (c ∷ (spelled_from (is_bound c) bytes ++ rest)) = subst (λ (s : Bool). IsRest text place (escape s ++ c ∷ spelled_from (is_bound c) bytes ++ rest)) stay at in
    let p : IsPlainByte text place bounded c bytes rest = record { at = at; stays = stay; before = before; end = end } in
    let char : char_at text place ≡ Some c = char_is_at text place (c ∷ (spelled_from (is_bound c) bytes ++ rest)) here ∙ ap first_of (chars_small c (spelled_from (is_bound c) bytes ++ rest) small) in
    letter_plain alphabet text inside place c (byte_first text place (c ∷ (spelled_from (is_bound c) bytes ++ rest)) here) (and_parts (is_plain c) (not (bounded && is_lettered (c ∷ bytes))) stay).0 (no_operator text inside place bounded c bytes rest p)
    ∙ letter_is alphabet.fold place (place + 0 + 1) c (char_at text place) char same (omega (arith, len_utf8_ascii c small))
letter_small alphabet text inside place bounded c bytes rest false stay small same end before at =
    let here : IsRest text place (92 ∷ c ∷ (spelled_from (is_bound c) bytes ++ rest)) = subst (λ (s : Bool). IsRest text place (escape s ++ c ∷ spelled_from (is_bound c) bytes ++ rest)) stay at in
    let next : IsRest text (place + 1) (c ∷ (spelled_from (is_bound c) bytes ++ rest)) = rest_next text place 92 (c ∷ (spelled_from (is_bound c) bytes ++ rest)) here in
    let char : char_at text (place + 1) ≡ Some c = char_is_at text (place + 1) (c ∷ (spelled_from (is_bound c) bytes ++ rest)) next ∙ ap first_of (chars_small c (spelled_from (is_bound c) bytes ++ rest) small) in
    letter_escaped alphabet text inside place (place + 1 + 1) c (byte_first text place (92 ∷ c ∷ (spelled_from (is_bound c) bytes ++ rest)) here) char same (omega (arith, len_utf8_ascii c small))

pub letter_high : (alphabet : Alphabet) (text : List ℕ) (inside : Bool) (place : ℕ) (bounded : Bool) (c : ℕ) (bytes rest : List ℕ) → 128 ≤ c → scalar c ≡ true → alphabet.fold c ≡ Some c → IsEnd rest → (is_bound (byte_before text place) ≡ true → bounded ≡ true) → IsRest text place (spelled_from bounded (encode_utf8 c ++ bytes) ++ rest) → letter_at alphabet text inside place ≡ Some (record { folded = c; to = place + length (encode_utf8 c) })
letter_high alphabet text inside place bounded c bytes rest high is same end before at =
    let here : IsRest text place (encode_utf8 c ++ (spelled_from false bytes ++ rest)) =
    subst (λ (l : List ℕ). IsRest text place l) (append_assoc (encode_utf8 c) (spelled_from false bytes) rest) (subst (λ (l : List ℕ). IsRest text place (l ++ rest)) (spelled_encode bounded c bytes high) at) in
    let char : char_at text place ≡ Some c = char_is_at text place (encode_utf8 c ++ (spelled_from false bytes ++ rest)) here ∙ ap first_of (chars_next c (spelled_from false bytes ++ rest) is) in
    by (encode_utf8 c) (encode_some c) (encode_high c high) at here
    ∙ letter_is alphabet.fold place (place + length (encode_utf8 c)) c (char_at text place) char same (omega (arith, length-encode c))
  where
    by : (front : List ℕ) → 0 < length front → are_high front ≡ true → IsRest text place (spelled_from bounded (front ++ bytes) ++ rest) → IsRest text place (front ++ (spelled_from false bytes ++ rest)) → letter_at alphabet text inside place ≡ by_table alphabet.fold place (char_at text place)
    by [] some are at here = absurd (omega (arith, some))
    by (b ∷ front) some are at here =
        let both = and_parts (leb 128 b) (are_high front) are in
        let plain : is_plain b ≡ true = or_left _ (b == 95) (or_left (leb 128 b) _ both.0) in
        let p : IsPlainByte text place bounded b (front ++ bytes) rest = record { at = at; stays = stays_high bounded b (front ++ bytes) both.0; before = before; end = end } in
        letter_plain alphabet text inside place b (byte_first text place (b ∷ (front ++ (spelled_from false bytes ++ rest))) here) plain (no_operator text inside place bounded b (front ++ bytes) rest p)
