-- Numbers as they are written, and those of quoted pieces.
use Rattle.std.proofs.Common.{◌≡◌, ℕ, ◌+◌, ◌-◌, true, false, eqb, List, [], ◌∷◌, ◌++◌, ◌&&◌, zero, suc, length, get_or, codes, replicate, decimal, refl, sym, ap, ◌∙◌, arith, length-append}
use Rattle.std.specs.Prelude.{◌==◌, nat_lt}
use Rattle.std.specs.Char.{is_ascii_digit}
use Rattle.std.specs.List.{list_all}
use Rattle.std.specs.Str.{all_ascii_digits}
use Rattle.std.proofs.lemmas.Bool.{and_parts, and_from, and_left, and_right, lt-ltb}
use Rattle.std.proofs.lemmas.Fmt.{digits_decimal, decimal_nonempty}
use Rattle.std.proofs.lemmas.Str.Parse.{numerals_by_value, tells_all_ascii_digits}
use Rattle.query_pieces.specs.declared.piece.Number.{Number}
use Rattle.query_pieces.specs.declared.piece.Number.TheVariants as numbers
use Rattle.query_pieces.specs.QueryBytes.{byte, spells, digits_end}
use Rattle.query_pieces.specs.Operators.{slice, number_at}
use Rattle.query_tree.specs.declared.key.How.{How}
use Rattle.query_tree.specs.declared.key.How.TheVariants as hows
use Rattle.query_write.specs.Written.{padded, how_text}
use Rattle.query_write.specs.steps.Signs.{IsHow, IsSmall, HasSmall}
use Rattle.query_write.proofs.SpellPlaces.{IsRest, rest_past, rest_next, byte_first, slice_at, spells_is, begins, begins_apart}
use Rattle.query_write.proofs.SpellSigns.{apart}
use Rattle.query_write.proofs.SpellLetters.{if_true, if_false}
use Rattle.query_write.proofs.SpellWordPiece.{parts_word, parts_cases}
use Rattle.query_write.proofs.SpellOperators.{AreDigits, run_ends, spelled_at}

-- ---- digits
all_digits : (bytes : List ℕ) → all_ascii_digits bytes ≡ true → list_all is_ascii_digit bytes ≡ true
all_digits [] are = refl
all_digits (b ∷ bytes) are = let both = and_parts (is_ascii_digit b) (all_ascii_digits bytes) are in and_from (is_ascii_digit b) (list_all is_ascii_digit bytes) both.0 (all_digits bytes both.1)

pub decimal_digits : (n : ℕ) → IsSmall n → AreDigits (decimal n)
decimal_digits n small = record {
  are = all_digits (decimal n) (digits_decimal (numerals_by_value (λ ds. all_ascii_digits ds ≡ true) tells_all_ascii_digits) n small);
  some = decimal_nonempty n small;
}

zeros_before : (count : ℕ) (digits : List ℕ) → list_all is_ascii_digit digits ≡ true → list_all is_ascii_digit (replicate count 48 ++ digits) ≡ true
zeros_before zero digits are = are
zeros_before (suc count) digits are = zeros_before count digits are

pub padded_digits : (places n : ℕ) → IsSmall n → AreDigits (padded places n)
padded_digits places n small = record {
  are = zeros_before (places - length (decimal n)) (decimal n) (decimal_digits n small).are;
  some = omega (arith, length-append (replicate (places - length (decimal n)) 48) (decimal n), (decimal_digits n small).some);
}

parts_no_digit : (b : ℕ) → parts_word b ≡ true → is_ascii_digit b ≡ false
parts_no_digit b is = parts_cases (λ (c : ℕ). is_ascii_digit c ≡ false) b is refl refl

-- ---- the number of a quoted piece
-- what may stand after a quoted piece
abbrev pub IsParted : List ℕ → Type 0
IsParted rest = parts_word (get_or rest 0 32) ≡ true

no_dot : (rest : List ℕ) → IsParted rest → begins (46 ∷ []) rest ≡ false
no_dot rest is = begins_apart 46 [] rest (parts_cases (λ (c : ℕ). eqb c 46 ≡ false) (get_or rest 0 32) is refl refl)

-- digits and what may stand after them are no share
no_share : (digits rest : List ℕ) → list_all is_ascii_digit digits ≡ true → IsParted rest → begins (codes "0.") (digits ++ rest) ≡ false
no_share [] rest are is = begins_apart 48 (46 ∷ []) rest (parts_cases (λ (c : ℕ). eqb c 48 ≡ false) (get_or rest 0 32) is refl refl)
no_share (d ∷ []) rest are is = and_right (eqb d 48) (begins (46 ∷ []) rest) (no_dot rest is)
no_share (d ∷ e ∷ digits) rest are is =
    let next = and_parts (is_ascii_digit d) (list_all is_ascii_digit (e ∷ digits)) are in
    let digit : is_ascii_digit e ≡ true = (and_parts (is_ascii_digit e) (list_all is_ascii_digit digits) next.1).0 in
    and_right (eqb d 48) (begins (46 ∷ []) (e ∷ (digits ++ rest))) (begins_apart 46 [] (e ∷ (digits ++ rest)) (apart is_ascii_digit e 46 digit refl))

phrase_number : (text : List ℕ) (place : ℕ) (rest : List ℕ) → IsParted rest → IsRest text place rest → number_at text place ≡ record { number = numbers.Phrase; to = place }
phrase_number text place rest is at =
    if_false ((byte text place == 126) && nat_lt (place + 1) (digits_end text (place + 1))) _ _ (record { number = numbers.Phrase; to = place }) (and_left (byte text place == 126) _ (other 126 refl refl))
    (if_false ((byte text place == 47) && spells text (place + 1) (codes "0.") && nat_lt (place + 3) (digits_end text (place + 3))) _ _ (record { number = numbers.Phrase; to = place }) (and_left _ _ (and_left (byte text place == 47) _ (other 47 refl refl)))
    (if_false ((byte text place == 47) && nat_lt (place + 1) (digits_end text (place + 1))) _ (record { number = numbers.Phrase; to = place }) (record { number = numbers.Phrase; to = place }) (and_left (byte text place == 47) _ (other 47 refl refl)) refl))
  where
    other : (k : ℕ) → eqb 32 k ≡ false → eqb 41 k ≡ false → (byte text place == k) ≡ false
    other k blank close = ap (λ (c : ℕ). eqb c k) (byte_first text place rest at) ∙ parts_cases (λ (c : ℕ). eqb c k ≡ false) (get_or rest 0 32) is blank close

-- where digits end
digits_to : (text : List ℕ) (place to : ℕ) (digits rest : List ℕ) → AreDigits digits → IsParted rest → to ≡ place + length digits → IsRest text place (digits ++ rest) → digits_end text place ≡ to
digits_to text place to digits rest are is e at = run_ends is_ascii_digit text place digits rest at are.are (parts_no_digit (get_or rest 0 32) is) ∙ sym e

within_number : (text : List ℕ) (place to : ℕ) (digits rest : List ℕ) → AreDigits digits → IsParted rest → to ≡ place + 1 + length digits → IsRest text place (126 ∷ (digits ++ rest)) → number_at text place ≡ record { number = numbers.Within (slice (place + 1) to); to = to }
within_number text place to digits rest are is e at =
    let ends : digits_end text (place + 1) ≡ to = digits_to text (place + 1) to digits rest are is e (rest_next text place 126 (digits ++ rest) at) in
    let some : nat_lt (place + 1) (digits_end text (place + 1)) ≡ true = lt-ltb (place + 1) (digits_end text (place + 1)) (omega (arith, ends, e, are.some)) in
    if_true ((byte text place == 126) && nat_lt (place + 1) (digits_end text (place + 1))) _ _ (record { number = numbers.Within (slice (place + 1) to); to = to })
    (and_from (byte text place == 126) _ (ap (λ (c : ℕ). eqb c 126) (byte_first text place (126 ∷ (digits ++ rest)) at)) some)
    (ap (λ (n : ℕ). record { number = numbers.Within (slice (place + 1) n); to = n }) ends)

least_number : (text : List ℕ) (place to : ℕ) (digits rest : List ℕ) → AreDigits digits → IsParted rest → to ≡ place + 1 + length digits → IsRest text place (47 ∷ (digits ++ rest)) → number_at text place ≡ record { number = numbers.AtLeast (slice (place + 1) to); to = to }
least_number text place to digits rest are is e at =
    let next : IsRest text (place + 1) (digits ++ rest) = rest_next text place 47 (digits ++ rest) at in
    let ends : digits_end text (place + 1) ≡ to = digits_to text (place + 1) to digits rest are is e next in
    let some : nat_lt (place + 1) (digits_end text (place + 1)) ≡ true = lt-ltb (place + 1) (digits_end text (place + 1)) (omega (arith, ends, e, are.some)) in
    let first : byte text place ≡ 47 = byte_first text place (47 ∷ (digits ++ rest)) at in
    let whole : spells text (place + 1) (codes "0.") ≡ false = spells_is text (place + 1) (codes "0.") (digits ++ rest) next ∙ no_share digits rest are.are is in
    if_false ((byte text place == 126) && nat_lt (place + 1) (digits_end text (place + 1))) _ _ (record { number = numbers.AtLeast (slice (place + 1) to); to = to }) (and_left (byte text place == 126) _ (ap (λ (c : ℕ). eqb c 126) first))
    (if_false ((byte text place == 47) && spells text (place + 1) (codes "0.") && nat_lt (place + 3) (digits_end text (place + 3))) _ _ (record { number = numbers.AtLeast (slice (place + 1) to); to = to }) (and_left _ _ (and_right (byte text place == 47) _ whole))
    (if_true ((byte text place == 47) && nat_lt (place + 1) (digits_end text (place + 1))) _ (record { number = numbers.Phrase; to = place }) (record { number = numbers.AtLeast (slice (place + 1) to); to = to })
    (and_from (byte text place == 47) _ (ap (λ (c : ℕ). eqb c 47) first) some)
    (ap (λ (n : ℕ). record { number = numbers.AtLeast (slice (place + 1) n); to = n }) ends)))

share_number : (text : List ℕ) (place to : ℕ) (digits rest : List ℕ) → AreDigits digits → IsParted rest → to ≡ place + 3 + length digits → IsRest text place (codes "/0." ++ (digits ++ rest)) → number_at text place ≡ record { number = numbers.Share (slice (place + 3) to); to = to }
share_number text place to digits rest are is e at =
    let next : IsRest text (place + 1) (codes "0." ++ (digits ++ rest)) = rest_next text place 47 (codes "0." ++ (digits ++ rest)) at in
    let ends : digits_end text (place + 3) ≡ to = digits_to text (place + 3) to digits rest are is e (rest_past text place (codes "/0.") (digits ++ rest) at) in
    let some : nat_lt (place + 3) (digits_end text (place + 3)) ≡ true = lt-ltb (place + 3) (digits_end text (place + 3)) (omega (arith, ends, e, are.some)) in
    let first : byte text place ≡ 47 = byte_first text place (codes "/0." ++ (digits ++ rest)) at in
    if_false ((byte text place == 126) && nat_lt (place + 1) (digits_end text (place + 1))) _ _ (record { number = numbers.Share (slice (place + 3) to); to = to }) (and_left (byte text place == 126) _ (ap (λ (c : ℕ). eqb c 126) first))
    (if_true ((byte text place == 47) && spells text (place + 1) (codes "0.") && nat_lt (place + 3) (digits_end text (place + 3))) _ _ (record { number = numbers.Share (slice (place + 3) to); to = to })
    (and_from _ (nat_lt (place + 3) (digits_end text (place + 3))) (and_from (byte text place == 47) (spells text (place + 1) (codes "0.")) (ap (λ (c : ℕ). eqb c 47) first) (spelled_at text (place + 1) (codes "0.") (digits ++ rest) next)) some)
    (ap (λ (n : ℕ). record { number = numbers.Share (slice (place + 3) n); to = n }) ends))

-- What the number of a quoted piece is read as, and where it ends.
pub record HasNumber (text : List ℕ) (place : ℕ) (how : How) : Type 0 where
  pub number : Number
  pub to : ℕ
  pub is : number_at text place ≡ record { number = number; to = to }
  pub ends : to ≡ place + length (how_text how)
  pub reads : IsHow text number how

pub how_number : (text : List ℕ) (place : ℕ) (how : How) (rest : List ℕ) → HasSmall how → IsParted rest → IsRest text place (how_text how ++ rest) → HasNumber text place how
how_number text place hows.Phrase rest small is at =
    record { number = numbers.Phrase; to = place; is = phrase_number text place rest is at; ends = omega arith; reads = refl }
how_number text place (hows.Within n) rest small is at = record {
  number = numbers.Within (slice (place + 1) (place + 1 + length (decimal n)));
  to = place + 1 + length (decimal n);
  is = within_number text place (place + 1 + length (decimal n)) (decimal n) rest (decimal_digits n small) is refl at;
  ends = omega arith;
  reads = (n, refl, slice_at text (place + 1) (place + 1 + length (decimal n)) (decimal n) rest refl (rest_next text place 126 (decimal n ++ rest) at));
}
how_number text place (hows.AtLeast n) rest small is at = record {
  number = numbers.AtLeast (slice (place + 1) (place + 1 + length (decimal n)));
  to = place + 1 + length (decimal n);
  is = least_number text place (place + 1 + length (decimal n)) (decimal n) rest (decimal_digits n small) is refl at;
  ends = omega arith;
  reads = (n, refl, slice_at text (place + 1) (place + 1 + length (decimal n)) (decimal n) rest refl (rest_next text place 47 (decimal n ++ rest) at));
}
how_number text place (hows.Share digits places) rest small is at = record {
  number = numbers.Share (slice (place + 3) (place + 3 + length (padded places digits)));
  to = place + 3 + length (padded places digits);
  is = share_number text place (place + 3 + length (padded places digits)) (padded places digits) rest (padded_digits places digits small) is refl at;
  ends = omega arith;
  reads = (digits, places, refl, slice_at text (place + 3) (place + 3 + length (padded places digits)) (padded places digits) rest refl (rest_past text place (codes "/0.") (padded places digits ++ rest) at));
}
