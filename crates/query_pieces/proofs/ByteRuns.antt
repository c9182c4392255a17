-- Bytes of a text, and runs of them.
use Rattle.std.proofs.Common.{◌≡◌, inl, inr, ℕ, zero, suc, ◌+◌, ◌-◌, ◌<◌, ◌≤◌, Bool, true, false, cond, eqb, List, [], ◌∷◌, length, get_or, take, drop, refl, sym, ap, ◌∙◌, subst, arith, lit<, length-drop, get_or-drop, ⊎_elim}
use Rattle.std.specs.Prelude.{not, codes}
use Rattle.std.specs.Char.{is_ascii_digit}
use Rattle.std.specs.List.{prefix_len}
use Rattle.std.proofs.lemmas.Bool.{and_parts, eqb-true, cases_lt, lt-ltb}
use Rattle.std.proofs.lemmas.Bool.Decides.{nat_tests}
use Rattle.std.proofs.lemmas.List.{take_all}
use Rattle.std.proofs.lemmas.List.Sums.{prefix_len-le-length, prefix_len_passes, prefix_len_stops}
use Rattle.query_pieces.specs.declared.bytes.NameKind.{NameKind}
use Rattle.query_pieces.specs.declared.bytes.NameKind.TheVariants as kinds
use Rattle.query_pieces.specs.QueryBytes.{byte, run_end, spells, is_field_byte, is_zone_byte}
use Rattle.query_pieces.specs.Operators.{is_listed, is_inside}
use Rattle.query_pieces.specs.steps.Names.{begins_of, further_of}
use Rattle.query_pieces.specs.steps.Ends.{EndsIn}

pub byte_within : (text : List ℕ) (place : ℕ) → place < length text → byte text place ≡ get_or text place 0
unfolding byte
byte_within text place below = ap (λ b. cond b (get_or text place 0) 32) (lt-ltb place (length text) below)

pub byte_past : (text : List ℕ) (place : ℕ) → length text ≤ place → byte text place ≡ 32
unfolding byte
byte_past text place above = grind (arith, nat_tests)

pub digit_small : (b : ℕ) → is_ascii_digit b ≡ true → b < 128
digit_small b is = grind (arith, nat_tests)

pub field_small : (b : ℕ) → is_field_byte b ≡ true → b < 128
field_small b is = grind (arith, nat_tests)

pub zone_small : (b : ℕ) → is_zone_byte b ≡ true → b < 128
zone_small b is = grind (arith, nat_tests)

pub further_small : (kind : NameKind) (b : ℕ) → further_of kind b ≡ true → b < 128
further_small kinds.Field b is = field_small b is
further_small kinds.Zone b is = zone_small b is

pub listed_small : (kind : NameKind) (b : ℕ) → is_listed (further_of kind) b ≡ true → b < 128
listed_small kind b is = cases (further_of kind b) refl is
  where
    cases : (x : Bool) → further_of kind b ≡ x → is_listed (further_of kind) b ≡ true → b < 128
    cases true e f = further_small kind b e
    cases false e f = grind (arith, nat_tests)

-- what a name begins with it goes on with
pub begins_further : (kind : NameKind) (b : ℕ) → begins_of kind b ≡ true → further_of kind b ≡ true
begins_further kinds.Field b is = grind (arith, nat_tests)
begins_further kinds.Zone b is = grind (arith, nat_tests)

-- the last byte of a run passes the test
pub run_last : (p : ℕ → Bool) (text : List ℕ) (at : ℕ) → ((b : ℕ) → p b ≡ true → b < 128) → at < length text → at < at + prefix_len p (drop at text) → byte text (at + prefix_len p (drop at text) - 1) < 128
run_last p text at small within some =
    let n : ℕ = prefix_len p (drop at text) in
    let below : prefix_len p (drop at text) - 1 < prefix_len p (drop at text) = omega arith in
    let passes : p (get_or (drop at text) (prefix_len p (drop at text) - 1) 0) ≡ true = prefix_len_passes p (drop at text) (prefix_len p (drop at text) - 1) 0 below in
    let place : at + (prefix_len p (drop at text) - 1) ≡ at + prefix_len p (drop at text) - 1 = omega arith in
    let inside : at + prefix_len p (drop at text) - 1 < length text = omega (arith, prefix_len-le-length p (drop at text), length-drop at text) in
    let same : get_or (drop at text) (prefix_len p (drop at text) - 1) 0 ≡ byte text (at + prefix_len p (drop at text) - 1) =
    get_or-drop at text (prefix_len p (drop at text) - 1) 0 ∙ ap (λ k. get_or text k 0) place ∙ sym (byte_within text (at + prefix_len p (drop at text) - 1) inside) in
    small (byte text (at + prefix_len p (drop at text) - 1)) (subst (λ b. p b ≡ true) same passes)

-- the byte after a run doesn't
pub run_stops : (p : ℕ → Bool) (text : List ℕ) (at : ℕ) → at + prefix_len p (drop at text) < length text → p (byte text (at + prefix_len p (drop at text))) ≡ false
run_stops p text at within =
    let below : prefix_len p (drop at text) < length (drop at text) = omega (arith, length-drop at text) in
    subst (λ b. p b ≡ false) (get_or-drop at text (prefix_len p (drop at text)) 0 ∙ sym (byte_within text (at + prefix_len p (drop at text)) within)) (prefix_len_stops p (drop at text) 0 below)

pub quote_stops : (text : List ℕ) (at n : ℕ) → n ≡ prefix_len is_inside (drop at text) → at + n < length text → byte text (at + n) ≡ 34
quote_stops text at n is within =
    let stops : is_inside (byte text (at + n)) ≡ false = subst (λ m. at + m < length text → is_inside (byte text (at + m)) ≡ false) (sym is) (run_stops is_inside text at) within in
    eqb-true (byte text (at + n)) 34 (no (eqb (byte text (at + n)) 34) stops)
  where
    no : (b : Bool) → not b ≡ false → b ≡ true
    no true e = refl
    no false e = sym e

-- a run that begins with a byte that passes isn't empty
pub run_some : (p : ℕ → Bool) (text : List ℕ) (at : ℕ) → at < length text → p (byte text at) ≡ true → 0 < prefix_len p (drop at text)
run_some p text at within passes =
    ⊎_elim (λ none.
    let zero : at + prefix_len p (drop at text) ≡ at = omega arith in
    let inside : at + prefix_len p (drop at text) < length text = omega arith in
    let stops : p (byte text at) ≡ false = subst (λ n. p (byte text n) ≡ false) zero (run_stops p text at inside) in cc) (λ some. omega arith) (cases_lt (prefix_len p (drop at text)) 1)

-- the bytes that are spelled stand in the text
pub spells_at : (text : List ℕ) (at : ℕ) (bytes : List ℕ) (k : ℕ) → k < length bytes → spells text at bytes ≡ true → byte text (at + k) ≡ get_or bytes k 0
spells_at text at [] k below is = absurd (omega arith)
spells_at text at (b ∷ bytes) zero below is =
    let e : at + 0 ≡ at = omega arith in ap (byte text) e ∙ eqb-true (byte text at) b (and_parts (eqb (byte text at) b) (spells text (at + 1) bytes) is).0
spells_at text at (b ∷ bytes) (suc k) below is =
    let e : at + suc k ≡ at + 1 + k = omega arith in
    let smaller : k < length bytes = omega arith in
    ap (byte text) e ∙ spells_at text (at + 1) bytes k smaller (and_parts (eqb (byte text at) b) (spells text (at + 1) bytes) is).1

blank_begins : (kind : NameKind) → begins_of kind 32 ≡ false
blank_begins kinds.Field = refl
blank_begins kinds.Zone = refl

-- a name that begins at a place has bytes
pub begun_run : (kind : NameKind) (text : List ℕ) (at : ℕ) → begins_of kind (byte text at) ≡ true → (at < length text) × (at < run_end (further_of kind) text at)
unfolding run_end
begun_run kind text at begins =
    ⊎_elim (λ within. (within, omega (arith, run_some (further_of kind) text at within (begins_further kind (byte text at) begins))))
    (λ past.
    let none : begins_of kind (byte text at) ≡ false = ap (begins_of kind) (byte_past text at past) ∙ blank_begins kind in
    absurd (clash none begins))
    (cases_lt at (length text))
  where
    clash : {b : Bool} → b ≡ false → b ≡ true → ⊥
    clash e f = cc

-- the end of a text is the end of a piece
pub ends_last : (text : List ℕ) (at : ℕ) → at < length text → EndsIn text at (length text)
ends_last text at within =
    let last : byte text (length text) ≡ 32 = byte_past text (length text) (omega arith) in
    record { after = within; within = omega arith; seam = inl (omega (arith, last)) }

-- `@@relaxed` ends with its `d`
pub ends_relaxed : (text : List ℕ) (at : ℕ) → at ≡ 0 → 9 ≤ length text → spells text 0 (codes "@@relaxed") ≡ true → EndsIn text at 9
ends_relaxed text at start within is =
    let last : byte text 8 ≡ 100 = spells_at text 0 (codes "@@relaxed") 8 (lit< tt) is in
    record { after = omega (arith, start); within = within; seam = inr (omega (arith, last)) }

-- what `text[at..]` is
pub rest_is : (text : List ℕ) (at : ℕ) → take (length text - at) (drop at text) ≡ drop at text
rest_is text at = take_all (length text - at) (drop at text) (omega (arith, length-drop at text))
