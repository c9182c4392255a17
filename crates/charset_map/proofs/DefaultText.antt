-- The default text is a table.
use Rattle.std.proofs.Common.{◌≡◌, ℕ, zero, suc, ◌<◌, ◌≤◌, Bool, true, false, cond, eqb, ltb, leb, List, [], ◌∷◌, ◌++◌, length, get_or, Some, None, refl, arith, inl, inr}
use Rattle.std.specs.Prelude.{◌&&◌, ◌||◌}
use Rattle.std.specs.Char.{digit_value}
use Rattle.std.specs.List.{All, AllPairs, list_all}
use Rattle.std.specs.Str.Parse.{digits_value, AllDigits}
use lib.Utf8.{scalar}
use Rattle.std.proofs.lemmas.Bool.{and_parts, or_cases, eqb-true, ltb-true, leb-true}
use Rattle.charset_map.specs.declared.entries.CharRange.{CharRange}
use Rattle.charset_map.specs.declared.entries.Entry.{Entry}
use Rattle.charset_map.specs.Characters.{IsCharacter, is_plain}
use Rattle.charset_map.specs.Entries.{IsRange, single, range, mapped, mapped_range}
use Rattle.charset_map.specs.Table.{steps, IsEven, value_in, value_of, NeverDiffer}
use Rattle.charset_map.specs.TableText.{entry_texts, AreEntries, IsTableOf, default_text}

-- ---- the entries
abbrev own : ℕ → ℕ → Entry
own first last = record { from = record { first = first; last = last }; to = record { first = first; last = last } }

abbrev moved : ℕ → ℕ → ℕ → ℕ → Entry
moved first last to_first to_last = record { from = record { first = first; last = last }; to = record { first = to_first; last = to_last } }

abbrev default_entries : List Entry
default_entries = own 48 57 ∷ moved 65 90 97 122 ∷ own 95 95 ∷ own 97 122 ∷ moved 0x410 0x42F 0x430 0x44F ∷ own 0x430 0x44F ∷ moved 0x401 0x401 0x451 0x451 ∷ own 0x451 0x451 ∷ []

-- ---- their texts
plain_char : (b : ℕ) → is_plain b ≡ true → IsCharacter (b ∷ []) b
plain_char b plain = inl (refl, plain)

all_digits : (digits : List ℕ) → list_all (λ d. ltb (digit_value d) 16) digits ≡ true → AllDigits 16 digits
all_digits [] all = tt
all_digits (d ∷ digits) all = (ltb-true _ _ (and_parts _ _ all).0, all_digits digits (and_parts _ _ all).1)

code_char : (digits : List ℕ) (c : ℕ) → (leb 1 (length digits) && leb (length digits) 6) ≡ true → list_all (λ d. ltb (digit_value d) 16) digits ≡ true → digits_value 16 digits ≡ c → scalar c ≡ true → IsCharacter (85 ∷ 43 ∷ digits) c
code_char digits c count all value known = inr (record {
  digits = digits;
  is = refl;
  some = leb-true _ _ (and_parts _ _ count).0;
  few = leb-true _ _ (and_parts _ _ count).1;
  hexadecimal = all_digits digits all;
  value = value;
  scalar = known;
})

range_of : (low high : List ℕ) (r : CharRange) → IsCharacter low r.first → IsCharacter high r.last → IsRange (low ++ 46 ∷ 46 ∷ high) r
range_of low high r first last = record { low = low; high = high; is = refl; first = first; last = last }

code_410 : IsCharacter (85 ∷ 43 ∷ 52 ∷ 49 ∷ 48 ∷ []) 0x410
code_410 = code_char (52 ∷ 49 ∷ 48 ∷ []) 0x410 refl refl refl refl

code_42f : IsCharacter (85 ∷ 43 ∷ 52 ∷ 50 ∷ 70 ∷ []) 0x42F
code_42f = code_char (52 ∷ 50 ∷ 70 ∷ []) 0x42F refl refl refl refl

code_430 : IsCharacter (85 ∷ 43 ∷ 52 ∷ 51 ∷ 48 ∷ []) 0x430
code_430 = code_char (52 ∷ 51 ∷ 48 ∷ []) 0x430 refl refl refl refl

code_44f : IsCharacter (85 ∷ 43 ∷ 52 ∷ 52 ∷ 70 ∷ []) 0x44F
code_44f = code_char (52 ∷ 52 ∷ 70 ∷ []) 0x44F refl refl refl refl

code_401 : IsCharacter (85 ∷ 43 ∷ 52 ∷ 48 ∷ 49 ∷ []) 0x401
code_401 = code_char (52 ∷ 48 ∷ 49 ∷ []) 0x401 refl refl refl refl

code_451 : IsCharacter (85 ∷ 43 ∷ 52 ∷ 53 ∷ 49 ∷ []) 0x451
code_451 = code_char (52 ∷ 53 ∷ 49 ∷ []) 0x451 refl refl refl refl

spelled : AreEntries (entry_texts default_text) default_entries
spelled = (
  range (range_of (48 ∷ []) (57 ∷ []) _ (plain_char 48 refl) (plain_char 57 refl)) refl,
  (
    mapped_range (record { left = 65 ∷ 46 ∷ 46 ∷ 90 ∷ []; right = 97 ∷ 46 ∷ 46 ∷ 122 ∷ []; is = refl; from = range_of (65 ∷ []) (90 ∷ []) _ (plain_char 65 refl) (plain_char 90 refl); to = range_of (97 ∷ []) (122 ∷ []) _ (plain_char 97 refl) (plain_char 122 refl) }),
    (
      single (plain_char 95 refl, refl) refl,
      (
        range (range_of (97 ∷ []) (122 ∷ []) _ (plain_char 97 refl) (plain_char 122 refl)) refl,
        (
          mapped_range (record { left = 85 ∷ 43 ∷ 52 ∷ 49 ∷ 48 ∷ 46 ∷ 46 ∷ 85 ∷ 43 ∷ 52 ∷ 50 ∷ 70 ∷ []; right = 85 ∷ 43 ∷ 52 ∷ 51 ∷ 48 ∷ 46 ∷ 46 ∷ 85 ∷ 43 ∷ 52 ∷ 52 ∷ 70 ∷ []; is = refl; from = range_of (85 ∷ 43 ∷ 52 ∷ 49 ∷ 48 ∷ []) (85 ∷ 43 ∷ 52 ∷ 50 ∷ 70 ∷ []) _ code_410 code_42f; to = range_of (85 ∷ 43 ∷ 52 ∷ 51 ∷ 48 ∷ []) (85 ∷ 43 ∷ 52 ∷ 52 ∷ 70 ∷ []) _ code_430 code_44f }),
          (
            range (range_of (85 ∷ 43 ∷ 52 ∷ 51 ∷ 48 ∷ []) (85 ∷ 43 ∷ 52 ∷ 52 ∷ 70 ∷ []) _ code_430 code_44f) refl,
            (
              mapped (record { left = 85 ∷ 43 ∷ 52 ∷ 48 ∷ 49 ∷ []; right = 85 ∷ 43 ∷ 52 ∷ 53 ∷ 49 ∷ []; is = refl; from = (code_401, refl); to = (code_451, refl) }),
              (
                single (code_451, refl) refl,
                tt,
              ),
            ),
          ),
        ),
      ),
    ),
  ),
)

-- ---- a table
abbrev is_even : Entry → Bool
is_even entry = leb entry.from.first entry.from.last && leb entry.to.first entry.to.last && eqb (steps entry.to) (steps entry.from)

even_from_test : (entry : Entry) → is_even entry ≡ true → IsEven entry
even_from_test entry test =
    let both = and_parts _ _ test in
    let ranges = and_parts _ _ both.0 in
    record { from = leb-true _ _ ranges.0; to = leb-true _ _ ranges.1; length = eqb-true _ _ both.1 }

all_even : (entries : List Entry) → list_all is_even entries ≡ true → All IsEven entries
all_even [] test k d below = absurd (omega arith)
all_even (entry ∷ entries) test zero d below = even_from_test entry (and_parts _ _ test).0
all_even (entry ∷ entries) test (suc k) d below = all_even entries (and_parts _ _ test).1 k d (omega arith)

-- two entries without a common character
abbrev are_apart : Entry → Entry → Bool
are_apart entry later = ltb entry.from.last later.from.first || ltb later.from.last entry.from.first

abbrev all_apart : List Entry → Bool
all_apart [] = true
all_apart (entry ∷ entries) = list_all (are_apart entry) entries && all_apart entries

chosen : (t : Bool) (x v : ℕ) → cond t (Some x) None ≡ Some v → t ≡ true
chosen true x v is = refl
chosen false x v is = cc

in_entry : (entry : Entry) (c v : ℕ) → value_in entry c ≡ Some v → (entry.from.first ≤ c) × (c ≤ entry.from.last)
in_entry entry c v is =
    let both = and_parts _ _ (chosen (leb entry.from.first c && leb c entry.from.last) _ v is) in
    (leb-true _ _ both.0, leb-true _ _ both.1)

agree_apart : (entry later : Entry) → are_apart entry later ≡ true → NeverDiffer (value_in entry) (value_in later)
agree_apart entry later test c v w known gives gets =
    let here = in_entry entry c v gives in
    let there = in_entry later c w gets in
    absurd (elim (or_cases (ltb entry.from.last later.from.first) (ltb later.from.last entry.from.first) test) [
      | inl before ↦ omega (arith, ltb-true _ _ before, here.1, there.0)
      | inr beyond ↦ omega (arith, ltb-true _ _ beyond, here.0, there.1)
    ])

apart_at : (entry : Entry) (entries : List Entry) (k : ℕ) (d : Entry) → list_all (are_apart entry) entries ≡ true → k < length entries → are_apart entry (get_or entries k d) ≡ true
apart_at entry [] k d test below = absurd (omega arith)
apart_at entry (later ∷ entries) zero d test below = (and_parts _ _ test).0
apart_at entry (later ∷ entries) (suc k) d test below = apart_at entry entries k d (and_parts _ _ test).1 (omega arith)

all_agree : (entries : List Entry) → all_apart entries ≡ true → AllPairs (λ entry later. NeverDiffer (value_in entry) (value_in later)) entries
all_agree [] test i j d order below = absurd (omega arith)
all_agree (entry ∷ entries) test i zero d order below = absurd (omega arith)
all_agree (entry ∷ entries) test zero (suc j) d order below = agree_apart entry (get_or entries j d) (apart_at entry entries j d (and_parts _ _ test).0 (omega arith))
all_agree (entry ∷ entries) test (suc i) (suc j) d order below = all_agree entries (and_parts _ _ test).1 i j d (omega arith) (omega arith)

pub default_is_table : IsTableOf default_text (value_of default_entries)
default_is_table = record {
  entries = default_entries;
  spelled = spelled;
  sound = record { even = all_even default_entries refl; agree = all_agree default_entries refl };
  values = λ c known. refl;
}
