-- The rows ahead of a cursor over those that have a word, and the flags that are set by them.
use Rattle.std.proofs.Common.{◌≡◌, ◌≢◌, ℕ, ◌+◌, ◌<◌, ◌≤◌, zero, suc, Bool, true, false, cond, ◌&&◌, ◌||◌, List, [], ◌∷◌, Some, map, length, drop, get_or, set, slice_get, nat_lt, inl, inr, refl, sym, ap, subst, ◌∙◌, zero-add, arith}
use Rattle.std.specs.List.{enumerate_from, filter}
use Rattle.std.proofs.lemmas.Bool.{cases_eq, eq-eqb, ne_eqb, le-ltb, lt-ltb}
use Rattle.std.proofs.lemmas.Bool.Decides.{nat_tests}
use Rattle.std.proofs.lemmas.Grind.{get_or-set_at}
use Rattle.std.proofs.lemmas.List.{get_or-set_other, length-set}
use Rattle.doc_types.specs.declared.documents.DocRow.{DocRow}
use Rattle.doc_types.specs.Chunks.{has_word, rows_from, rows_with}
use Rattle.query_tree.specs.declared.key.Key.{Key}
use Rattle.row_plans.proofs.Seeking.{Rises, is_in, is_in_below, numbers_rise}
use Rattle.word_rows.specs.Keywords.{allows}
use Rattle.word_rows.proofs.Opening.{no_hits}
use Rattle.op_eval.specs.Finding.{is_some}
use Rattle.row_flags.specs.steps.Flags.{AreFlags, has_place}

-- ---- the numbers of the elements that pass

module _ {X : Type 0} (p : X → Bool) where
  abbrev numbers : ℕ → List X → List ℕ
  numbers n xs = map (λ e. e.0) (filter (λ e. p e.1) (enumerate_from n xs))

  abbrev with_first : Bool → ℕ → X → List X → List ℕ
  with_first b n x xs = map (λ e. e.0) (cond b ((n, x) ∷ filter (λ e. p e.1) (enumerate_from (n + 1) xs)) (filter (λ e. p e.1) (enumerate_from (n + 1) xs)))

  first_is : (b : Bool) (n row : ℕ) (x : X) (xs : List X) → row ≡ n → is_in row (with_first b n x xs) ≡ b
  first_is true n row x xs same = ap (λ t. t || is_in row (numbers (n + 1) xs)) (eq-eqb n row (sym same))
  first_is false n row x xs same = is_in_below (n + 1) row (numbers (n + 1) xs) (omega (arith, same)) (numbers_rise p (n + 1) xs)

  later_is : (b : Bool) (n row : ℕ) (x : X) (xs : List X) → n < row → is_in row (with_first b n x xs) ≡ is_in row (numbers (n + 1) xs)
  later_is true n row x xs low = ap (λ t. t || is_in row (numbers (n + 1) xs)) (ne_eqb n row (λ same. absurd (omega (arith, low, same))))
  later_is false n row x xs low = refl

  is_number : (n row k : ℕ) (xs : List X) (x : X) → row ≡ n + k → slice_get xs k ≡ Some x → is_in row (numbers n xs) ≡ p x
  is_number n row k [] x is at = cc
  is_number n row zero (y ∷ xs) x is at =
      let same : y ≡ x = cc in
      first_is (p y) n row y xs (omega (arith, is)) ∙ ap p same
  is_number n row (suc k) (y ∷ xs) x is at = later_is (p y) n row y xs (omega (arith, is)) ∙ is_number (n + 1) row k xs x (omega (arith, is)) at

-- ---- the rows ahead

-- The rows ahead ascend from one on, and are those from there on that have the word.
pub record AreAhead (rows : List DocRow) (word : List ℕ) (at : ℕ) (ahead : List ℕ) : Type 0 where
  pub rise : Rises at ahead
  pub all : (number : ℕ) (row : DocRow) → at ≤ number → slice_get rows number ≡ Some row → is_in number ahead ≡ has_word word row

pub all_ahead : (rows : List DocRow) (word : List ℕ) → AreAhead rows word 0 (rows_with word rows)
all_ahead rows word = record {
  rise = numbers_rise (has_word word) 0 rows;
  all = λ number row on at. is_number (has_word word) 0 number number rows row (sym (zero-add number)) at;
}

rises_kept : (b : Bool) (from x : ℕ) (xs later : List ℕ) → nat_lt x from ≡ b → Rises (x + 1) xs → Rises from later → Rises from (cond b later (x ∷ xs))
rises_kept true from x xs later is rise so = so
rises_kept false from x xs later is rise so = (grind (arith, nat_tests), rise)

pub rises_sought : (from low : ℕ) (xs : List ℕ) → Rises low xs → Rises from (rows_from from xs)
rises_sought from low [] rise = tt
rises_sought from low (x ∷ xs) rise = rises_kept (nat_lt x from) from x xs (rows_from from xs) refl rise.1 (rises_sought from (x + 1) xs rise.1)

in_kept : (b : Bool) (from number x : ℕ) (xs later : List ℕ) → nat_lt x from ≡ b → from ≤ number → is_in number later ≡ is_in number xs → is_in number (cond b later (x ∷ xs)) ≡ is_in number (x ∷ xs)
in_kept true from number x xs later is on so =
    let low : x < from = grind (arith, is) in
    so ∙ sym (ap (λ t. t || is_in number xs) (ne_eqb x number (λ same. absurd (omega (arith, same, low, on)))))
in_kept false from number x xs later is on so = refl

pub in_sought : (from number : ℕ) (xs : List ℕ) → from ≤ number → is_in number (rows_from from xs) ≡ is_in number xs
in_sought from number [] on = refl
in_sought from number (x ∷ xs) on = in_kept (nat_lt x from) from number x xs (rows_from from xs) refl on (in_sought from number xs on)

-- a cursor went over the rows before one
pub sought_ahead : (rows : List DocRow) (word : List ℕ) (from : ℕ) (ahead : List ℕ) → ahead ≡ rows_from from (rows_with word rows) → AreAhead rows word from ahead
sought_ahead rows word from ahead is =
    subst (AreAhead rows word from) (sym is) (record {
      rise = rises_sought from 0 (rows_with word rows) (all_ahead rows word).rise;
      all = λ number row on at. in_sought from number (rows_with word rows) on ∙ (all_ahead rows word).all number row (omega arith) at;
    })

-- and over the next one
next_ahead : (rows : List DocRow) (word : List ℕ) (at row : ℕ) (ahead : List ℕ) → AreAhead rows word at (row ∷ ahead) → AreAhead rows word (row + 1) ahead
next_ahead rows word at row ahead are = record {
  rise = are.rise.1;
  all = λ number its on there.
      sym (ap (λ t. t || is_in number ahead) (ne_eqb row number (λ same. absurd (omega (arith, same, on)))))
      ∙ are.all number its (omega (arith, on, are.rise.0)) there;
}

-- ---- flags

pub without_word : (key : Key) (row : DocRow) → has_word key.word row ≡ false → has_place key row ≡ false
without_word key row none = ap (λ hits. is_some (filter (allows row key) hits)) (no_hits key.word row none)

-- Of the rows from one on those that were gone over have their flags, and the others have none.
pub record AreFlagging (rows : List DocRow) (key : Key) (from : ℕ) (ahead : List ℕ) (flags : List Bool) : Type 0 where
  pub at : ℕ
  pub on : from ≤ at
  pub left : AreAhead rows key.word at ahead
  pub told : (i : ℕ) (row : DocRow) (d : Bool) → i < length flags → slice_get rows (from + i) ≡ Some row → get_or flags i d ≡ (nat_lt (from + i) at && has_place key row)

pub flagging_first : (rows : List DocRow) (key : Key) (from : ℕ) (ahead : List ℕ) (flags : List Bool) → ahead ≡ rows_from from (rows_with key.word rows) → ((i : ℕ) (d : Bool) → i < length flags → get_or flags i d ≡ false) → AreFlagging rows key from ahead flags
flagging_first rows key from ahead flags is none = record {
  at = from;
  on = omega arith;
  left = sought_ahead rows key.word from ahead is;
  told = λ i row d within there. none i d within ∙ sym (ap (λ b. b && has_place key row) (le-ltb (from + i) from (omega arith)));
}

both_false : (b c : Bool) → c ≡ false → (b && c) ≡ false
both_false true c is = is
both_false false c is = refl

module _ (rows : List DocRow) (key : Key) (from : ℕ) (flags : List Bool) where
  -- no row that is left is one of these
  pub flagging_last : (ahead : List ℕ) → AreFlagging rows key from ahead flags → ((number : ℕ) → number < from + length flags → is_in number ahead ≡ false) → AreFlags (has_place key) rows from flags
  flagging_last ahead flagging none i row d within there = by (nat_lt (from + i) flagging.at) refl
    where
      by : (b : Bool) → nat_lt (from + i) flagging.at ≡ b → get_or flags i d ≡ has_place key row
      by true is = flagging.told i row d within there ∙ ap (λ b. b && has_place key row) is
      by false is =
          let past : flagging.at ≤ from + i = grind (arith, is) in
          let absent : has_word key.word row ≡ false = sym (flagging.left.all (from + i) row past there) ∙ none (from + i) (omega (arith, within)) in
          flagging.told i row d within there ∙ ap (λ b. b && has_place key row) is ∙ sym (without_word key row absent)

  pub flagging_ended : (ahead : List ℕ) → ahead ≡ [] → AreFlagging rows key from ahead flags → AreFlags (has_place key) rows from flags
  flagging_ended ahead is flagging = flagging_last ahead flagging (λ number low. ap (is_in number) is)

  pub flagging_past : (row : ℕ) (ahead : List ℕ) → slice_get ahead 0 ≡ Some row → from + length flags ≤ row → AreFlagging rows key from ahead flags → AreFlags (has_place key) rows from flags
  flagging_past row [] next far flagging = absurd (cc)
  flagging_past row (x ∷ ahead) next far flagging =
      let same : x ≡ row = cc in
      flagging_last (x ∷ ahead) flagging (λ number low. is_in_below x number (x ∷ ahead) (omega (arith, low, far, same)) (omega arith, flagging.left.rise.1))

  -- the next row is one from there on
  pub flagging_on : (row : ℕ) (ahead : List ℕ) → slice_get ahead 0 ≡ Some row → AreFlagging rows key from ahead flags → from ≤ row
  flagging_on row [] next flagging = absurd (cc)
  flagging_on row (x ∷ ahead) next flagging = let same : x ≡ row = cc in omega (arith, same, flagging.on, flagging.left.rise.0)

  -- it has the word
  pub flagging_has : (row : ℕ) (ahead : List ℕ) (its : DocRow) → slice_get ahead 0 ≡ Some row → AreFlagging rows key from ahead flags → slice_get rows row ≡ Some its → has_word key.word its ≡ true
  flagging_has row [] its next flagging there = absurd (cc)
  flagging_has row (x ∷ ahead) its next flagging there =
      let same : x ≡ row = cc in
      sym (flagging.left.all row its (omega (arith, same, flagging.left.rise.0)) there) ∙ ap (λ t. t || is_in row ahead) (eq-eqb x row same)

  module _ (row : ℕ) (ahead : List ℕ) (flagging : AreFlagging rows key from (row ∷ ahead) flags) (k : ℕ) (is : from + k ≡ row) (long : k < length flags) (told : Bool) (of : (its : DocRow) → slice_get rows row ≡ Some its → told ≡ has_place key its) where
    here : (i : ℕ) (its : DocRow) (d : Bool) → i ≡ k → slice_get rows (from + i) ≡ Some its → get_or (set flags k told) i d ≡ (nat_lt (from + i) (row + 1) && has_place key its)
    here i its d same there =
        get_or-set_at flags k i told d same long
        ∙ of its (subst (λ n. slice_get rows n ≡ Some its) (omega (arith, same, is)) there)
        ∙ sym (ap (λ b. b && has_place key its) (lt-ltb (from + i) (row + 1) (omega (arith, same, is))))

    before : (i : ℕ) (its : DocRow) → from + i < row → slice_get rows (from + i) ≡ Some its → (b : Bool) → nat_lt (from + i) flagging.at ≡ b → (b && has_place key its) ≡ has_place key its
    before i its low there true lt = refl
    before i its low there false lt =
        let past : flagging.at ≤ from + i = grind (arith, lt) in
        let absent : has_word key.word its ≡ false =
        sym (flagging.left.all (from + i) its past there) ∙ is_in_below row (from + i) (row ∷ ahead) low (omega arith, flagging.left.rise.1) in
        sym (without_word key its absent)

    other : (i : ℕ) (its : DocRow) (d : Bool) → i ≢ k → i < length flags → slice_get rows (from + i) ≡ Some its → get_or (set flags k told) i d ≡ (nat_lt (from + i) (row + 1) && has_place key its)
    other i its d differ within there = by (nat_lt (from + i) row) refl
      where
        old : get_or (set flags k told) i d ≡ (nat_lt (from + i) flagging.at && has_place key its)
        old = get_or-set_other flags k i told d differ ∙ flagging.told i its d within there

        by : (b : Bool) → nat_lt (from + i) row ≡ b → get_or (set flags k told) i d ≡ (nat_lt (from + i) (row + 1) && has_place key its)
        by true lt =
            let low : from + i < row = grind (arith, lt) in
            old
            ∙ before i its low there (nat_lt (from + i) flagging.at) refl
            ∙ sym (ap (λ b. b && has_place key its) (lt-ltb (from + i) (row + 1) (omega (arith, low))))
        by false lt =
            let high : row ≤ from + i = grind (arith, lt) in
            let above : row < from + i = omega (arith, high, is, differ) in
            old
            ∙ ap (λ b. b && has_place key its) (le-ltb (from + i) flagging.at (omega (arith, above, flagging.left.rise.0)) ∙ sym (le-ltb (from + i) (row + 1) (omega (arith, above))))

    goes_on : AreFlagging rows key from ahead (set flags k told)
    goes_on = record {
      at = row + 1;
      on = omega (arith, is);
      left = next_ahead rows key.word flagging.at row ahead flagging.left;
      told = λ i its d within there. elim (cases_eq i k) [
        | inl same ↦ here i its d same there
        | inr differ ↦ other i its d differ (omega (arith, within, length-set flags k told)) there
      ];
    }

  -- it has its flag, and is gone over
  pub flagging_next : (row : ℕ) (ahead later : List ℕ) → slice_get ahead 0 ≡ Some row → later ≡ drop 1 ahead → AreFlagging rows key from ahead flags → (k : ℕ) → from + k ≡ row → k < length flags → (told : Bool) → ((its : DocRow) → slice_get rows row ≡ Some its → told ≡ has_place key its) → AreFlagging rows key from later (set flags k told)
  flagging_next row [] later next on flagging k is long told of = absurd (cc)
  flagging_next row (x ∷ ahead) later next on flagging k is long told of =
      let same : x ≡ row = cc in
      subst (λ xs. AreFlagging rows key from xs (set flags k told)) (sym on) (goes_on row ahead (subst (λ n. AreFlagging rows key from (n ∷ ahead) flags) same flagging) k is long told of)
