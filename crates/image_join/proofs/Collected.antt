-- The entries of a word, collected from the parts.
use Rattle.std.proofs.Common.{◌≡◌, ◌≢◌, ℕ, zero, suc, ◌+◌, ◌<◌, List, [], ◌∷◌, Bool, true, false, cond, ◌==◌, ◌||◌, Some, slice_get, length, map, get_or, refl, sym, ap, subst, ◌∙◌, arith, All, Contains}
use Rattle.std.specs.List.{filter, flat_map, list_any, enumerate_from}
use Rattle.std.specs.Option.{option_map_or}
use Rattle.std.proofs.lemmas.Bool.Decides.{nat_tests}
use Rattle.std.proofs.lemmas.List.Elements.{All-append, All-cons, All-head, All-nil, All-tail, Contains-append_right}
use Rattle.std.proofs.lemmas.List.Folds.{list_any-append}
use Rattle.std.proofs.lemmas.Option.{slice_get_within}
use Rattle.doc_types.specs.declared.cursor.TheConstants.{NO_ROW}
use Rattle.doc_types.specs.declared.documents.DocRow.{DocRow}
use Rattle.doc_types.specs.Chunks.{has_word, hits_of, rows_with}
use Rattle.posting_codec.specs.HitLists.{hit_list}
use Rattle.image_join.specs.steps.Entries.{AreEntriesOf, Entry, IsEntryOf, entries_in, entry_of}
use Rattle.image_join.specs.steps.Numbering.{AreNumbered, IsNumbered, number_in}
use Rattle.image_join.specs.steps.Parts.{PartValue, blank_part, part_at}

-- a row with the word, of rows of which the first has this number
pub record HasAt (word : List ℕ) (first : ℕ) (rows : List DocRow) (row : ℕ) : Type 0 where
  pub at : ℕ
  pub own : DocRow
  pub numbered : row ≡ first + at
  pub here : slice_get rows at ≡ Some own
  pub has : has_word word own ≡ true

abbrev numbers_with : List ℕ → ℕ → List DocRow → List ℕ
numbers_with word n rows = map (λ (e : ℕ × DocRow). e.0) (filter (λ e. has_word word e.1) (enumerate_from n rows))

-- each of the rows with the word has it
pub with_word : (word : List ℕ) (n : ℕ) (rows : List DocRow) → All (HasAt word n rows) (numbers_with word n rows)
with_word word n [] = All-nil (HasAt word n [])
with_word word n (r ∷ rs) =
    let rest : All (HasAt word n (r ∷ rs)) (numbers_with word (n + 1) rs) = λ k d h.
    let its = with_word word (n + 1) rs k d h in
    record { at = suc its.at; own = its.own; numbered = omega (arith, its.numbered); here = its.here; has = its.has } in
    elim (has_word word r) as (λ b. has_word word r ≡ b → All (HasAt word n (r ∷ rs)) (map (λ (e : ℕ × DocRow). e.0) (cond b ((n, r) ∷ filter (λ e. has_word word e.1) (enumerate_from (n + 1) rs)) (filter (λ e. has_word word e.1) (enumerate_from (n + 1) rs))))) [
      | true ↦ λ has. All-cons (HasAt word n (r ∷ rs)) n (numbers_with word (n + 1) rs) (record { at = zero; own = r; numbered = omega arith; here = refl; has = has }) rest
      | false ↦ λ _. rest
    ] refl

-- and each row that has the word is one of them
pub contains_row : (word : List ℕ) (n : ℕ) (rows : List DocRow) (k : ℕ) (row : DocRow) → slice_get rows k ≡ Some row → has_word word row ≡ true → Contains (numbers_with word n rows) (n + k)
contains_row word n [] k row here has = absurd cc
contains_row word n (r ∷ rs) zero row here has =
    let same : r ≡ row = cc in
    let own : has_word word r ≡ true = ap (has_word word) same ∙ has in
    rw own (zero, omega arith, omega arith)
contains_row word n (r ∷ rs) (suc k) row here has =
    let rest : Contains (numbers_with word (n + 1) rs) (n + suc k) = subst (Contains (numbers_with word (n + 1) rs)) (omega arith) (contains_row word (n + 1) rs k row here has) in
    elim (has_word word r) as (λ b. Contains (map (λ (e : ℕ × DocRow). e.0) (cond b ((n, r) ∷ filter (λ e. has_word word e.1) (enumerate_from (n + 1) rs)) (filter (λ e. has_word word e.1) (enumerate_from (n + 1) rs)))) (n + suc k)) [
      | true ↦ Contains-append_right (n ∷ []) (numbers_with word (n + 1) rs) (n + suc k) rest
      | false ↦ rest
    ]

all_flat : {A B : Type 0} (P : B → Type 0) (f : A → List B) (Q : A → Type 0) (xs : List A) → ((x : A) → Q x → All P (f x)) → All Q xs → All P (flat_map f xs)
all_flat P f Q [] each all = All-nil P
all_flat P f Q (x ∷ xs) each all = All-append P (f x) (flat_map f xs) (each x (All-head Q x xs all)) (all_flat P f Q xs each (All-tail Q x xs all))

or_left : (a b : Bool) → a ≡ true → (a || b) ≡ true
or_left a b e = rw e refl

or_right : (a b : Bool) → b ≡ true → (a || b) ≡ true
or_right true b e = refl
or_right false b e = e

any_flat : {A B : Type 0} (p : B → Bool) (f : A → List B) (xs : List A) (k : ℕ) (d : A) → k < length xs → list_any p (f (get_or xs k d)) ≡ true → list_any p (flat_map f xs) ≡ true
any_flat p f [] k d low has = absurd (omega (arith, low))
any_flat p f (x ∷ xs) zero d low has = list_any-append p (f x) (flat_map f xs) ∙ or_left (list_any p (f x)) (list_any p (flat_map f xs)) has
any_flat p f (x ∷ xs) (suc k) d low has = list_any-append p (f x) (flat_map f xs) ∙ or_right (list_any p (f x)) (list_any p (flat_map f xs)) (any_flat p f xs k d (omega (arith, low)) has)

-- a row with a number gives an entry of one of the rows
entry_is : (word numbers : List ℕ) (rows : List DocRow) (part : PartValue) (row : ℕ) → IsNumbered numbers rows part → HasAt word 0 part.rows row → All (IsEntryOf word 0 rows) (entry_of word numbers part.first part.rows row)
entry_is word numbers rows part row is has =
    let own : slice_get part.rows row ≡ Some has.own = ap (slice_get part.rows) (omega (arith, has.numbered)) ∙ has.here in
    elim (number_in numbers part row == NO_ROW) as (λ b. (number_in numbers part row == NO_ROW) ≡ b → All (IsEntryOf word 0 rows) (cond b [] ((number_in numbers part row, hit_list (option_map_or (hits_of word) (slice_get part.rows row) [])) ∷ []))) [
      | true ↦ λ _. All-nil (IsEntryOf word 0 rows)
      | false ↦ λ e.
          let other : number_in numbers part row ≢ NO_ROW = λ same. grind (arith, nat_tests) in
          All-cons (IsEntryOf word 0 rows) (number_in numbers part row, hit_list (option_map_or (hits_of word) (slice_get part.rows row) [])) []
          (record {
            at = number_in numbers part row;
            row = has.own;
            numbered = omega arith;
            here = is.from row (slice_get_within part.rows row has.own own) other ∙ own;
            has = has.has;
            hits = ap (λ o. hit_list (option_map_or (hits_of word) o [])) own;
          }) (All-nil (IsEntryOf word 0 rows))
    ] refl

entries_are : (word numbers : List ℕ) (rows : List DocRow) (part : PartValue) → IsNumbered numbers rows part → All (IsEntryOf word 0 rows) (entries_in word numbers part)
entries_are word numbers rows part is =
    all_flat (IsEntryOf word 0 rows) (entry_of word numbers part.first part.rows) (HasAt word 0 part.rows) (rows_with word part.rows) (λ row has. entry_is word numbers rows part row is has) (with_word word 0 part.rows)

-- the row of a part with this number gives its entry
entry_there : (word numbers : List ℕ) (part : PartValue) (row n : ℕ) (own : DocRow) → number_in numbers part row ≡ n → n ≢ NO_ROW → slice_get part.rows row ≡ Some own → has_word word own ≡ true → list_any (λ entry. entry.0 == n) (entries_in word numbers part) ≡ true
entry_there word numbers part row n own is other here has =
    let found = contains_row word 0 part.rows row own here has in
    let test : Entry → Bool = λ entry. entry.0 == n in
    let at : get_or (rows_with word part.rows) found.0 (0 + row) ≡ row = found.2 ∙ omega arith in
    let none : (number_in numbers part row == NO_ROW) ≡ false = grind (arith, nat_tests) in
    let hit : (number_in numbers part row == n) ≡ true = grind (arith, nat_tests) in
    let own_entry : list_any test (entry_of word numbers part.first part.rows row) ≡ true = rw (none, hit) refl in
    any_flat test (entry_of word numbers part.first part.rows) (rows_with word part.rows) found.0 (0 + row) found.1 (ap (λ r. list_any test (entry_of word numbers part.first part.rows r)) at ∙ own_entry)

-- those of all parts are for all rows that have the word
pub collected : (word numbers : List ℕ) (rows : List DocRow) (parts : List PartValue) → AreNumbered parts numbers rows → AreEntriesOf word rows (flat_map (entries_in word numbers) parts)
collected word numbers rows parts is = record {
  each = all_flat (IsEntryOf word 0 rows) (entries_in word numbers) (IsNumbered numbers rows) parts (entries_are word numbers rows) is.each;
  all = λ n row here has.
      let low : n < length rows = slice_get_within rows n row here in
      let its = is.to n low in
      let part = part_at parts its.0 in
      let other : n ≢ NO_ROW = λ same. omega (arith, same, low, is.few) in
      let from = (is.each its.0 blank_part its.2).from its.1 its.3 (λ same. other (sym its.4 ∙ same)) in
      let own : slice_get part.rows its.1 ≡ Some row = sym from ∙ ap (slice_get rows) its.4 ∙ here in
      any_flat (λ entry. entry.0 == n) (entries_in word numbers) parts its.0 blank_part its.2 (entry_there word numbers part its.1 n row its.4 other own has);
}
