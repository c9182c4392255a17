-- A name's value by the name's place in a table.
use Rattle.std.proofs.Common.{◌≡◌, ℕ, zero, suc, ◌<◌, true, false, List, [], ◌∷◌, length, get_or, Option, Some, None, Contains, slice_get, refl, sym, ◌∙◌, ap, subst, arith, inl, inr, cond}
use Rattle.std.specs.Ordering.{is_eq}
use Rattle.std.specs.Str.{bytes_eq}
use Rattle.std.proofs.lemmas.Bool.{cases_Bool}
use Rattle.std.proofs.lemmas.Cmp.{nat_list_cmp_total, tied_itself}
use Rattle.std.proofs.lemmas.Map.Text.{is_eq-slice_cmp}
use Rattle.std.proofs.lemmas.Option.{slice_get_within, get_or_from_slice_get}
use Rattle.std.proofs.lemmas.Slice.Eq.{bytes_eq-Decides}
use Rattle.name_table.specs.Order.{Precedes, IsInOrder}
use Rattle.name_table.specs.NamedValues.{value_named}

same_bytes : (word : List ℕ) → bytes_eq word word ≡ true
same_bytes word = sym (is_eq-slice_cmp word word) ∙ ap is_eq (tied_itself nat_list_cmp_total word)

later_bytes : (name word : List ℕ) → Precedes name word → bytes_eq name word ≡ false
later_bytes name word before = sym (is_eq-slice_cmp name word) ∙ ap is_eq before

-- where a word stands in a table, its value stands in the list of values
pub value_named_at : {V : Type 0} (names : List (List ℕ)) (values : List V) (word : List ℕ) (place : ℕ) → IsInOrder names → slice_get names place ≡ Some word → value_named names values word ≡ slice_get values place
unfolding value_named
value_named_at [] values word place order found = cc
value_named_at (name ∷ names) [] word place order found = refl
value_named_at (name ∷ names) (value ∷ values) word zero order found =
    let is : name ≡ word = cc in
    let same : bytes_eq name word ≡ true = subst (λ (w : List ℕ). bytes_eq name w ≡ true) is (same_bytes name) in
    ap (λ b. cond b (Some value) (value_named names values word)) same
value_named_at (name ∷ names) (value ∷ values) word (suc place) order found =
    let within : place < length names = slice_get_within names place word found in
    let there : get_or names place word ≡ word = get_or_from_slice_get names place word word found in
    let before : Precedes name word = subst (λ (w : List ℕ). Precedes name w) there (order 0 (suc place) word (omega arith) (omega arith)) in
    let tail : IsInOrder names = λ i j d lower upper. order (suc i) (suc j) d (omega arith) (omega arith) in
    ap (λ b. cond b (Some value) (value_named names values word)) (later_bytes name word before) ∙ value_named_at names values word place tail found

-- where a word stands nowhere in a table, it has no value
pub value_named_nowhere : {V : Type 0} (names : List (List ℕ)) (values : List V) (word : List ℕ) → ¬ (Contains names word) → value_named names values word ≡ None
unfolding value_named
value_named_nowhere [] values word none = refl
value_named_nowhere (name ∷ names) [] word none = refl
value_named_nowhere (name ∷ names) (value ∷ values) word none =
    elim (cases_Bool (bytes_eq name word)) [
      | inl same ↦ absurd (none (0, omega arith, (bytes_eq-Decides name word).0 same))
      | inr other ↦ ap (λ b. cond b (Some value) (value_named names values word)) other ∙ value_named_nowhere names values word (λ held. none (suc held.0, omega (arith, held.1), held.2))
    ]

-- The two arms of a look-up: the table's words are the names, and the place's value is read from the list of values.
pub value_found : {V : Type 0} (table names : List (List ℕ)) (values : List V) (word : List ℕ) (place : ℕ) (value : Option V) → table ≡ names → IsInOrder table → slice_get table place ≡ Some word → value ≡ slice_get values place → value ≡ value_named names values word
value_found table names values word place value same order found is =
    is ∙ (sym (value_named_at table values word place order found) ∙ ap (λ (ws : List (List ℕ)). value_named ws values word) same)

pub value_not_found : {V : Type 0} (table names : List (List ℕ)) (values : List V) (word : List ℕ) → table ≡ names → ¬ (Contains table word) → None ≡ value_named names values word
value_not_found table names values word same none =
    sym (value_named_nowhere table values word none) ∙ ap (λ (ws : List (List ℕ)). value_named ws values word) same
