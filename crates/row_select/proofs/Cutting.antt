-- The page of rows in order, by the shortest prefix of them that has it.
use Rattle.std.proofs.Common.{◌≡◌, ℕ, ◌+◌, ◌-◌, List, length, take, drop, min, sym, ap, subst, ◌∙◌, arith, inl, inr}
use Rattle.std.proofs.lemmas.Bool.{cases_lt}
use Rattle.std.proofs.lemmas.List.{take-take, take_all, drop-take, drop_all, length-drop, length-take}
use Rattle.row_select.specs.Pages.{IsTop}
use Rattle.row_select.specs.declared.order.Order.{Order}
use Rattle.row_select.specs.declared.page.Page.{Page}
use Rattle.row_select.specs.declared.row.Row.{Row}
use Rattle.row_select.specs.steps.Selecting.{AreFirst}

front_is : {X : Type 0} (a b : ℕ) (xs : List X) → take b (take a xs) ≡ take (min a b) xs
front_is a b xs =
    elim (cases_lt a b) [
      | inl low ↦ take_all b (take a xs) (omega (arith, length-take a xs)) ∙ ap (λ n. take n xs) (omega arith)
      | inr low ↦ take-take b a xs low ∙ ap (λ n. take n xs) (omega arith)
    ]

pub page_of_front : {X : Type 0} (offset count most end : ℕ) (all : List X) → end ≡ min most (offset + count) → drop offset (take end all) ≡ take count (drop offset (take most all))
page_of_front offset count most end all is =
    ap (λ n. drop offset (take n all)) is ∙ ap (drop offset) (sym (front_is most (offset + count) all)) ∙ drop-take offset count (take most all)

passed_over : {X : Type 0} (offset passed : ℕ) (xs : List X) → passed ≡ min offset (length xs) → drop passed xs ≡ drop offset xs
passed_over offset passed xs is =
    elim (cases_lt offset (length xs)) [
      | inl low ↦ ap (λ n. drop n xs) (omega arith)
      | inr low ↦ drop_all passed xs (omega arith) ∙ sym (drop_all offset xs low)
    ]

rest_is : {X : Type 0} (passed : ℕ) (xs : List X) → take (length xs - passed) (drop passed xs) ≡ drop passed xs
rest_is passed xs = take_all (length xs - passed) (drop passed xs) (omega (arith, length-drop passed xs))

-- what is left of the first rows once some are passed over
pub is_top : (order : Order) (page : Page) (rows lent first : List Row) (end passed : ℕ) → lent ≡ rows → AreFirst order lent end first → end ≡ min page.max_matches (page.offset + page.count)
    → passed ≡ min page.offset (length first) → (shown : List Row) → shown ≡ take (length first - passed) (drop passed first) → IsTop rows order page shown
is_top order page rows lent first end passed same are until over shown is =
    subst (λ (found : List Row). IsTop found order page shown) same
    (are.0, are.1, is ∙ rest_is passed first ∙ passed_over page.offset passed first over ∙ ap (drop page.offset) are.2 ∙ page_of_front page.offset page.count page.max_matches end are.0 until)
