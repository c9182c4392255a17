-- A word is gone over.
use Rattle.std.proofs.Common.{◌≡◌, ◌≢◌, ℕ, ◌+◌, ◌<◌, ◌≤◌, List, [], ◌∷◌, Bool, true, false, Option, Some, None, nat_le, slice_get, length, get_or, refl, sym, ap, subst, ◌∙◌, arith, ◌⊎◌, ⊎_elim}
use Rattle.std.proofs.lemmas.Bool.Decides.{nat_tests}
use Rattle.std.proofs.lemmas.Option.{slice_get-get_or, slice_get_within}
use Rattle.doc_types.specs.Chunks.{AreWordsOf, rows_with}
use Rattle.image_join.specs.steps.Merging.{IsBefore, IsHeadOf, StandsAt, is_ahead, less}
use Rattle.image_join.specs.steps.Parts.{PartValue}
use Rattle.image_join.proofs.Least.{in_order, le_told}
use Rattle.image_join.specs.declared.nexts.Next.{Next}
use Rattle.image_join.proofs.Order.{not_back, not_itself, not_less, same_word}

clash : (b : Bool) → b ≡ true → b ≡ false → ⊥
clash b one two = let e : true ≡ false = sym one ∙ two in cc

-- what isn't ahead of the last word isn't ahead of a word that is
pub stays_behind : (last : Option (List ℕ)) (word own : List ℕ) → is_ahead last word ≡ true → is_ahead last own ≡ false → less word own ≡ false
stays_behind None word own ahead behind = absurd (clash true refl behind)
stays_behind (Some last) word own ahead behind = not_less word last own (not_back last word ahead) behind

equal_or_behind : (a b : ℕ) → a ≤ b → (a ≡ b) ⊎ (a < b)
equal_or_behind a b low = grind arith

below_or_not : (a b : ℕ) → (b < a) ⊎ (a ≤ b)
below_or_not a b = grind arith

module _ (last : Option (List ℕ)) (part : PartValue) (next : Next) (word : List ℕ) (are : AreWordsOf part.rows part.words) (stands : StandsAt last part next) (before : IsBefore last word part) (ahead : is_ahead last word ≡ true) where
  abbrev head : ℕ
  head = next.number

  le_true : (a b : ℕ) → a ≤ b → nat_le a b ≡ true
  le_true a b low = grind (arith, nat_tests)

  le_false : (a b : ℕ) → b < a → nat_le a b ≡ false
  le_false a b low = grind (arith, nat_tests)

  not_ahead : (n : ℕ) (own : List ℕ) → slice_get part.words n ≡ Some own → n < head → less word own ≡ false
  not_ahead n own at low = stays_behind last word own ahead (stands.split n own at ∙ le_false head n low)

  -- where the next word is another one, this one isn't in the part
  pub not_there : (n : ℕ) → slice_get part.words head ≢ Some word → slice_get part.words n ≡ Some word → ⊥
  not_there n other at =
      let low : head ≤ n = le_told head n (sym (stands.split n word at) ∙ ahead) in
      ⊎_elim
      (λ same. other (ap (slice_get part.words) same ∙ at))
      (λ behind.
      let within : head < length part.words = let it = slice_get_within part.words n word at in omega (arith, it, behind) in
      let front = get_or part.words head word in
      let here : slice_get part.words head ≡ Some front = slice_get-get_or part.words head word within in
      clash (less front word) (in_order part head n front word are behind here at) (before.least head front here (stands.split head front here ∙ le_true head head (omega arith))))
      (equal_or_behind head n low)

  -- then the part's words ahead are the same
  pub stays : slice_get part.words head ≢ Some word → StandsAt (Some word) part next
  stays other = record {
    split = λ n own at.
        ⊎_elim
        (λ low. not_ahead n own at low ∙ sym (le_false head n low))
        (λ low.
        let is : less word own ≡ true =
        elim (less word own) as (λ b. less word own ≡ b → b ≡ true) [
          | true ↦ λ e. refl
          | false ↦ λ e. absurd (
              let same : own ≡ word = same_word own word (before.least n own at (stands.split n own at ∙ le_true head n low)) e in
              not_there n other (at ∙ ap Some same))
        ] refl in
        is ∙ sym (le_true head n low))
        (below_or_not head n);
    headed = stands.headed;
  }

  -- and the word has no row in it
  pub no_rows : slice_get part.words head ≢ Some word → rows_with word part.rows ≡ []
  no_rows other = none (rows_with word part.rows) (λ some.
      let its = are.all word some in
      not_there its.0 other (slice_get-get_or part.words its.0 word its.1 ∙ ap Some its.2))
    where
      none : (rows : List ℕ) → (0 < length rows → ⊥) → rows ≡ []
      none [] few = refl
      none (r ∷ rs) few = absurd (few (omega arith))

  -- where it is the next word, those behind it are ahead now
  pub goes_on : (after : Next) → slice_get part.words head ≡ Some word → after.number ≡ head + 1 → IsHeadOf (slice_get part.words (head + 1)) after.head → StandsAt (Some word) part after
  goes_on after here at headed = record {
    headed = subst (λ n. IsHeadOf (slice_get part.words n) after.head) (sym at) headed;
    split = λ n own here_at.
        ⊎_elim
        (λ low. not_ahead n own here_at low ∙ sym (le_false after.number n (omega (arith, low, at))))
        (λ low.
        ⊎_elim
        (λ same.
        let both : Some word ≡ Some own = sym here ∙ ap (slice_get part.words) same ∙ here_at in
        let one : word ≡ own = cc in
        subst (λ o. less word o ≡ false) one (not_itself word) ∙ sym (le_false after.number n (omega (arith, same, at))))
        (λ behind. in_order part head n word own are behind here here_at ∙ sym (le_true after.number n (omega (arith, behind, at))))
        (equal_or_behind head n low))
        (below_or_not head n);
  }
