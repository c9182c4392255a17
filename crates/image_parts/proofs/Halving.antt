-- Halving a list that ascends by a key: what lies before the part that is left has smaller keys, and what lies behind it greater ones.
use Rattle.std.proofs.Common.{◌≡◌, ℕ, ◌+◌, ◌<◌, ◌≤◌, ◌==◌, Bool, List, length, get_or, Some, None, Ok, Err, sym, ap, subst, ◌∙◌, arith, inl, inr, AllPairs}
use Rattle.std.specs.List.{position}
use Rattle.std.specs.Ordering.{is_eq, nat_cmp, ordering_reverse}
use Rattle.std.specs.Cmp.{IsTotalOrder}
use Rattle.std.specs.declared.cmp.Ordering.{Ordering}
use Rattle.std.specs.declared.cmp.Ordering.TheVariants.{Less, Equal, Greater}
use Rattle.std.proofs.lemmas.Bool.{cases_lt}
use Rattle.std.proofs.lemmas.Bool.Decides.{nat_tests}
use Rattle.doc_types.proofs.BinarySearches.{found_place}

pub record Halved {K X : Type 0} (R : K → K → Ordering) (key : X → K) (k : K) (xs : List X) (low high : ℕ) : Type 0 where
  pub within : high ≤ length xs
  pub below : (j : ℕ) (d : X) → j < low → j < length xs → R (key (get_or xs j d)) k ≡ Less
  pub above : (j : ℕ) (d : X) → high ≤ j → j < length xs → R (key (get_or xs j d)) k ≡ Greater

pub halved_all : {K X : Type 0} (R : K → K → Ordering) (key : X → K) (k : K) (xs : List X) (high : ℕ) → high ≡ length xs → Halved R key k xs 0 high
halved_all R key k xs high all = record { within = omega (arith, all); below = λ j d low in_xs. absurd (omega (arith, low)); above = λ j d behind in_xs. absurd (omega (arith, behind, in_xs, all)) }

module _ {K X : Type 0} {R : K → K → Ordering} (o : IsTotalOrder R) (key : X → K) (k : K) (xs : List X) (ascend : AllPairs (λ a b. R (key a) (key b) ≡ Less) xs) (low high m : ℕ) (h : Halved R key k xs low high) where
  -- the key in the middle is smaller
  pub halved_up : m < high → ((d : X) → R (key (get_or xs m d)) k ≡ Less) → Halved R key k xs (m + 1) high
  halved_up before less = record {
    within = h.within;
    below = λ j d up in_xs. elim (cases_lt j m) [
      | inl l ↦ o.trans (key (get_or xs j d)) (key (get_or xs m d)) k (ascend j m d l (omega (arith, before, h.within))) (less d)
      | inr behind ↦ let same : j ≡ m = omega (arith, up, behind) in subst (λ n. R (key (get_or xs n d)) k ≡ Less) (sym same) (less d)
    ];
    above = h.above;
  }

  -- or greater
  pub halved_down : m < high → ((d : X) → R (key (get_or xs m d)) k ≡ Greater) → Halved R key k xs low m
  halved_down before greater = record {
    within = omega (arith, before, h.within);
    below = h.below;
    above = λ j d behind in_xs. elim (cases_lt m j) [
      | inl l ↦
          let first : R k (key (get_or xs m d)) ≡ Less = o.antisymm k (key (get_or xs m d)) ∙ ap ordering_reverse (greater d) in
          let both : R k (key (get_or xs j d)) ≡ Less = o.trans k (key (get_or xs m d)) (key (get_or xs j d)) first (ascend m j d l in_xs) in
          o.antisymm (key (get_or xs j d)) k ∙ ap ordering_reverse both
      | inr up ↦ let same : j ≡ m = omega (arith, up, behind) in subst (λ n. R (key (get_or xs n d)) k ≡ Greater) (sym same) (greater d)
    ];
  }

  -- or the one that is looked for
  pub halved_found : (p : X → Bool) → ((x : X) → p x ≡ is_eq (R (key x) k)) → m < high → ((d : X) → R (key (get_or xs m d)) k ≡ Equal) → Some m ≡ position p xs
  halved_found p tests before same = found_place o key k p tests xs ascend (Ok m) (omega (arith, before, h.within)) same

  -- nothing is left
  pub halved_none : (p : X → Bool) → ((x : X) → p x ≡ is_eq (R (key x) k)) → high ≤ low → low ≤ length xs → None ≡ position p xs
  halved_none p tests left in_xs = found_place o key k p tests xs ascend (Err low) in_xs (λ _. (λ j d _ up. h.below j d up (omega (arith, up, in_xs)), λ j d behind inside. h.above j d (omega (arith, behind, left)) inside))

pub same_number : (a b : ℕ) → (a == b) ≡ is_eq (nat_cmp a b)
same_number a b = grind (arith, nat_tests)

pub is_less : (a b : ℕ) → a < b → nat_cmp a b ≡ Less
is_less a b l = grind (arith, nat_tests)

pub is_greater : (a b : ℕ) → b < a → nat_cmp a b ≡ Greater
is_greater a b l = grind (arith, nat_tests)

pub is_equal : (a b : ℕ) → a ≡ b → nat_cmp a b ≡ Equal
is_equal a b e = grind (arith, nat_tests)
