-- Words told by their first bytes.
use Rattle.std.proofs.Common.{◌≡◌, ◌≤◌, ◌<◌, ℕ, List, Some, true, false, sym, ap, subst, ◌∙◌, arith, ◌⊎◌, ⊎_elim}
use Rattle.std.specs.Ordering.{is_lt}
use Rattle.image_write.specs.Heads.{head, tells}
use Rattle.image_write.proofs.Beginnings.{heads_order, told}
use Rattle.image_join.specs.steps.Merging.{IsHeadOf, less}
use Rattle.image_join.proofs.Order.{not_back, not_itself}

lower : (a b : List ℕ) (x y : ℕ) → IsHeadOf (Some a) x → IsHeadOf (Some b) y → x < y → less a b ≡ true
lower a b x y own its low =
    let here : x < head b = subst (λ n. x < n) its.0 low in
    ap is_lt (heads_order a b own.1 its.1 (subst (λ n. n < head b) own.0 here))

-- a word of a greater head doesn't stand before
pub behind_head : (a b : List ℕ) (x y : ℕ) → IsHeadOf (Some a) x → IsHeadOf (Some b) y → y < x → less a b ≡ false
behind_head a b x y own its low = not_back b a (lower b a y x its own low)

-- one head that tells its word is of one word
pub one : (a b : List ℕ) (x y : ℕ) → IsHeadOf (Some a) x → IsHeadOf (Some b) y → x ≡ y → tells y ≡ true → a ≡ b
one a b x y own its same tell =
    told a b own.1 its.1 (sym own.0 ∙ same ∙ its.0) (ap tells (sym own.0 ∙ same) ∙ tell)

-- nor does one of a head that isn't smaller than one that tells its word
pub behind_told : (a b : List ℕ) (x y : ℕ) → IsHeadOf (Some a) x → IsHeadOf (Some b) y → y ≤ x → tells y ≡ true → less a b ≡ false
behind_told a b x y own its low tell =
    ⊎_elim
    (λ same. subst (λ w. less w b ≡ false) (sym (one a b x y own its same tell)) (not_itself b))
    (λ more. behind_head a b x y own its more)
    (equal_or_more x y low)
  where
    equal_or_more : (x y : ℕ) → y ≤ x → (x ≡ y) ⊎ (y < x)
    equal_or_more x y low = grind arith
