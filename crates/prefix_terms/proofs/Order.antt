-- The order of words.
use Rattle.std.proofs.Common.{◌≡◌, ℕ, List, true, false, refl, sym, ap, ◌∙◌}
use Rattle.std.specs.Cmp.Lexicographic.{slice_cmp}
use Rattle.std.specs.FinMap.{nat_cmp-IsAntisymmetric, slice_cmp-IsAntisymmetric}
use Rattle.std.specs.Ordering.{is_gt, is_lt, nat_cmp, ordering_reverse}
use Rattle.std.specs.declared.cmp.Ordering.{Ordering}
use Rattle.std.specs.declared.cmp.Ordering.TheVariants.{Equal, Greater, Less}
use Rattle.std.proofs.lemmas.Cmp.{nat_list_cmp_total, tied_itself, upto}
use Rattle.prefix_terms.specs.steps.Parts.{less}

flipped : (o : Ordering) → is_lt (ordering_reverse o) ≡ is_gt o
flipped Less = refl
flipped Equal = refl
flipped Greater = refl

turned : (a b : List ℕ) → less a b ≡ is_gt (slice_cmp nat_cmp b a)
turned a b = ap is_lt (nat_list_cmp_total.antisymm a b) ∙ flipped (slice_cmp nat_cmp b a)

-- no word stands before itself
pub not_itself : (a : List ℕ) → less a a ≡ false
not_itself a = ap is_lt (tied_itself nat_list_cmp_total a)

-- two that stand in no order to a third
pub not_less : (a b c : List ℕ) → less a b ≡ false → less b c ≡ false → less a c ≡ false
not_less a b c one two = turned a c ∙ upto nat_list_cmp_total c b a (sym (turned b c) ∙ two) (sym (turned a b) ∙ one)

only_less : (o : Ordering) → is_lt o ≡ true → o ≡ Less
only_less Less e = refl
only_less Equal e = absurd cc
only_less Greater e = absurd cc

pub is_less : (a b : List ℕ) → less a b ≡ true → slice_cmp nat_cmp a b ≡ Less
is_less a b e = only_less (slice_cmp nat_cmp a b) e

-- what stands before a word stands before those behind it
pub less_than : (a b c : List ℕ) → less a b ≡ true → less b c ≡ true → less a c ≡ true
less_than a b c one two = ap is_lt (nat_list_cmp_total.trans a b c (is_less a b one) (is_less b c two))

not_both : (o : Ordering) → is_lt o ≡ true → is_gt o ≡ false
not_both Less e = refl
not_both Equal e = absurd cc
not_both Greater e = absurd cc

-- what stands before another one doesn't stand behind it
pub not_back : (a b : List ℕ) → less a b ≡ true → less b a ≡ false
not_back a b e = turned b a ∙ not_both (slice_cmp nat_cmp a b) e

equal : (o : Ordering) → is_lt o ≡ false → is_gt o ≡ false → o ≡ Equal
equal Less one two = absurd cc
equal Equal one two = refl
equal Greater one two = absurd cc

-- two of which none stands before the other one are one
pub same_word : (a b : List ℕ) → less a b ≡ false → less b a ≡ false → a ≡ b
same_word a b one two = slice_cmp-IsAntisymmetric nat_cmp-IsAntisymmetric a b (equal (slice_cmp nat_cmp a b) one (sym (turned b a) ∙ two))
