-- Ids that are the same, and ids that aren't.
use Rattle.std.proofs.Common.{◌≡◌, ◌≢◌, ℕ, true, false, ◌==◌, ◌∙◌, refl, arith}
use Rattle.std.specs.Ordering.{nat_cmp, eq_by_cmp}
use Rattle.std.specs.Cmp.{unsigned_tied}
use Rattle.std.proofs.lemmas.Bool.Decides.{nat_tests}

pub apart : (a b : ℕ) → a ≢ b → (a == b) ≡ false
apart a b h = grind (arith, nat_tests)

pub same : (a b : ℕ) → a ≡ b → (a == b) ≡ true
same a b h = grind (arith, nat_tests)

pub tied_apart : (a b : ℕ) → a ≢ b → eq_by_cmp nat_cmp a b ≡ false
tied_apart a b h = unsigned_tied a b ∙ apart a b h

pub tied_same : (a : ℕ) → eq_by_cmp nat_cmp a a ≡ true
tied_same a = unsigned_tied a a ∙ same a a refl
