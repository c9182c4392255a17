-- Places that are taken in turn.
use Rattle.std.proofs.Common.{◌≡◌, ℕ, Bool, true, false, cond, eqb, List, [], ◌∷◌, ◌++◌, length, get_or, set, refl, ◌∙◌}
use Rattle.std.proofs.lemmas.List.{length-set}
use Rattle.std.proofs.lemmas.List.Sums.{fold-append}
use Rattle.image_cover.specs.Places.{Seen, take_all, take_place, with_row}

pub take_long : (s : Seen) (place : ℕ × ℕ) → length (take_place s place).0 ≡ length s.0
take_long s place = by (eqb (get_or s.0 place.1 0) 1)
  where
    by : (b : Bool) → length (cond {A = Seen} b (s.0, with_row s.1 place.0) (set s.0 place.1 1, s.1)).0 ≡ length s.0
    by true = refl
    by false = length-set s.0 place.1 1

pub all_long : (s : Seen) (places : List (ℕ × ℕ)) → length (take_all s places).0 ≡ length s.0
all_long s [] = refl
all_long s (place ∷ places) = all_long (take_place s place) places ∙ take_long s place

pub take_append : (s : Seen) (xs ys : List (ℕ × ℕ)) → take_all s (xs ++ ys) ≡ take_all (take_all s xs) ys
take_append s xs ys = fold-append take_place s xs ys
