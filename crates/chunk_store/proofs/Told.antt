-- What is told through several calls.
use Rattle.std.proofs.Common.{◌≡◌, ℕ, List, [], ◌+◌, ◌++◌, length, Option, Some, None, refl, ◌∙◌, ap, subst, arith}
use Rattle.std.proofs.lemmas.List.{append-nil, drop_all}
use Rattle.chunk_store.specs.Images.{Image, Told, Both, Changes, contents, Writes, Vanishes, over}

pub both_then : {R S T : Image → Image → Type 0} (a b c : Option Image) → ((x y z : Image) → R x y → S y z → T x z) → Both R a b → Both S b c → Both T a c
both_then None None None then first second = tt
both_then None None (Some z) then first second = absurd second
both_then None (Some y) c then first second = absurd first
both_then (Some x) None c then first second = absurd first
both_then (Some x) (Some y) None then first second = absurd second
both_then (Some x) (Some y) (Some z) then first second = then x y z first second

pub told_by : {R : Image → Image → Type 0} {P Q : Image → Type 0} (a b : Option Image) → Both R a b → Told P a → ((x y : Image) → P x → R x y → Q y) → Told Q b
told_by None None both told step image is = absurd (cc)
told_by None (Some y) both told step image is = absurd both
told_by (Some x) None both told step image is = absurd both
told_by {R} {P} {Q} (Some x) (Some y) both told step image is = let same : y ≡ image = cc in subst (λ (i : Image). Q i) same (step x y (told x refl) both)

-- a file that is gone and is written anew has these bytes alone
pub made_anew : (file : ℕ) (bytes : List ℕ) (x y z : Image) → Changes file Vanishes x y → Changes file (Writes 0 bytes) y z → Changes file (λ old new. new ≡ Some bytes) x z
made_anew file bytes x y z gone made = record {
  here = made.here ∙ ap Some (ap (λ (old : Option (List ℕ)). over 0 bytes (contents old)) gone.here ∙ alone);
  others = λ f apart. made.others f apart ∙ gone.others f apart;
}
  where
    alone : over 0 bytes [] ≡ bytes
    alone = ap (λ (l : List ℕ). bytes ++ l) (drop_all (0 + length bytes) [] (omega arith)) ∙ append-nil bytes

-- what is told after a step
pub told_after : {R : Image → Image → Type 0} {Q : Image → Type 0} (a b : Option Image) → Both R a b → ((x y : Image) → R x y → Q y) → Told Q b
told_after {R} {Q} a b both step = told_by {R = R} {P = λ x. Unit {0}} {Q = Q} a b both (λ image is. tt) (λ x y any r. step x y r)
