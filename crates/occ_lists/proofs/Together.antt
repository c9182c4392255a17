-- SENTENCE and PARAGRAPH: what begins outside of the boundaries next to x has one of them inside its hull with x.
use Rattle.std.proofs.Common.{◌≡◌, ℕ, ◌≤◌, Bool, true, false, cond, List, [], ◌∷◌, map, Option, Some, None, refl, sym, ◌∙◌, ap, arith, inl, inr}
use Rattle.std.specs.Prelude.{◌&&◌, ◌==◌, not, min, max, nat_lt, nat_le, All}
use Rattle.std.specs.List.{filter}
use Rattle.std.proofs.lemmas.Bool.{cases_Bool, cases_lt, lt-ltb, le-leb, true≢false}
use Rattle.std.proofs.lemmas.Bool.Decides.{nat_tests}
use Rattle.std.proofs.lemmas.List.Elements.{All-head, All-tail}
use Rattle.occ_lists.specs.declared.occ.Occ.{Occ}
use Rattle.occ_lists.specs.Joined.{crosses, hull}
use Rattle.occ_lists.specs.steps.Beside.{beside, goes_together}
use Rattle.occ_lists.specs.steps.Boundaries.{has_between, comes_before, is_by, begins_within}
use Rattle.occ_lists.specs.Sound.{IsForward}
use Rattle.occ_lists.proofs.Boundaries.{is_between}
use Rattle.occ_lists.proofs.Members.{any_weaker}

none : (a : Bool) → (a && false) ≡ false
none true = refl
none false = refl

with_true : (a : Bool) → (a && true) ≡ a
with_true true = refl
with_true false = refl

-- ---- filters
once : {X : Type 0} (p : X → Bool) (b : Bool) (x : X) (xs : List X) → filter p (cond b (x ∷ xs) xs) ≡ cond (b && p x) (x ∷ filter p xs) (filter p xs)
once p true x xs = refl
once p false x xs = refl

filter_both : {X : Type 0} (p q : X → Bool) (xs : List X) → filter p (filter q xs) ≡ filter (λ x. q x && p x) xs
filter_both p q [] = refl
filter_both p q (x ∷ xs) = once p (q x) x (filter q xs) ∙ ap (λ rest. cond (q x && p x) (x ∷ rest) rest) (filter_both p q xs)

-- tests that agree at each element with P
filter_alike : {X : Type 0} (P : X → Type 0) (p q : X → Bool) → ((x : X) → P x → p x ≡ q x) → (xs : List X) → All P xs → filter p xs ≡ filter q xs
filter_alike P p q alike [] all = refl
filter_alike P p q alike (x ∷ xs) all =
    ap (λ b. cond b (x ∷ filter p xs) (filter p xs)) (alike x (All-head P x xs all))
    ∙ ap (λ rest. cond (q x) (x ∷ rest) rest) (filter_alike P p q alike xs (All-tail P x xs all))

-- ---- boundaries inside of more
wider_each : (field from to low high : ℕ) → low ≤ from → to ≤ high → (g : ℕ × ℕ) → is_between field from to g ≡ true → is_between field low high g ≡ true
wider_each field from to low high before after g between = grind (arith, nat_tests)

wider : (boundaries : List (ℕ × ℕ)) (field from to low high : ℕ) → low ≤ from → to ≤ high → has_between boundaries field from to ≡ true → has_between boundaries field low high ≡ true
wider boundaries field from to low high before after between = any_weaker (is_between field from to) (is_between field low high) (wider_each field from to low high before after) boundaries between

-- where no boundary is inside the hull, y begins at the boundary before x ends or after it
begins_late : (boundaries : List (ℕ × ℕ)) (x y : Occ) (first : ℕ) → ((limit : ℕ) → has_between boundaries x.field limit x.last ≡ nat_lt limit first) → crosses boundaries (hull x y) ≡ false → nat_le first y.first ≡ true
begins_late boundaries x y first says apart = elim (cases_lt y.first first) [
  | inl early ↦ absurd (true≢false (sym (wider boundaries x.field y.first x.last (min x.first y.first) (max x.last y.last) (omega arith) (omega arith) (says y.first ∙ lt-ltb y.first first early)) ∙ apart))
  | inr late ↦ le-leb first y.first late
]

-- and at the boundary after x begins or before it
begins_early : (boundaries : List (ℕ × ℕ)) (x y : Occ) (last : Option ℕ) → IsForward y → ((limit : ℕ) → has_between boundaries x.field x.first limit ≡ comes_before last limit) → crosses boundaries (hull x y) ≡ false → is_by last y.first ≡ true
begins_early boundaries x y None forward says apart = refl
begins_early boundaries x y (Some last) forward says apart = elim (cases_lt last y.first) [
  | inl late ↦ absurd (true≢false (sym (wider boundaries x.field x.first y.first (min x.first y.first) (max x.last y.last) (omega arith) (omega arith) (says y.first ∙ lt-ltb last y.first late)) ∙ apart))
  | inr early ↦ le-leb y.first last early
]

fails : (a b c : Bool) → c ≡ true → ((a && b) && not c) ≡ (a && not c)
fails a b c crossed = ap (λ v. (a && b) && not v) crossed ∙ none (a && b) ∙ sym (ap (λ v. a && not v) crossed ∙ none a)

passes : (a b c d : Bool) → b ≡ true → c ≡ true → ((a && (b && c)) && d) ≡ (a && d)
passes a b c d first second = ap (λ v. (a && (v && c)) && d) first ∙ ap (λ v. (a && v) && d) second ∙ ap (λ v. v && d) (with_true a)

eqb_turned : (a b : ℕ) → (a == b) ≡ (b == a)
eqb_turned a b = grind (arith, nat_tests)

begins_inside : (boundaries : List (ℕ × ℕ)) (x : Occ) (first : ℕ) (last : Option ℕ) → ((limit : ℕ) → has_between boundaries x.field limit x.last ≡ nat_lt limit first) → ((limit : ℕ) → has_between boundaries x.field x.first limit ≡ comes_before last limit) → (y : Occ) → IsForward y → (begins_within x.field first last y && not (crosses boundaries (hull x y))) ≡ goes_together boundaries x y
begins_inside boundaries x first last before after y forward =
    elim (cases_Bool (crosses boundaries (hull x y))) [
      | inl crossed ↦ fails (y.field == x.field) (nat_le first y.first && is_by last y.first) (crosses boundaries (hull x y)) crossed
      | inr apart ↦ passes (y.field == x.field) (nat_le first y.first) (is_by last y.first) (not (crosses boundaries (hull x y))) (begins_late boundaries x y first before apart) (begins_early boundaries x y last forward after apart)
    ]
    ∙ ap (λ b. b && not (crosses boundaries (hull x y))) (eqb_turned y.field x.field)

pub stays_inside : (boundaries : List (ℕ × ℕ)) (x : Occ) (ys : List Occ) (first : ℕ) (last : Option ℕ) → All IsForward ys → ((limit : ℕ) → has_between boundaries x.field limit x.last ≡ nat_lt limit first) → ((limit : ℕ) → has_between boundaries x.field x.first limit ≡ comes_before last limit) → map (hull x) (filter (λ y. not (crosses boundaries (hull x y))) (filter (begins_within x.field first last) ys)) ≡ beside (goes_together boundaries) hull x ys
stays_inside boundaries x ys first last forward before after =
    ap (map (hull x))
    (filter_both (λ y. not (crosses boundaries (hull x y))) (begins_within x.field first last) ys
    ∙ filter_alike IsForward (λ y. begins_within x.field first last y && not (crosses boundaries (hull x y))) (goes_together boundaries x) (begins_inside boundaries x first last before after) ys forward)
