use Rattle.std.proofs.Common.{arith, ◌≡◌, ◌≤◌, ◌+◌, ◌-◌, ◌*◌, ◌^◌, add-zero, add-suc, ℕ, zero, suc, sym, ap, subst, ◌∙◌, mul_assoc}
use Rattle.std.proofs.Math.Nat.{pow-suc, mul-le-mul_left}
use Rattle.std.proofs.Math.Numerals.{add-one}
use Rattle.std.proofs.lemmas.Bool.{le-leb}
use Rattle.op_eval.proofs.quorum.has_share.Goals as goal

-- a greater power of ten isn't smaller
tens_rise : (n k : ℕ) → 10 ^ n ≤ 10 ^ (n + k)
tens_rise n zero = omega (arith, ap (λ m. 10 ^ m) (add-zero n))
tens_rise n (suc k) = omega (arith, tens_rise n k, ap (λ m. 10 ^ m) (add-suc n k), pow-suc 10 (n + k))

-- what is enough at some decimal place is enough at a later one
enough_early : (wanted had matched place places : ℕ) → place ≤ places → had ≡ matched * (10 ^ place) → wanted ≤ had → wanted ≤ matched * (10 ^ places)
enough_early wanted had matched place places before is enough =
    let end : place + (places - place) ≡ places = omega arith in
    let tens : 10 ^ place ≤ 10 ^ places = subst (λ (n : ℕ). 10 ^ place ≤ 10 ^ n) end (tens_rise place (places - place)) in
    let rise : matched * (10 ^ place) ≤ matched * (10 ^ places) = mul-le-mul_left matched tens in
    omega arith

next_place : (had matched place : ℕ) → had ≡ matched * (10 ^ place) → had * 10 ≡ matched * (10 ^ (place + 1))
next_place had matched place is =
    ap (λ h. h * 10) is ∙ mul_assoc matched (10 ^ place) 10 ∙ ap (λ t. matched * t) (sym (pow-suc 10 place)) ∙ ap (λ n. matched * (10 ^ n)) (sym (add-one place))

pub returns-then-had-wanted : goal.returns-then-had-wanted
returns-then-had-wanted c =
    sym (le-leb _ _ (subst (λ (digits : ℕ). digits * c.args.n ≤ c.args.matched * (10 ^ c.args.places)) c.from.ensures
    (enough_early (c.from.result * c.args.n) c.loop-place.had c.args.matched c.loop-place.place c.args.places (omega arith) c.loop-place.invariant c.if-had-wanted.true)))

pub loop-place-preserved : goal.loop-place-preserved
loop-place-preserved c = next_place c.loop-place.had c.args.matched c.loop-place.place c.loop-place.invariant
