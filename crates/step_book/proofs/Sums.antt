-- Shares of one line: their own entries are together no more than the line has.
use Rattle.std.proofs.Common.{◌≡◌, ℕ, ◌+◌, ◌≤◌, List, [], ◌∷◌, true, false, ◌==◌, ◌||◌, cond, length, refl, sym, ap, ◌∙◌, arith, length-append}
use Rattle.std.specs.List.{filter, list_any, sum_by}
use Rattle.std.proofs.lemmas.Bool.Decides.{nat_tests}
use Rattle.std.proofs.lemmas.List.Elements.{filter-append}
use Rattle.std.proofs.lemmas.List.Sums.{sum_by-cons}
use mathlib.Core.List.{IsPrefix}
use Rattle.step_book.specs.Shares.{AreApart, BeginAll, SeenBy, calls_by, sum_of_shares}

more : (worker : ℕ) (calls line : List ℕ) → IsPrefix calls line → calls_by worker calls ≤ calls_by worker line
more worker calls line p =
    let e : calls_by worker line ≡ calls_by worker calls + calls_by worker p.0 =
    ap (λ xs. length (filter (λ x. x == worker) xs)) (sym p.1)
    ∙ ap length (filter-append (λ x. x == worker) calls p.0)
    ∙ length-append (filter (λ x. x == worker) calls) (filter (λ x. x == worker) p.0) in
    omega (arith, e)

-- how many of the shares are the worker's
abbrev hits : List SeenBy → ℕ → ℕ
hits [] x = 0
hits (s ∷ shares) x = cond (x == s.worker) 1 0 + hits shares x

none : (shares : List SeenBy) (x w : ℕ) → list_any (λ other. other.worker == w) shares ≡ false → (x == w) ≡ true → hits shares x ≡ 0
none [] x w h e = refl
none (s ∷ shares) x w h e =
    elim (s.worker == w) as (λ b. (s.worker == w) ≡ b → (b || list_any (λ (other : SeenBy). other.worker == w) shares) ≡ false → cond (x == s.worker) 1 0 + hits shares x ≡ 0) [
      | true ↦ λ is h. cc h
      | false ↦ λ is h. (let apart : (x == s.worker) ≡ false = grind (arith, nat_tests) in let z = none shares x w h e in rw apart (omega (arith, z)))
    ] refl h

once : (shares : List SeenBy) (x : ℕ) → AreApart shares → hits shares x ≤ 1
once [] x a = omega arith
once (s ∷ shares) x a =
    elim (x == s.worker) as (λ b. (x == s.worker) ≡ b → cond b 1 0 + hits shares x ≤ 1) [
      | true ↦ λ e. (let z = none shares x s.worker a.0 e in omega (arith, z))
      | false ↦ λ e. (let o = once shares x a.1 in omega (arith, o))
    ] refl

one_more : (shares : List SeenBy) (x : ℕ) (line : List ℕ) → sum_by (λ s. calls_by s.worker (x ∷ line)) shares ≡ hits shares x + sum_by (λ s. calls_by s.worker line) shares
one_more [] x line = refl
one_more (s ∷ shares) x line =
    let rest = one_more shares x line in
    let left = sum_by-cons (λ (s : SeenBy). calls_by s.worker (x ∷ line)) s shares in
    let right = sum_by-cons (λ (s : SeenBy). calls_by s.worker line) s shares in
    let step : calls_by s.worker (x ∷ line) + sum_by (λ (s : SeenBy). calls_by s.worker (x ∷ line)) shares ≡ (cond (x == s.worker) 1 0 + hits shares x) + (calls_by s.worker line + sum_by (λ (s : SeenBy). calls_by s.worker line) shares) =
    elim (x == s.worker) as (λ b. length (cond b (x ∷ filter (λ y. y == s.worker) line) (filter (λ y. y == s.worker) line)) + sum_by (λ (s : SeenBy). calls_by s.worker (x ∷ line)) shares ≡ (cond b 1 0 + hits shares x) + (calls_by s.worker line + sum_by (λ (s : SeenBy). calls_by s.worker line) shares)) [
      | true ↦ omega (arith, rest)
      | false ↦ omega (arith, rest)
    ] in
    left ∙ (step ∙ ap (λ n. (cond (x == s.worker) 1 0 + hits shares x) + n) (sym right))

zeros : (shares : List SeenBy) → sum_by (λ s. calls_by s.worker []) shares ≡ 0
zeros [] = refl
zeros (s ∷ shares) = let r = zeros shares in let e = sum_by-cons (λ (s : SeenBy). calls_by s.worker []) s shares in omega (arith, r, e)

whole : (shares : List SeenBy) (line : List ℕ) → AreApart shares → sum_by (λ s. calls_by s.worker line) shares ≤ length line
whole shares [] a = let z = zeros shares in omega (arith, z)
whole shares (x ∷ line) a = let o = once shares x a in let m = one_more shares x line in let r = whole shares line a in omega (arith, o, m, r)

fronts : (line : List ℕ) (shares : List SeenBy) → BeginAll line shares → sum_by (λ s. calls_by s.worker s.calls) shares ≤ sum_by (λ s. calls_by s.worker line) shares
fronts line [] of = omega arith
fronts line (s ∷ shares) of = let m = more s.worker s.calls line of.0 in let r = fronts line shares of.1 in let a = sum_by-cons (λ (s : SeenBy). calls_by s.worker s.calls) s shares in let b = sum_by-cons (λ (s : SeenBy). calls_by s.worker line) s shares in omega (arith, m, r, a, b)

pub shares_fit : (line : List ℕ) (shares : List SeenBy) → AreApart shares → BeginAll line shares → sum_of_shares shares ≤ length line
shares_fit line shares a of = let f = fronts line shares of in let w = whole shares line a in omega (arith, f, w)
