-- The counts of workers' calls.
use Rattle.std.proofs.Common.{◌≡◌, ℕ, ◌+◌, ◌-◌, ◌≤◌, ◌<◌, ◌^◌, ◌==◌, true, false, cond, length, List, [], ◌∷◌, ◌++◌, refl, sym, ap, ◌∙◌, arith, slice_index_or, set, length-set, length-append, ⊎_elim}
use Rattle.std.specs.List.{filter}
use Rattle.std.proofs.lemmas.Bool.Decides.{nat_tests}
use Rattle.std.proofs.lemmas.List.{get_or-set_same, get_or-set_other}
use Rattle.std.proofs.lemmas.List.Elements.{filter-append}
use Rattle.step_book.specs.Shares.{calls_by}
use Rattle.step_line.specs.steps.Callers.{AreCallers}
use Rattle.step_line.proofs.CommitCounts.{eq_or_not}

-- no worker has more calls than there are
at_most : (worker : ℕ) (calls : List ℕ) → calls_by worker calls ≤ length calls
at_most worker [] = omega arith
at_most worker (caller ∷ calls) =
    let rest : length (filter (λ x. x == worker) calls) ≤ length calls = at_most worker calls in
    elim (caller == worker) as (λ b. length (cond b (caller ∷ filter (λ x. x == worker) calls) (filter (λ x. x == worker) calls)) ≤ length (caller ∷ calls)) [ true ↦ omega (arith, rest) | false ↦ omega (arith, rest) ]

own_one : (worker k : ℕ) → k ≡ worker → calls_by k (worker ∷ []) ≡ 1
own_one worker k e = let h : (worker == k) ≡ true = grind (arith, nat_tests) in rw h refl

own_none : (worker k : ℕ) → ¬ (k ≡ worker) → calls_by k (worker ∷ []) ≡ 0
own_none worker k e = let h : (worker == k) ≡ false = grind (arith, nat_tests) in rw h refl

one_call : (k worker : ℕ) (calls : List ℕ) → calls_by k (calls ++ worker ∷ []) ≡ calls_by k calls + calls_by k (worker ∷ [])
one_call k worker calls =
    ap length (filter-append (λ x. x == k) calls (worker ∷ [])) ∙ length-append (filter (λ x. x == k) calls) (filter (λ x. x == k) (worker ∷ []))

counted : (counts calls : List ℕ) (worker : ℕ) → 0 < worker → worker ≤ length counts → AreCallers counts calls
    → (k : ℕ) → k < length counts → slice_index_or (set counts (worker - 1) (slice_index_or counts (worker - 1) 0 + 1)) k 0 ≡ calls_by (k + 1) (calls ++ worker ∷ [])
counted counts calls worker some low are k l =
    let all = one_call (k + 1) worker calls in
    ⊎_elim
    (λ (e : k ≡ worker - 1).
    let one : calls_by (k + 1) (worker ∷ []) ≡ 1 = own_one worker (k + 1) (omega (arith, e, some)) in
    let was = are k l in
    let now : slice_index_or (set counts (worker - 1) (slice_index_or counts (worker - 1) 0 + 1)) k 0 ≡ slice_index_or counts k 0 + 1 = rw (← e) (get_or-set_same counts k (slice_index_or counts k 0 + 1) 0 l) in
    omega (arith, now, was, one, all))
    (λ (e : ¬ (k ≡ worker - 1)).
    let none : calls_by (k + 1) (worker ∷ []) ≡ 0 = own_none worker (k + 1) (λ h. e (omega (arith, h))) in
    let was = are k l in
    let now : slice_index_or (set counts (worker - 1) (slice_index_or counts (worker - 1) 0 + 1)) k 0 ≡ slice_index_or counts k 0 = get_or-set_other counts (worker - 1) k (slice_index_or counts (worker - 1) 0 + 1) 0 e in
    omega (arith, now, was, none, all))
    (eq_or_not k (worker - 1))

-- the counts with one call more
pub callers_with : (counts new calls : List ℕ) (worker : ℕ) → 0 < worker → worker ≤ length counts → new ≡ set counts (worker - 1) (slice_index_or counts (worker - 1) 0 + 1) → AreCallers counts calls
    → AreCallers new (calls ++ worker ∷ [])
callers_with counts new calls worker some low is are k l =
    let long : length new ≡ length counts = ap length is ∙ length-set counts (worker - 1) (slice_index_or counts (worker - 1) 0 + 1) in
    rw is (counted counts calls worker some low are k (omega (arith, l, long)))

-- there is room for one call more of each worker
pub room_for : (counts calls : List ℕ) (place : ℕ) → length calls + 1 < 2 ^ 63 → place < length counts → AreCallers counts calls → slice_index_or counts place 0 + 1 < 2 ^ 64
room_for counts calls place few l are =
    let was = are place l in
    let most : calls_by (place + 1) calls ≤ length calls = at_most (place + 1) calls in
    omega (arith, was, most, few)
