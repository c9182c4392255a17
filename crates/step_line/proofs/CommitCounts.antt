-- The counts of workers' commits.
use Rattle.std.proofs.Common.{◌≡◌, ℕ, ◌+◌, ◌-◌, ◌≤◌, ◌<◌, ◌^◌, ◌==◌, true, false, cond, length, List, [], ◌∷◌, ◌++◌, refl, sym, ap, ◌∙◌, arith, slice_index_or, set, length-set, ◌⊎◌, inl, inr, ⊎_elim, Option, None, Some, All, subst}
use Rattle.std.proofs.lemmas.List.Elements.{All-push}
use Rattle.std.proofs.lemmas.Bool.Decides.{nat_tests}
use Rattle.std.proofs.lemmas.List.{get_or-set_same, get_or-set_other}
use Rattle.step_history.specs.History.{Step, Commit, Reshape, made_by}
use Rattle.step_history.proofs.Counts.{add_up}
use Rattle.step_book.specs.Tellings.{worker_of}
use Rattle.step_line.specs.Lines.{IsBy}
use Rattle.step_line.specs.steps.Queues.{one_more}

-- no worker has made more commits than there are steps
pub at_most : (worker : ℕ) (steps : List Step) → made_by worker steps ≤ length steps
at_most worker [] = omega arith
at_most worker (Commit entry snapshot ∷ steps) =
    let rest = at_most worker steps in
    let first : made_by worker (Commit entry snapshot ∷ steps) ≡ made_by worker (Commit entry snapshot ∷ []) + made_by worker steps = add_up worker (Commit entry snapshot ∷ []) steps in
    let one : made_by worker (Commit entry snapshot ∷ []) ≤ 1 = elim (entry.worker == worker) as (λ b. length (cond b (entry ∷ []) []) ≤ 1) [ true ↦ omega arith | false ↦ omega arith ] in
    omega (arith, rest, first, one)
at_most worker (Reshape job through snapshot ∷ steps) = let rest = at_most worker steps in omega (arith, rest)

pub eq_or_not : (a b : ℕ) → (a ≡ b) ⊎ (¬ (a ≡ b))
eq_or_not a b = elim (a == b) as (λ t. (a == b) ≡ t → (a ≡ b) ⊎ (¬ (a ≡ b))) [ true ↦ λ h. inl (grind (arith, nat_tests)) | false ↦ λ h. inr (grind (arith, nat_tests)) ] refl

own_one : (worker k : ℕ) (step : Step) → worker_of step ≡ Some worker → k ≡ worker → made_by k (step ∷ []) ≡ 1
own_one worker k (Commit entry next) own e = let is : entry.worker ≡ worker = cc own in let h : (entry.worker == k) ≡ true = grind (arith, nat_tests) in rw h refl
own_one worker k (Reshape job through next) own e = absurd (cc own)

own_none : (worker k : ℕ) (step : Step) → worker_of step ≡ Some worker → ¬ (k ≡ worker) → made_by k (step ∷ []) ≡ 0
own_none worker k (Commit entry next) own e = let is : entry.worker ≡ worker = cc own in let h : (entry.worker == k) ≡ false = grind (arith, nat_tests) in rw h refl
own_none worker k (Reshape job through next) own e = absurd (cc own)

nobody : (k : ℕ) (step : Step) → worker_of step ≡ None → made_by k (step ∷ []) ≡ 0
nobody k (Commit entry next) own = absurd (cc own)
nobody k (Reshape job through next) own = refl

-- one more commit of a worker, and its count
pub counted : (counts : List ℕ) (history : List Step) (step : Step) (worker : ℕ) → 0 < worker → worker ≤ length counts → worker_of step ≡ Some worker
    → ((k : ℕ) → k < length counts → slice_index_or counts k 0 ≡ made_by (k + 1) history)
    → (k : ℕ) → k < length counts → slice_index_or (set counts (worker - 1) (slice_index_or counts (worker - 1) 0 + 1)) k 0 ≡ made_by (k + 1) (history ++ step ∷ [])
counted counts history step worker some low own are k l =
    let all = add_up (k + 1) history (step ∷ []) in
    ⊎_elim
    (λ (e : k ≡ worker - 1).
    let one : made_by (k + 1) (step ∷ []) ≡ 1 = own_one worker (k + 1) step own (omega (arith, e, some)) in
    let was = are k l in
    let now : slice_index_or (set counts (worker - 1) (slice_index_or counts (worker - 1) 0 + 1)) k 0 ≡ slice_index_or counts k 0 + 1 = rw (← e) (get_or-set_same counts k (slice_index_or counts k 0 + 1) 0 l) in
    omega (arith, now, was, one, all))
    (λ (e : ¬ (k ≡ worker - 1)).
    let none : made_by (k + 1) (step ∷ []) ≡ 0 = own_none worker (k + 1) step own (λ h. e (omega (arith, h))) in
    let was = are k l in
    let now : slice_index_or (set counts (worker - 1) (slice_index_or counts (worker - 1) 0 + 1)) k 0 ≡ slice_index_or counts k 0 = get_or-set_other counts (worker - 1) k (slice_index_or counts (worker - 1) 0 + 1) 0 e in
    omega (arith, now, was, none, all))
    (eq_or_not k (worker - 1))

-- a step that is nobody's commit, and the same counts
pub uncounted : (counts : List ℕ) (history : List Step) (step : Step) → worker_of step ≡ None
    → ((k : ℕ) → k < length counts → slice_index_or counts k 0 ≡ made_by (k + 1) history)
    → (k : ℕ) → k < length counts → slice_index_or counts k 0 ≡ made_by (k + 1) (history ++ step ∷ [])
uncounted counts history step own are k l =
    let all = add_up (k + 1) history (step ∷ []) in
    let none = nobody (k + 1) step own in
    let was = are k l in
    omega (arith, all, none, was)

-- a commit's worker is among them
pub is_among : (workers worker : ℕ) (step : Step) → IsBy workers step → worker_of step ≡ Some worker → (0 < worker) × (worker ≤ workers)
is_among workers worker (Commit entry next) by own = let is : entry.worker ≡ worker = cc own in (omega (arith, by.0, is), omega (arith, by.1, is))
is_among workers worker (Reshape job through next) by own = absurd (cc own)

-- there is room for one commit more of each worker
pub has_room : (counts : List ℕ) (history : List Step) (place : ℕ) → length history + 1 < 2 ^ 63 → place < length counts
    → ((k : ℕ) → k < length counts → slice_index_or counts k 0 ≡ made_by (k + 1) history)
    → slice_index_or counts place 0 + 1 < 2 ^ 64
has_room counts history place few l are =
    let was = are place l in
    let most : made_by (place + 1) history ≤ length history = at_most (place + 1) history in
    omega (arith, was, most, few)

-- the counts with the step that waits from now on
pub counts_with : (counts new : List ℕ) (history : List Step) (step : Step) (worker : Option ℕ) → new ≡ one_more worker counts → worker ≡ worker_of step → IsBy (length counts) step
    → ((k : ℕ) → k < length counts → slice_index_or counts k 0 ≡ made_by (k + 1) history)
    → (k : ℕ) → k < length new → slice_index_or new k 0 ≡ made_by (k + 1) (history ++ step ∷ [])
counts_with counts new history step None is whose by are k l =
    rw is (uncounted counts history step (sym whose) are k (rw is at l))
counts_with counts new history step (Some worker) is whose by are k l =
    let among = is_among (length counts) worker step by (sym whose) in
    let long : length new ≡ length counts = ap length is ∙ length-set counts (worker - 1) (slice_index_or counts (worker - 1) 0 + 1) in
    rw is (counted counts history step worker among.0 among.1 (sym whose) are k (omega (arith, l, long)))

long_as : (worker : Option ℕ) (counts : List ℕ) → length (one_more worker counts) ≡ length counts
long_as None counts = refl
long_as (Some worker) counts = length-set counts (worker - 1) (slice_index_or counts (worker - 1) 0 + 1)

-- each commit is by one of the workers, that of the step that waits from now on too
pub all_by_with : (counts new : List ℕ) (history : List Step) (step : Step) (worker : Option ℕ) → new ≡ one_more worker counts → IsBy (length counts) step
    → All (IsBy (length counts)) history
    → All (IsBy (length new)) (history ++ step ∷ [])
all_by_with counts new history step worker is by all =
    subst (λ n. All (IsBy n) (history ++ step ∷ [])) (sym (ap length is ∙ long_as worker counts)) (All-push (IsBy (length counts)) history step all by)
