-- What good histories count: places, rows, and the numbers of commits.
use Rattle.std.proofs.Common.{◌≡◌, ℕ, ◌+◌, zero, suc, List, [], ◌∷◌, ◌++◌, Bool, true, false, ◌==◌, cond, Some, length, slice_get, refl, sym, ap, subst, ◌∙◌, arith, append_assoc, append-nil, length-append}
use Rattle.std.specs.List.{filter}
use Rattle.std.proofs.lemmas.Bool.Decides.{nat_tests}
use Rattle.std.proofs.lemmas.List.Elements.{filter-append}
use Rattle.doc_types.specs.declared.schema.Schema.{Schema}
use Rattle.doc_types.specs.Commits.{Entry, after}
use Rattle.doc_types.specs.Snapshots.{live}
use Rattle.step_history.specs.History.{Base, Step, Commit, Reshape, CommitFollows, ReshapeFollows, Follows, IsGood, last_snapshot, snapshot_of, commits, commits_by, made_by, place_of}
use Rattle.step_history.proofs.Steps.{last_one}

commits_then : (xs ys : List Step) → commits (xs ++ ys) ≡ commits xs ++ commits ys
commits_then [] ys = refl
commits_then (Commit entry s ∷ xs) ys = ap (λ es. entry ∷ es) (commits_then xs ys)
commits_then (Reshape job through s ∷ xs) ys = commits_then xs ys

pub add_up : (worker : ℕ) (xs ys : List Step) → made_by worker (xs ++ ys) ≡ made_by worker xs + made_by worker ys
add_up worker xs ys =
    ap (λ es. length (filter (λ (e : Entry). e.worker == worker) es)) (commits_then xs ys)
    ∙ ap length (filter-append (λ (e : Entry). e.worker == worker) (commits xs) (commits ys))
    ∙ length-append (filter (λ (e : Entry). e.worker == worker) (commits xs)) (filter (λ (e : Entry). e.worker == worker) (commits ys))

-- a good history, cut one step later
later : (schema : Schema) (base : Base) (before : List Step) (step : Step) (rest : List Step) → IsGood schema base (before ++ step ∷ rest) → IsGood schema base ((before ++ step ∷ []) ++ rest)
later schema base before step rest good = subst (IsGood schema base) (sym (append_assoc before (step ∷ []) rest)) good

one_up : (base : Base) (steps : List Step) (step : Step) → Follows base steps step → place_of (snapshot_of step) ≡ place_of (last_snapshot base steps) + 1
one_up base steps (Commit entry s) f = let n = f.number in let h = f.shape in omega (arith, n, h)
one_up base steps (Reshape job through s) f = let n = f.number in let h = f.shape in omega (arith, n, h)

places_from : (schema : Schema) (base : Base) (before rest : List Step) → IsGood schema base (before ++ rest) → place_of (last_snapshot base (before ++ rest)) ≡ place_of (last_snapshot base before) + length rest
places_from schema base before [] good = rw (append-nil before) (omega arith)
places_from schema base before (step ∷ rest) good =
    let up = one_up base before step (good.each before step rest refl).0 in
    let on = places_from schema base (before ++ step ∷ []) rest (later schema base before step rest good) in
    let on' : place_of (last_snapshot base (before ++ step ∷ rest)) ≡ place_of (snapshot_of step) + length rest = rw (last_one base before step, append_assoc before (step ∷ []) rest) at on in
    omega (arith, up, on')

pub places : (schema : Schema) (base : Base) (steps : List Step) → IsGood schema base steps → place_of (last_snapshot base steps) ≡ place_of base.opening + length steps
places schema base steps good = places_from schema base [] steps good

rows_from : (schema : Schema) (base : Base) (before rest : List Step) → IsGood schema base (before ++ rest) → live (last_snapshot base (before ++ rest)) ≡ after (live (last_snapshot base before)) (commits rest)
rows_from schema base before [] good = rw (append-nil before) refl
rows_from schema base before (Commit entry next ∷ rest) good =
    let step : Step = Commit entry next in
    let f : CommitFollows base before entry next = (good.each before step rest refl).0 in
    let on = rows_from schema base (before ++ step ∷ []) rest (later schema base before step rest good) in
    let on' : live (last_snapshot base (before ++ step ∷ rest)) ≡ after (live next) (commits rest) = rw (last_one base before step, append_assoc before (step ∷ []) rest) at on in
    on' ∙ ap (λ rows. after rows (commits rest)) f.rows
rows_from schema base before (Reshape job through next ∷ rest) good =
    let step : Step = Reshape job through next in
    let f : ReshapeFollows base before job through next = (good.each before step rest refl).0 in
    let on = rows_from schema base (before ++ step ∷ []) rest (later schema base before step rest good) in
    let on' : live (last_snapshot base (before ++ step ∷ rest)) ≡ after (live next) (commits rest) = rw (last_one base before step, append_assoc before (step ∷ []) rest) at on in
    on' ∙ ap (λ rows. after rows (commits rest)) f.rows

pub rows : (schema : Schema) (base : Base) (steps : List Step) → IsGood schema base steps → live (last_snapshot base steps) ≡ after (live base.opening) (commits steps)
rows schema base steps good = rows_from schema base [] steps good

numbers_from : (schema : Schema) (base : Base) (before rest : List Step) (k : ℕ) (entry : Entry) → IsGood schema base (before ++ rest) → slice_get (commits rest) k ≡ Some entry → entry.number ≡ (last_snapshot base before).number + (k + 1)
numbers_from schema base before [] k entry good h = absurd cc
numbers_from schema base before (Commit e next ∷ rest) zero entry good h =
    let f : CommitFollows base before e next = (good.each before (Commit e next) rest refl).0 in
    let is : e ≡ entry = cc h in
    sym (ap (λ (e : Entry). e.number) is) ∙ f.numbered
numbers_from schema base before (Commit e next ∷ rest) (suc k) entry good h =
    let step : Step = Commit e next in
    let f : CommitFollows base before e next = (good.each before step rest refl).0 in
    let on = numbers_from schema base (before ++ step ∷ []) rest k entry (later schema base before step rest good) h in
    let on' : entry.number ≡ next.number + (k + 1) = rw (last_one base before step) at on in
    let n = f.number in
    omega (arith, on', n)
numbers_from schema base before (Reshape job through next ∷ rest) k entry good h =
    let step : Step = Reshape job through next in
    let f : ReshapeFollows base before job through next = (good.each before step rest refl).0 in
    let on = numbers_from schema base (before ++ step ∷ []) rest k entry (later schema base before step rest good) h in
    let on' : entry.number ≡ next.number + (k + 1) = rw (last_one base before step) at on in
    let n = f.number in
    omega (arith, on', n)

pub numbers : (schema : Schema) (base : Base) (steps : List Step) (k : ℕ) (entry : Entry) → IsGood schema base steps → slice_get (commits steps) k ≡ Some entry → entry.number ≡ base.opening.number + (k + 1)
numbers schema base steps k entry good h = numbers_from schema base [] steps k entry good h

same : (a b : ℕ) → (a == b) ≡ true → a ≡ b
same a b h = grind (arith, nat_tests)

-- an entry of the worker, or of another one, before the rest of its entries
first_or_later : (worker k : ℕ) (before : List Step) (e entry : Entry) (rest : List Entry)
    → e.seq ≡ made_by e.worker before + 1
    → (b : Bool) → (e.worker == worker) ≡ b
    → ((j : ℕ) → slice_get rest j ≡ Some entry → entry.seq ≡ made_by worker before + length (cond b (e ∷ []) []) + (j + 1))
    → slice_get (cond b (e ∷ rest) rest) k ≡ Some entry → entry.seq ≡ made_by worker before + (k + 1)
first_or_later worker zero before e entry rest seq true is on h =
    let here : e ≡ entry = cc h in
    sym (ap (λ (e : Entry). e.seq) here) ∙ seq ∙ ap (λ w. made_by w before + 1) (same e.worker worker is)
first_or_later worker (suc k) before e entry rest seq true is on h = let r = on k h in omega (arith, r)
first_or_later worker k before e entry rest seq false is on h = let r = on k h in omega (arith, r)

seqs_from : (schema : Schema) (base : Base) (worker : ℕ) (before rest : List Step) (k : ℕ) (entry : Entry) → IsGood schema base (before ++ rest) → slice_get (commits_by worker rest) k ≡ Some entry → entry.seq ≡ made_by worker before + (k + 1)
seqs_from schema base worker before [] k entry good h = absurd cc
seqs_from schema base worker before (Commit e next ∷ rest) k entry good h =
    let step : Step = Commit e next in
    let f : CommitFollows base before e next = (good.each before step rest refl).0 in
    first_or_later worker k before e entry (commits_by worker rest) f.seq (e.worker == worker) refl
    (λ j found. rw (← add_up worker before (step ∷ [])) (seqs_from schema base worker (before ++ step ∷ []) rest j entry (later schema base before step rest good) found)) h
seqs_from schema base worker before (Reshape job through next ∷ rest) k entry good h =
    let step : Step = Reshape job through next in
    let on = seqs_from schema base worker (before ++ step ∷ []) rest k entry (later schema base before step rest good) h in
    let none : made_by worker (before ++ step ∷ []) ≡ made_by worker before + 0 = add_up worker before (step ∷ []) in
    omega (arith, on, none)

pub seqs : (schema : Schema) (base : Base) (steps : List Step) (worker k : ℕ) (entry : Entry) → IsGood schema base steps → slice_get (commits_by worker steps) k ≡ Some entry → entry.seq ≡ k + 1
seqs schema base steps worker k entry good h = let e = seqs_from schema base worker [] steps k entry good h in omega (arith, e)
