-- How many entries of a history are a worker's, along its token.
use Rattle.std.proofs.Common.{◌≡◌, ℕ, ◌+◌, ◌≤◌, ◌==◌, true, List, [], ◌∷◌, ◌++◌, length, refl, sym, ap, ◌∙◌, arith, length-append}
use Rattle.std.specs.List.{filter}
use Rattle.std.proofs.lemmas.Bool.{eq-eqb}
use Rattle.std.proofs.lemmas.List.Elements.{filter-append}
use mathlib.Core.List.{IsPrefix}
use Rattle.doc_types.specs.Commits.{Entry}
use Rattle.doc_types.specs.Snapshots.{SnapshotValue}
use Rattle.step_history.specs.History.{Step, Commit, Reshape, commits, commits_by, made_by}

pub commits_then : (xs ys : List Step) → commits (xs ++ ys) ≡ commits xs ++ commits ys
commits_then [] ys = refl
commits_then (Commit entry s ∷ xs) ys = ap (λ (es : List Entry). entry ∷ es) (commits_then xs ys)
commits_then (Reshape job through s ∷ xs) ys = commits_then xs ys

pub by_then : (worker : ℕ) (xs ys : List Step) → commits_by worker (xs ++ ys) ≡ commits_by worker xs ++ commits_by worker ys
by_then worker xs ys = ap (λ (es : List Entry). filter (λ (e : Entry). e.worker == worker) es) (commits_then xs ys) ∙ filter-append (λ (e : Entry). e.worker == worker) (commits xs) (commits ys)

-- a history begins with the worker's entries of each beginning
pub by_prefix : (worker : ℕ) (xs ys : List Step) → IsPrefix xs ys → IsPrefix (commits_by worker xs) (commits_by worker ys)
by_prefix worker xs ys begins = (commits_by worker begins.0, sym (by_then worker xs begins.0) ∙ ap (λ (s : List Step). commits_by worker s) begins.1)

pub made_up : (worker : ℕ) (xs ys : List Step) → IsPrefix xs ys → made_by worker xs ≤ made_by worker ys
made_up worker xs ys begins =
    let own = by_prefix worker xs ys begins in
    let sum : length (commits_by worker ys) ≡ length (commits_by worker xs) + length own.0 = ap length (sym own.1) ∙ length-append (commits_by worker xs) own.0 in
    omega (arith, sum)

-- one entry more of the worker
pub by_one : (worker : ℕ) (earlier : List Step) (entry : Entry) (snapshot : SnapshotValue) → entry.worker ≡ worker → commits_by worker (earlier ++ Commit entry snapshot ∷ []) ≡ commits_by worker earlier ++ entry ∷ []
by_one worker earlier entry snapshot own =
    let here : (entry.worker == worker) ≡ true = eq-eqb entry.worker worker own in
    let one : commits_by worker (Commit entry snapshot ∷ []) ≡ entry ∷ [] = rw here refl in
    by_then worker earlier (Commit entry snapshot ∷ []) ∙ ap (λ (es : List Entry). commits_by worker earlier ++ es) one

pub made_one : (worker : ℕ) (earlier : List Step) (entry : Entry) (snapshot : SnapshotValue) → entry.worker ≡ worker → made_by worker (earlier ++ Commit entry snapshot ∷ []) ≡ made_by worker earlier + 1
made_one worker earlier entry snapshot own = ap length (by_one worker earlier entry snapshot own) ∙ length-append (commits_by worker earlier) (entry ∷ [])

-- of one list cut twice at one length, what is left is the same
pub same_rest : {A : Type 0} (xs ys left right : List A) → xs ++ left ≡ ys ++ right → length xs ≡ length ys → left ≡ right
same_rest [] [] left right same long = same
same_rest [] (y ∷ ys) left right same long = absurd (omega (arith, long))
same_rest (x ∷ xs) [] left right same long = absurd (omega (arith, long))
same_rest (x ∷ xs) (y ∷ ys) left right same long = same_rest xs ys left right (cc same) (omega (arith, long))
