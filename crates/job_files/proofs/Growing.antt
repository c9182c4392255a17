-- What the log that grows has since a job began.
use Rattle.std.proofs.Common.{◌≡◌, ℕ, ◌+◌, ◌≤◌, ◌<◌, List, [], ◌∷◌, ◌++◌, map, refl, sym, ap, subst, ◌∙◌, arith, append_assoc, append-nil, length}
use Rattle.std.specs.List.{fold}
use Rattle.doc_types.specs.declared.schema.Schema.{Schema}
use Rattle.doc_types.specs.Commits.{Entry, after}
use Rattle.doc_types.specs.Rows.{Rows}
use Rattle.doc_types.specs.Snapshots.{SnapshotValue}
use Rattle.step_history.specs.declared.job.Job.{Job}
use Rattle.step_history.specs.History.{Base, Step, Commit, Reshape, CommitFollows, ReshapeFollows, IsGood, commits, last_snapshot}
use Rattle.step_history.proofs.Steps.{last_one, shape_up}
use Rattle.store_steps.specs.Batches.{AreFrom, Batch, above, after_batch, batch_of}
use Rattle.store_steps.specs.Grown.{grown, through_at}
use Rattle.store_steps.proofs.Growing.{grown_commit, one_above, one_below}

grown_then : (first : List Batch) (xs ys : List Step) → grown first (xs ++ ys) ≡ grown (grown first xs) ys
grown_then first [] ys = refl
grown_then first (Commit entry s ∷ xs) ys = grown_then (first ++ batch_of entry ∷ []) xs ys
grown_then first (Reshape job through s ∷ xs) ys = grown_then [] xs ys

pub grown_reshape : (first : List Batch) (steps : List Step) (job : Job) (through : ℕ) (snapshot : SnapshotValue) → grown first (steps ++ Reshape job through snapshot ∷ []) ≡ []
grown_reshape first steps job through snapshot = grown_then first steps (Reshape job through snapshot ∷ [])

later : (schema : Schema) (base : Base) (before : List Step) (step : Step) (rest : List Step) → IsGood schema base (before ++ step ∷ rest) → IsGood schema base ((before ++ step ∷ []) ++ rest)
later schema base before step rest good = subst (IsGood schema base) (sym (append_assoc before (step ∷ []) rest)) good

-- Where only commits came since, their batches are the last ones.
pub grown_since : (schema : Schema) (base : Base) (first : List Batch) (steps more : List Step) → IsGood schema base (steps ++ more) → (last_snapshot base (steps ++ more)).shape ≡ (last_snapshot base steps).shape → grown first (steps ++ more) ≡ grown first steps ++ map batch_of (commits more)
grown_since schema base first steps [] good same = ap (grown first) (append-nil steps) ∙ sym (append-nil (grown first steps))
grown_since schema base first steps (Reshape job through next ∷ more) good same =
    let step : Step = Reshape job through next in
    let f : ReshapeFollows base steps job through next = (good.each steps step more refl).0 in
    let up : (last_snapshot base (steps ++ step ∷ [])).shape ≤ (last_snapshot base ((steps ++ step ∷ []) ++ more)).shape = shape_up schema base (steps ++ step ∷ []) more (later schema base steps step more good) in
    let up' : next.shape ≤ (last_snapshot base (steps ++ step ∷ more)).shape = rw (last_one base steps step, append_assoc steps (step ∷ []) more) at up in
    absurd (omega (arith, up', same, f.shape))
grown_since schema base first steps (Commit entry next ∷ more) good same =
    let step : Step = Commit entry next in
    let assoc : (steps ++ step ∷ []) ++ more ≡ steps ++ step ∷ more = append_assoc steps (step ∷ []) more in
    let f : CommitFollows base steps entry next = (good.each steps step more refl).0 in
    let end : last_snapshot base (steps ++ step ∷ []) ≡ next = last_one base steps step in
    let same' : (last_snapshot base ((steps ++ step ∷ []) ++ more)).shape ≡ (last_snapshot base (steps ++ step ∷ [])).shape = ap (λ (xs : List Step). (last_snapshot base xs).shape) assoc ∙ same ∙ sym f.shape ∙ ap (λ (s : SnapshotValue). s.shape) (sym end) in
    ap (grown first) (sym assoc)
    ∙ grown_since schema base first (steps ++ step ∷ []) more (later schema base steps step more good) same'
    ∙ ap (λ (l : List Batch). l ++ map batch_of (commits more)) (grown_commit first steps entry next)
    ∙ append_assoc (grown first steps) (batch_of entry ∷ []) (map batch_of (commits more))

-- each commit raises the number by one
pub numbers_rise : (schema : Schema) (base : Base) (steps more : List Step) → IsGood schema base (steps ++ more) → (last_snapshot base (steps ++ more)).number ≡ (last_snapshot base steps).number + length (commits more)
numbers_rise schema base steps [] good = rw (append-nil steps) (omega arith)
numbers_rise schema base steps (Reshape job through next ∷ more) good =
    let step : Step = Reshape job through next in
    let f : ReshapeFollows base steps job through next = (good.each steps step more refl).0 in
    let on = numbers_rise schema base (steps ++ step ∷ []) more (later schema base steps step more good) in
    let on' : (last_snapshot base (steps ++ step ∷ more)).number ≡ next.number + length (commits more) = rw (last_one base steps step, append_assoc steps (step ∷ []) more) at on in
    omega (arith, on', f.number)
numbers_rise schema base steps (Commit entry next ∷ more) good =
    let step : Step = Commit entry next in
    let f : CommitFollows base steps entry next = (good.each steps step more refl).0 in
    let on = numbers_rise schema base (steps ++ step ∷ []) more (later schema base steps step more good) in
    let on' : (last_snapshot base (steps ++ step ∷ more)).number ≡ next.number + length (commits more) = rw (last_one base steps step, append_assoc steps (step ∷ []) more) at on in
    omega (arith, on', f.number)

-- ---- batches above a number

all_above : (t n : ℕ) (bs : List Batch) → t < n → AreFrom n bs → above t bs ≡ bs
all_above t n [] lt from = refl
all_above t n (b ∷ bs) lt from = one_above t b bs (omega (arith, lt, from.0)) ∙ ap (λ (l : List Batch). b ∷ l) (all_above t (n + 1) bs (omega (arith, lt)) from.1)

pub above_behind : (t n : ℕ) (xs ys : List Batch) → AreFrom n (xs ++ ys) → n + length xs ≡ t + 1 → above t (xs ++ ys) ≡ ys
above_behind t n [] ys from is = all_above t n ys (omega (arith, is)) from
above_behind t n (b ∷ xs) ys from is = one_below t b (xs ++ ys) (omega (arith, is, from.0)) ∙ above_behind t (n + 1) xs ys from.1 (omega (arith, is))

pub last_from : (t : ℕ) (bs : List Batch) → AreFrom (t + 1) bs → fold (λ (m : ℕ) (b : Batch). b.number) t bs ≡ t + length bs
last_from t [] from = omega arith
last_from t (b ∷ bs) from =
    let here : b.number ≡ t + 1 = from.0 in
    let rest : AreFrom (b.number + 1) bs = subst (λ (n : ℕ). AreFrom (n + 1) bs) (sym here) from.1 in
    let on = last_from b.number bs rest in
    omega (arith, on, here)

pub rows_after : (rows : Rows) (entries : List Entry) → fold after_batch rows (map batch_of entries) ≡ after rows entries
rows_after rows [] = refl
rows_after rows (entry ∷ entries) = rows_after (after_batch rows (batch_of entry)) entries

-- ---- the last commit that the chunks have

through_then : (through : ℕ) (xs ys : List Step) → through_at through (xs ++ ys) ≡ through_at (through_at through xs) ys
through_then through [] ys = refl
through_then through (Commit entry s ∷ xs) ys = through_then through xs ys
through_then through (Reshape job front s ∷ xs) ys = through_then front xs ys

pub through_reshape : (through : ℕ) (steps : List Step) (job : Job) (front : ℕ) (snapshot : SnapshotValue) → through_at through (steps ++ Reshape job front snapshot ∷ []) ≡ front
through_reshape through steps job front snapshot = through_then through steps (Reshape job front snapshot ∷ [])
