-- Numbers of a history.
use Rattle.std.proofs.Common.{◌≡◌, ℕ, ◌+◌, ◌≤◌, List, [], ◌∷◌, ◌++◌, Bool, true, false, Some, refl, sym, ap, subst, ◌∙◌, arith, append_assoc, append-nil, length}
use Rattle.doc_types.specs.declared.schema.Schema.{Schema}
use Rattle.doc_types.specs.Commits.{Entry}
use Rattle.doc_types.specs.Rows.{Rows}
use Rattle.doc_types.specs.Snapshots.{SnapshotValue}
use Rattle.step_history.specs.declared.job.Job.{Job}
use Rattle.step_history.specs.History.{Base, Step, Commit, Reshape, CommitFollows, ReshapeFollows, IsGood, commits, last_snapshot}
use Rattle.step_history.proofs.Steps.{front as begins, last_one, shape_up}
use Rattle.store_steps.specs.Grown.{AreBorn, through_at}
use Rattle.std.specs.FinMap as finite
use Rattle.doc_types.specs.Commits.{after_entry}
use Rattle.doc_types.specs.Snapshots.{live}
use Rattle.step_history.specs.History.{puts}
use Rattle.step_history.proofs.Changes.{put_rows, unput}

later : (schema : Schema) (base : Base) (before : List Step) (step : Step) (rest : List Step) → IsGood schema base (before ++ step ∷ rest) → IsGood schema base ((before ++ step ∷ []) ++ rest)
later schema base before step rest good = subst (IsGood schema base) (sym (append_assoc before (step ∷ []) rest)) good

-- each commit raises the number by one
pub numbers_rise : (schema : Schema) (base : Base) (steps more : List Step) → IsGood schema base (steps ++ more) → (last_snapshot base (steps ++ more)).number ≡ (last_snapshot base steps).number + length (commits more)
numbers_rise schema base steps [] good = rw (append-nil steps) (omega arith)
numbers_rise schema base steps (Reshape job through next ∷ more) good =
    let step : Step = Reshape job through next in
    let f : ReshapeFollows base steps job through next = (good.each steps step more refl).0 in
    let on = numbers_rise schema base (steps ++ step ∷ []) more (later schema base steps step more good) in
    let on' : (last_snapshot base (steps ++ step ∷ more)).number ≡ next.number + length (commits more) = rw (last_one base steps step, append_assoc steps (step ∷ []) more) at on in
    omega (arith, on', f.number)
numbers_rise schema base steps (Commit entry next ∷ more) good =
    let step : Step = Commit entry next in
    let f : CommitFollows base steps entry next = (good.each steps step more refl).0 in
    let on = numbers_rise schema base (steps ++ step ∷ []) more (later schema base steps step more good) in
    let on' : (last_snapshot base (steps ++ step ∷ more)).number ≡ next.number + length (commits more) = rw (last_one base steps step, append_assoc steps (step ∷ []) more) at on in
    omega (arith, on', f.number)

through_then : (through : ℕ) (xs ys : List Step) → through_at through (xs ++ ys) ≡ through_at (through_at through xs) ys
through_then through [] ys = refl
through_then through (Commit entry s ∷ xs) ys = through_then through xs ys
through_then through (Reshape job front s ∷ xs) ys = through_then front xs ys

pub through_commit : (through : ℕ) (steps : List Step) (entry : Entry) (snapshot : SnapshotValue) → through_at through (steps ++ Commit entry snapshot ∷ []) ≡ through_at through steps
through_commit through steps entry snapshot = through_then through steps (Commit entry snapshot ∷ [])

pub through_reshape : (through : ℕ) (steps : List Step) (job : Job) (front : ℕ) (snapshot : SnapshotValue) → through_at through (steps ++ Reshape job front snapshot ∷ []) ≡ front
through_reshape through steps job front snapshot = through_then through steps (Reshape job front snapshot ∷ [])

-- numbers don't fall
number_up : (schema : Schema) (base : Base) (steps more : List Step) → IsGood schema base (steps ++ more) → (last_snapshot base steps).number ≤ (last_snapshot base (steps ++ more)).number
number_up schema base steps more good = omega (arith, numbers_rise schema base steps more good)

-- a job began over what was there then: no later commit
front_low : (schema : Schema) (base : Base) (steps : List Step) (job : Job) (front : ℕ) (next : SnapshotValue) → IsGood schema base steps → ReshapeFollows base steps job front next → front ≤ next.number
front_low schema base steps job front next good f =
    let both : IsGood schema base (f.earlier ++ f.since) = subst (IsGood schema base) f.both good in
    let up = number_up schema base f.earlier f.since both in
    let same : (last_snapshot base (f.earlier ++ f.since)).number ≡ (last_snapshot base steps).number = ap (λ (xs : List Step). (last_snapshot base xs).number) (sym f.both) in
    omega (arith, up, same, f.from_number, f.number)

-- what the chunks have is no later than any snapshot is
low_from : (schema : Schema) (base : Base) (through : ℕ) (before rest : List Step) → IsGood schema base (before ++ rest) → through ≤ (last_snapshot base before).number → through_at through rest ≤ (last_snapshot base (before ++ rest)).number
low_from schema base through before [] good le = rw (append-nil before) le
low_from schema base through before (Commit entry next ∷ rest) good le =
    let step : Step = Commit entry next in
    let f : CommitFollows base before entry next = (good.each before step rest refl).0 in
    let here : through ≤ (last_snapshot base (before ++ step ∷ [])).number = rw (last_one base before step) (omega (arith, le, f.number)) in
    subst (λ (xs : List Step). through_at through rest ≤ (last_snapshot base xs).number) (append_assoc before (step ∷ []) rest) (low_from schema base through (before ++ step ∷ []) rest (later schema base before step rest good) here)
low_from schema base through before (Reshape job front next ∷ rest) good le =
    let step : Step = Reshape job front next in
    let f : ReshapeFollows base before job front next = (good.each before step rest refl).0 in
    let fine : IsGood schema base before = begins schema base before (step ∷ rest) good in
    let here : front ≤ (last_snapshot base (before ++ step ∷ [])).number = rw (last_one base before step) (front_low schema base before job front next fine f) in
    subst (λ (xs : List Step). through_at front rest ≤ (last_snapshot base xs).number) (append_assoc before (step ∷ []) rest) (low_from schema base front (before ++ step ∷ []) rest (later schema base before step rest good) here)

pub through_low : (schema : Schema) (base : Base) (through : ℕ) (steps : List Step) → IsGood schema base steps → through ≤ base.opening.number → through_at through steps ≤ (last_snapshot base steps).number
through_low schema base through steps good le = low_from schema base through [] steps good le

-- where only commits came since, it is what it was
pub through_since : (schema : Schema) (base : Base) (through : ℕ) (steps more : List Step) → IsGood schema base (steps ++ more) → (last_snapshot base (steps ++ more)).shape ≡ (last_snapshot base steps).shape → through_at through (steps ++ more) ≡ through_at through steps
through_since schema base through steps [] good same = ap (through_at through) (append-nil steps)
through_since schema base through steps (Reshape job front next ∷ more) good same =
    let step : Step = Reshape job front next in
    let f : ReshapeFollows base steps job front next = (good.each steps step more refl).0 in
    let up : (last_snapshot base (steps ++ step ∷ [])).shape ≤ (last_snapshot base ((steps ++ step ∷ []) ++ more)).shape = shape_up schema base (steps ++ step ∷ []) more (later schema base steps step more good) in
    let up' : next.shape ≤ (last_snapshot base (steps ++ step ∷ more)).shape = rw (last_one base steps step, append_assoc steps (step ∷ []) more) at up in
    absurd (omega (arith, up', same, f.shape))
through_since schema base through steps (Commit entry next ∷ more) good same =
    let step : Step = Commit entry next in
    let assoc : (steps ++ step ∷ []) ++ more ≡ steps ++ step ∷ more = append_assoc steps (step ∷ []) more in
    let f : CommitFollows base steps entry next = (good.each steps step more refl).0 in
    let end : last_snapshot base (steps ++ step ∷ []) ≡ next = last_one base steps step in
    let same' : (last_snapshot base ((steps ++ step ∷ []) ++ more)).shape ≡ (last_snapshot base (steps ++ step ∷ [])).shape = ap (λ (xs : List Step). (last_snapshot base xs).shape) assoc ∙ same ∙ sym f.shape ∙ ap (λ (s : SnapshotValue). s.shape) (sym end) in
    ap (through_at through) (sym assoc) ∙ through_since schema base through (steps ++ step ∷ []) more (later schema base steps step more good) same' ∙ through_commit through steps entry next

-- ---- no row is of a later commit

commit_born : (base : Base) (steps : List Step) (entry : Entry) (next : SnapshotValue) → CommitFollows base steps entry next → AreBorn (live (last_snapshot base steps)) (last_snapshot base steps).number → AreBorn (live next) next.number
commit_born base steps entry next f born id row got =
    let got' : finite.get (after_entry (live (last_snapshot base steps)) entry) id ≡ Some row = subst (λ (m : Rows). finite.get m id ≡ Some row) f.rows got in
    elim (puts entry id) as (λ (b : Bool). puts entry id ≡ b → row.born ≤ next.number) [
      | true ↦ λ hit. let is = put_rows entry.number (live (last_snapshot base steps)) entry.changes id row hit got' in omega (arith, is, f.numbered, f.number)
      | false ↦ λ miss. let was = born id row (unput entry.number (live (last_snapshot base steps)) entry.changes id row miss got') in omega (arith, was, f.number)
    ] refl

born_from : (schema : Schema) (base : Base) (before rest : List Step) → IsGood schema base (before ++ rest) → AreBorn (live (last_snapshot base before)) (last_snapshot base before).number → AreBorn (live (last_snapshot base (before ++ rest))) (last_snapshot base (before ++ rest)).number
born_from schema base before [] good born = rw (append-nil before) born
born_from schema base before (Commit entry next ∷ rest) good born =
    let step : Step = Commit entry next in
    let f : CommitFollows base before entry next = (good.each before step rest refl).0 in
    let here : AreBorn (live (last_snapshot base (before ++ step ∷ []))) (last_snapshot base (before ++ step ∷ [])).number = subst (λ (s : SnapshotValue). AreBorn (live s) s.number) (sym (last_one base before step)) (commit_born base before entry next f born) in
    subst (λ (xs : List Step). AreBorn (live (last_snapshot base xs)) (last_snapshot base xs).number) (append_assoc before (step ∷ []) rest) (born_from schema base (before ++ step ∷ []) rest (later schema base before step rest good) here)
born_from schema base before (Reshape job front next ∷ rest) good born =
    let step : Step = Reshape job front next in
    let f : ReshapeFollows base before job front next = (good.each before step rest refl).0 in
    let now : AreBorn (live next) next.number = λ id row got. let was = born id row (subst (λ (m : Rows). finite.get m id ≡ Some row) f.rows got) in omega (arith, was, f.number) in
    let here : AreBorn (live (last_snapshot base (before ++ step ∷ []))) (last_snapshot base (before ++ step ∷ [])).number = subst (λ (s : SnapshotValue). AreBorn (live s) s.number) (sym (last_one base before step)) now in
    subst (λ (xs : List Step). AreBorn (live (last_snapshot base xs)) (last_snapshot base xs).number) (append_assoc before (step ∷ []) rest) (born_from schema base (before ++ step ∷ []) rest (later schema base before step rest good) here)

pub born_low : (schema : Schema) (base : Base) (steps : List Step) → IsGood schema base steps → AreBorn (live base.opening) base.opening.number → AreBorn (live (last_snapshot base steps)) (last_snapshot base steps).number
born_low schema base steps good born = born_from schema base [] steps good born
