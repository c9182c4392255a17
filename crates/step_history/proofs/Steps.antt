-- Steps of good histories.
use Rattle.std.proofs.Common.{◌≡◌, ◌≤◌, List, [], ◌∷◌, ◌++◌, refl, sym, ap, subst, ◌∙◌, arith, append_assoc, append-nil}
use Rattle.doc_types.specs.declared.schema.Schema.{Schema}
use Rattle.doc_types.specs.Snapshots.{SnapshotValue}
use Rattle.step_history.specs.History.{Step, Commit, Reshape, Base, snapshot_of, after_steps, last_snapshot, Follows, AreOf, IsGood}

pub front : (schema : Schema) (base : Base) (steps more : List Step) → IsGood schema base (steps ++ more) → IsGood schema base steps
front schema base steps more good = record {
  base_of = good.base_of;
  each = λ before step rest e. good.each before step (rest ++ more) (ap (λ xs. xs ++ more) e ∙ append_assoc before (step ∷ rest) more);
}

-- where a list with one more element is cut at an element: at the last one, or before it
pub data Cut (xs : List Step) (x : Step) (before : List Step) (step : Step) : Type 0 where
  Last : before ≡ xs → step ≡ x → Cut xs x before step
  Inner : (rest : List Step) → xs ≡ before ++ step ∷ rest → Cut xs x before step

onward : (y : Step) (ys : List Step) (x : Step) (before : List Step) (step : Step) → Cut ys x before step → Cut (y ∷ ys) x (y ∷ before) step
onward y ys x before step (Last b s) = Last (ap (λ zs. y ∷ zs) b) s
onward y ys x before step (Inner rest e) = Inner rest (ap (λ zs. y ∷ zs) e)

some_before : (ys : List Step) (x : Step) (zs : List Step) (step : Step) (rest : List Step) → [] ≡ zs ++ step ∷ rest → ⊥
some_before ys x [] step rest e = cc
some_before ys x (z ∷ zs) step rest e = cc

pub cut : (xs : List Step) (x : Step) (before : List Step) (step : Step) (rest : List Step) → xs ++ x ∷ [] ≡ before ++ step ∷ rest → Cut xs x before step
cut [] x [] step rest e = Last refl (cc e)
cut [] x (b ∷ before) step rest e = absurd (some_before [] x before step rest (cc e))
cut (y ∷ ys) x [] step rest e = Inner ys (cc e)
cut (y ∷ ys) x (b ∷ before) step rest e =
    let here : y ≡ b = cc e in
    subst (λ b. Cut (y ∷ ys) x (b ∷ before) step) here (onward y ys x before step (cut ys x before step rest (cc e)))

pub grows : (schema : Schema) (base : Base) (steps : List Step) (step : Step) → IsGood schema base steps → Follows base steps step → AreOf schema (snapshot_of step) → IsGood schema base (steps ++ step ∷ [])
grows schema base steps step good follows of = record {
  base_of = good.base_of;
  each = λ before s rest e. elim (cut steps step before s rest e) [
    | Last b is ↦ rw (b, is) (follows, of)
    | Inner rest' e' ↦ good.each before s rest' e'
  ];
}

-- the snapshot after some steps and then others
pub steps_then : (snapshot : SnapshotValue) (xs ys : List Step) → after_steps snapshot (xs ++ ys) ≡ after_steps (after_steps snapshot xs) ys
steps_then snapshot [] ys = refl
steps_then snapshot (x ∷ xs) ys = steps_then (snapshot_of x) xs ys

-- the snapshot after one step more
pub last_one : (base : Base) (xs : List Step) (x : Step) → last_snapshot base (xs ++ x ∷ []) ≡ snapshot_of x
last_one base xs x = steps_then base.opening xs (x ∷ [])

follows_shape : (base : Base) (steps : List Step) (step : Step) → Follows base steps step → (last_snapshot base steps).shape ≤ (snapshot_of step).shape
follows_shape base steps (Commit entry next) f = let s = f.shape in omega (arith, s)
follows_shape base steps (Reshape job through next) f = let s = f.shape in omega (arith, s)

-- the shape never falls
pub shape_up : (schema : Schema) (base : Base) (steps more : List Step) → IsGood schema base (steps ++ more) → (last_snapshot base steps).shape ≤ (last_snapshot base (steps ++ more)).shape
shape_up schema base steps [] good = rw (append-nil steps) (omega arith)
shape_up schema base steps (step ∷ more) good =
    let assoc : (steps ++ step ∷ []) ++ more ≡ steps ++ step ∷ more = append_assoc steps (step ∷ []) more in
    let here = follows_shape base steps step (good.each steps step more refl).0 in
    let on : (last_snapshot base (steps ++ step ∷ [])).shape ≤ (last_snapshot base ((steps ++ step ∷ []) ++ more)).shape = shape_up schema base (steps ++ step ∷ []) more (subst (IsGood schema base) (sym assoc) good) in
    let on' : (snapshot_of step).shape ≤ (last_snapshot base (steps ++ step ∷ more)).shape = rw (last_one base steps step, assoc) at on in
    omega (arith, here, on')
