-- What the log that grows has after one more commit.
use Rattle.std.proofs.Common.{◌≡◌, ℕ, ◌≤◌, ◌<◌, List, [], ◌∷◌, ◌++◌, Bool, cond, refl, ap}
use Rattle.std.proofs.lemmas.Bool.{lt-ltb, le-ltb}
use Rattle.doc_types.specs.Commits.{Entry}
use Rattle.doc_types.specs.Snapshots.{SnapshotValue}
use Rattle.step_history.specs.History.{Step, Commit, Reshape}
use Rattle.store_steps.specs.Batches.{Batch, above, batch_of}
use Rattle.store_steps.specs.Grown.{grown, through_at}

grown_then : (first : List Batch) (xs ys : List Step) → grown first (xs ++ ys) ≡ grown (grown first xs) ys
grown_then first [] ys = refl
grown_then first (Commit entry s ∷ xs) ys = grown_then (first ++ batch_of entry ∷ []) xs ys
grown_then first (Reshape job front s ∷ xs) ys = grown_then [] xs ys

-- its batch comes last
pub grown_commit : (first : List Batch) (steps : List Step) (entry : Entry) (snapshot : SnapshotValue) → grown first (steps ++ Commit entry snapshot ∷ []) ≡ grown first steps ++ batch_of entry ∷ []
grown_commit first steps entry snapshot = grown_then first steps (Commit entry snapshot ∷ [])

through_then : (through : ℕ) (xs ys : List Step) → through_at through (xs ++ ys) ≡ through_at (through_at through xs) ys
through_then through [] ys = refl
through_then through (Commit entry s ∷ xs) ys = through_then through xs ys
through_then through (Reshape job front s ∷ xs) ys = through_then front xs ys

-- what the chunks have stays
pub through_commit : (through : ℕ) (steps : List Step) (entry : Entry) (snapshot : SnapshotValue) → through_at through (steps ++ Commit entry snapshot ∷ []) ≡ through_at through steps
through_commit through steps entry snapshot = through_then through steps (Commit entry snapshot ∷ [])

-- ---- batches above a number

pub one_above : (t : ℕ) (b : Batch) (bs : List Batch) → t < b.number → above t (b ∷ bs) ≡ b ∷ above t bs
one_above t b bs lt = ap (λ (c : Bool). cond c (b ∷ above t bs) (above t bs)) (lt-ltb t b.number lt)

pub one_below : (t : ℕ) (b : Batch) (bs : List Batch) → b.number ≤ t → above t (b ∷ bs) ≡ above t bs
one_below t b bs le = ap (λ (c : Bool). cond c (b ∷ above t bs) (above t bs)) (le-ltb t b.number le)
