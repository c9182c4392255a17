-- Grown: what the log that grows has after some steps. A job puts into chunks what was there when it began, and begins a new log.
use Rattle.std.specs.Prelude.{◌≡◌, ◌≤◌, ℕ, List, [], ◌∷◌, ◌++◌, Some}
use Rattle.std.specs.FinMap as finite
use Rattle.doc_types.specs.declared.documents.DocRow.{DocRow}
use Rattle.doc_types.specs.Rows.{Rows}
use Rattle.step_history.specs.History.{Step, Commit, Reshape}
use Rattle.store_steps.specs.Batches.{Batch, batch_of}

-- the batches of the log that grows after the steps, where it had these before
abbrev pub grown : List Batch → List Step → List Batch
grown batches [] = batches
grown batches (Commit entry snapshot ∷ steps) = grown (batches ++ batch_of entry ∷ []) steps
grown batches (Reshape job front snapshot ∷ steps) = grown [] steps

-- the last commit that the chunks have after the steps, where it was this one before
abbrev pub through_at : ℕ → List Step → ℕ
through_at through [] = through
through_at through (Commit entry snapshot ∷ steps) = through_at through steps
through_at through (Reshape job front snapshot ∷ steps) = through_at front steps

-- What a history begins with: the batches of the log that grows, and the last commit that the chunks have.
pub record Start : Type 0 where
  pub batches : List Batch
  pub through : ℕ

-- No row is of a later commit.
abbrev pub AreBorn : Rows → ℕ → Type 0
AreBorn rows number = (id : ℕ) (row : DocRow) → finite.get rows id ≡ Some row → row.born ≤ number
