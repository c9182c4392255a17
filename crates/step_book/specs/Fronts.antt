-- Fronts: beginnings of the history of an index.
use Rattle.std.specs.Prelude.{ℕ, List}
use Rattle.step_history.specs.History.{Step}

-- Which index it is of, by its number, and its steps.
pub record FrontValue : Type 0 where
  pub index : ℕ
  pub steps : List Step
