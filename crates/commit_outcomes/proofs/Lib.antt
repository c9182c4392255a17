-- one outcome of a commit
pub mod OneOutcome
