-- what opening answers
pub mod Opens
