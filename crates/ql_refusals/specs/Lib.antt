-- what a statement is refused by, and the texts that say so
pub mod Refusals
