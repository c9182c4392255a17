-- what the words after the program's name ask for
pub mod Asking
-- the word that a text is folded to
pub mod Folding
-- the lines of the tool
pub mod ToolLines
-- statuses, and what they print
pub mod Statuses
-- what a run does through its host, and what its status says of that
pub mod Runs
-- what serves proofs alone
pub mod steps
