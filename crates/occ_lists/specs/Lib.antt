-- places, occurrences, and what lies inside what
pub mod Places
-- lists of occurrences as sets, and in order
pub mod OccLists
-- occurrences that don't end before they begin
pub mod Sound
-- two lists of occurrences joined by an operator
pub mod Joined
-- keywords one after the other
pub mod Runs
-- keywords near each other
pub mod Windows
-- places near each other
pub mod Close
-- keywords with their places, and what is appended for them
pub mod Terms
-- what serves proofs and private functions alone
pub mod steps
