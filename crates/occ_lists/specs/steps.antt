-- what serves proofs and private functions alone

-- lists of occurrences of which each reaches as far as those before it
pub mod Spread
-- from keyword to keyword
pub mod Follow
-- one occurrence joined with a list
pub mod Beside
-- the boundaries around an occurrence
pub mod Boundaries
-- listed words with the places at which their keywords stand
pub mod Wanted
-- where windows may end
pub mod Ends
