-- members of lists as tests see them, and lists with the same members
pub mod Members
-- occurrences in order
pub mod Ordered
-- parts of lists in order, found by binary search
pub mod Between
-- occurrences that begin within bounds
pub mod Beginning
-- NEAR as two passes
pub mod NearPairs
-- places close to one, and what NEAR makes of them
pub mod ClosePlaces
-- the boundaries next to a position
pub mod Boundaries
-- SENTENCE and PARAGRAPH
pub mod Together
-- what a filter keeps of a list
pub mod Kept
-- places in order, and those inside spans
pub mod PlaceOrder
-- occurrences that are made to reach as far as those before them
pub mod Spreading
-- one look in such a list
pub mod Covering
-- keywords one after the other
pub mod Following
-- how many elements of a list pass a test
pub mod Counts
-- at how many positions places stand
pub mod PlaceCounts
-- places in order, cut in two
pub mod CutPlaces
-- places put in order
pub mod PlaceSorting
-- by which position words are held
pub mod Reaching
-- keywords gathered one after the other
pub mod Gathering
-- which words are listed
pub mod WordLists
-- where windows end
pub mod WindowEnds
-- the windows that are made
pub mod WindowMembers
