-- the columns of numbers that names mean
pub mod Targets
-- the options, and what they say
pub mod Options
-- the conditions and the page
pub mod Parts
-- the facets
pub mod Facets
-- what the names of a SELECT mean
pub mod Names
-- what is shown of rows or of groups, and in which order
pub mod Groups
-- which columns are shown
pub mod Columns
-- which of several faults decides
pub mod FirstFaults
-- what is wrong with a SELECT
pub mod Faults
-- what a SELECT means, or why it is refused
pub mod Selections
-- what serves proofs and private functions alone
pub mod steps
