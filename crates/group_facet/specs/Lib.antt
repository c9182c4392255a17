-- different values
pub mod Distinct
-- the aggregates
pub mod Folds
-- the aggregates over the rows that came so far
pub mod RunningFolds
-- the groups of rows
pub mod Groups
-- groups while their rows come one after the other
pub mod Gathering
-- facets
pub mod Facets
-- the counts of a facet while the rows come one after the other
pub mod GatheringFacets
-- which groups are shown
pub mod ShownGroups
-- what serves proofs and private functions alone
pub mod steps
