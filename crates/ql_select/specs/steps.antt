-- the aliases of a list, as a map from them
pub mod Aliases
-- the names of a SELECT, or the fault that decides
pub mod Naming
-- what is answered to the text of a MATCH
pub mod Texts
-- what a SELECT means, all but its query
pub mod Rankings
pub mod Rests
