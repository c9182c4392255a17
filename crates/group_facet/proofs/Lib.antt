-- each value once, with one more at the end
pub mod FirstSeen
-- parts of rows, with one row more
pub mod Dividing
-- the first of some rows, with one row more
pub mod Firsts
-- aggregates, with one row more
pub mod Folding
-- the orders of groups and of a facet's values are total
pub mod Orders
-- the counts of a facet
pub mod Counted
-- lists side by side, read or changed in place
pub mod Beside
-- the groups of what is kept of each
pub mod Finished
-- entries that are found and written by their place
pub mod KeyPlaces
-- a row in the place of another one that has the same in a facet's column
pub mod Passing
