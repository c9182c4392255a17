-- the order of rows is a total one
pub mod Ordered
-- lists in order: each list has such an order, and only one where no two elements tie
pub mod Sorting
-- rows of distinct ids in order
pub mod OneOrder
-- the first rows, by a selection
pub mod Selected
-- the page, by the first rows
pub mod Cutting
-- rows that are moved out one by one
pub mod Moved
-- how many pass a test that fails from some place on
pub mod Counting
-- the rows that a collector keeps
pub mod Collected
-- rows that are as others but for their weight
pub mod Lighter
-- rows that are lighter than some weight and have ids from some one on
pub mod Beyond
-- whether a number is in a list, by a search among the same numbers in order
pub mod Listed
-- conditions on the weight, and those on other columns
pub mod InTwoParts
-- the values of a document, read one after the other
pub mod Values
