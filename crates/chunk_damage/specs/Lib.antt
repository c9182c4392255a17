-- the header, and which bytes the parts are
pub mod Header
-- rows by their ids
pub mod RowOrder
-- marks of rows
pub mod RowMarks
-- entries of words
pub mod WordTable
-- words of the dictionary
pub mod WordOrder
-- posting lists
pub mod WordLists
-- positions, each with one owner
pub mod Cover
-- the first damage
pub mod Damage
