-- the numbers that digits write
pub mod NumberValues
-- the front of a text whose bytes pass a test
pub mod Fronts
-- the signs of a class
pub mod MarkSigns
-- the two forms of the grammar
pub mod ExprAgreement
-- a text has one answer
pub mod OneAnswer
-- what readers make of parts in a row
pub mod RowSteps
-- the marks of a text, one after the other
pub mod MarkSteps
-- how large a piece is
pub mod PieceSizes
-- what the readers make of marks
pub mod ReaderSteps
-- what the cursor makes of a piece
pub mod PieceRead
-- the places of marks
pub mod MarkPlaces
-- numbers of 128 bits
pub mod Ranges
-- the values of parts
pub mod PartValues
-- what an expression looks at, and hits of one keyword
pub mod ByFields
