pub mod ByteRuns
pub mod Seams
pub mod LetterRuns
pub mod OneReading
pub mod OperatorEnds
pub mod EachPiece
