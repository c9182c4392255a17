pub mod LetterSteps
pub mod RunSteps
pub mod NumberSteps
pub mod Masks
pub mod GroupLimits
pub mod WholeSlices
pub mod MarkSteps
mod Worked
pub mod LastLimits
pub mod PieceMarks
