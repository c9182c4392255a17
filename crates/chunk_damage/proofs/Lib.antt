pub mod MarksApart
pub mod WordsApart
pub mod ListsApart
