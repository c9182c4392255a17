pub mod Sides
pub mod SpanLists
pub mod Placing
pub mod Adding
pub mod Gathering
pub mod Ascii
