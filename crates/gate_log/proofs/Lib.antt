pub mod FileFronts
pub mod Fronts
pub mod OneMore
pub mod OneReading
pub mod Standing
pub mod Spelled
pub mod Steps
