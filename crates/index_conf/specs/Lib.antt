-- what holds of every configuration that is served
pub mod Soundness
