-- what stands where a gate should
pub mod Parts
