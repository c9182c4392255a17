-- what each outcome leaves
pub mod Outcomes
