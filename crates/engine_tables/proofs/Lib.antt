-- lists by place
pub mod Places
-- what is said of tokens of which one was used
pub mod Using
-- what an engine's answer is to a session
pub mod Telling
-- what the end of a job is to a session
pub mod Jobs
-- what a job is to a worker's store
pub mod Working
-- how engines end
pub mod Endings
-- how engines are made
pub mod Makings
-- all engines from those before the last one
pub mod Composing
-- what stands at a place of engines and tokens
pub mod Looking
-- a worker's store between its calls
pub mod Sitting
-- the workers' numbers
pub mod Numbering
-- how tokens are dealt to workers
pub mod Dealing
