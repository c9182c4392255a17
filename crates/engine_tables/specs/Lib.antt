-- indexes, each with its engine
pub mod Engines
-- a worker's tokens of them
pub mod Tokens
-- how engines get their names, and what comes back where they don't
pub mod Names
-- what a worker's engines are to its sessions
pub mod Workers
-- what an engine's answer is to a session
pub mod Outcomes
-- how engines end
pub mod Endings
-- what serves proofs alone
pub mod steps
