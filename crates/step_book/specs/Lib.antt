-- a step as a call tells it
pub mod Tellings
-- which index a front is of, and its steps
pub mod Fronts
-- the rule of the line, and what its step tells
pub mod Rules
-- what shares tell of a line of calls
pub mod Shares
