-- what the faults of a query print
pub mod FaultTexts
-- the grammar, with its values
pub mod Grammar
-- the first fault
pub mod QueryFaults
-- what the reader of a text answers
pub mod Queries
-- queries without the limit on nesting
pub mod DeepValues
-- what serves proofs and private functions alone
pub mod steps
