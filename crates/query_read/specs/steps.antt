-- what serves proofs and private functions alone

-- the values of the parts of the grammar, and with which classes they may go on
pub mod Parts
-- what operators make of two nodes
pub mod Joining
-- the scan for what has negated items alone
pub mod Levels
-- what the parts of the choice of the first fault answer
pub mod Choice
-- what the recognizers answer
pub mod Recognizing
