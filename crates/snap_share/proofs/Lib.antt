-- how an answer is charged
pub mod Charging
-- what a commit says of its token alone
pub mod Sharing
-- how an engine ends
pub mod Ending
-- what a token tells once it has learnt a history
pub mod Meeting
-- an engine may be shared by threads
pub mod Crossing
pub mod JobAnswers
