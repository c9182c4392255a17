-- What serves proofs and private functions alone.
pub mod Selecting
pub mod PacketReading
-- What the cursor says of the next tokens
pub mod Progress
-- The second of the next tokens
pub mod Seconds
