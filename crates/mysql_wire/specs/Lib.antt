-- packets, and numbers and texts with their length before them
pub mod Packets
pub mod LengthEncoded
-- what the server writes
pub mod Replies
pub mod Rows
-- the client's response to the greeting, and its commands
pub mod Handshake
pub mod Answered
pub mod Commands
pub mod CommandValues
-- a stream of packets in any pieces
pub mod Framing
pub mod Lending
pub mod Fronts
-- what a client reads: the fields of each payload
pub mod Fields
pub mod Payloads
pub mod steps
