-- clients that keep to the protocol
pub mod Clients
-- lines that served such a client to its end
pub mod Complete
-- the codes of refusals
pub mod Codes
