-- transactions as bytes
pub mod Payload
-- the text of a schema
pub mod SchemaText
-- payloads as they are read, and where a fault stands
pub mod Reading
-- what is read of what was written
pub mod RoundTrip
-- what serves proofs alone
pub mod steps
