-- bits, eight in a byte
pub mod Bits
-- a list of bits
pub mod BitLists
