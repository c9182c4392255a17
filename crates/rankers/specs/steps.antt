-- what serves proofs and private functions alone

-- what a field gives, and what is asked of hits for it
pub mod FieldValue
-- the counts of the last offsets
pub mod Offsets
