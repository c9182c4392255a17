-- states as bytes
pub mod States
-- a state read from its bytes, and where it breaks the layout
pub mod Reading
-- slots: what the two files of a root hold
pub mod Slots
-- what two slots are read as
pub mod Choosing
-- roots: how the slots stand, and what replacing makes of them
pub mod Roots
-- what a root is read as
pub mod Openings
pub mod steps
