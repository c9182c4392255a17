-- where parts lie, and what they are
pub mod Parts
-- damage of each kind
pub mod Damages
-- marks that were read
pub mod Laid
-- how many places are taken
pub mod Owned
-- rows that are laid out as they are
pub mod InFront
-- words and lists that were read
pub mod Worded
