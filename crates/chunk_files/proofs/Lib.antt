-- the first element that passes
pub mod First
-- ids that live
pub mod Living
-- no id lives twice
pub mod Once
-- chunks one after the other
pub mod Resting
-- two chunks side by side
pub mod Merging
-- two chunks at a time
pub mod Pairing
-- rows one after the other
pub mod Scanned
-- chunks of a root
pub mod Rooted
