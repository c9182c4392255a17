-- what a cursor's seeking tells
pub mod Seeking
-- cursors that have gone over no row from one on
pub mod Kept
-- how far the next row is
pub mod HowFar
-- rows that a plan lets through and that aren't dead
pub mod LivingRows
