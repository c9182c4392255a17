-- no fault of several
pub mod FirstFault
-- the first fault of the elements of a list, as `find_map` finds it
pub mod FirstOf
-- what may be there is one value, or isn't there
pub mod Options
-- a text that goes on with three parts
mod ThreeParts
