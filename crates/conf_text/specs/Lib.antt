-- what holds of every configuration that is served
pub use Rattle.index_conf.specs.Soundness
-- the lines of a text, and what each says
pub mod Lines
-- the keys of an index
pub mod Keys
-- what a line is by itself
pub mod Shapes
-- what stands before a line: its section, the entries and the indexes
pub mod Sections
-- the values that each key may have
pub mod Values
-- what is wrong with a line
pub mod Faults
-- what a text is: a configuration, or its first fault
pub mod Confs
-- the kinds of faults in words
pub mod FaultTexts
-- what serves proofs and private functions alone
pub mod steps
