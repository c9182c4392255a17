-- texts that are UTF-8
pub mod Texts
-- values that are put into a document, one after the other
pub mod Filling
-- rows become one transaction, or are refused for one reason
pub mod OneInsertion
