-- how operations are tried one by one
pub mod Trying
-- rows of layers by their ids
pub mod Finding
