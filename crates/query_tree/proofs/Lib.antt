-- the keywords of a tree, by the kinds of nodes
pub mod NodeKeys
-- those of nodes that join two others
pub mod JoinedKeys
