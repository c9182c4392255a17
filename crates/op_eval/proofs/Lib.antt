pub mod AbsentWords
pub mod AndNodes
pub mod NodeVerdicts
pub mod Nodes
pub mod QuotedVerdicts
pub mod Quorums
pub mod SoundFindings
pub mod Standing
pub mod Telling
pub mod TermParts
pub mod WordNumbers
-- occurrences that don't end before they begin
pub mod Forward
-- what several calls append
pub mod Appending
-- what keywords find by their terms
pub mod TermPlaces
-- what keywords by themselves find
pub mod WordedPlaces
-- keywords of which NEAR makes nothing
pub mod FarWords
-- what is found of nodes that are made of others
pub mod NodeParts
-- turns of loops over items and over spans
pub mod Turns
pub mod AndKeys
-- a search's keywords and terms, as those of its node
pub mod Searched
-- the numbers of rows that pass, and whether a row is dead
pub mod RowNumbers
-- what a search answers, as what a query finds
pub mod Searches
-- hits in order, each once
pub mod HitOrder
-- what a query finds is of its keywords
pub mod KeywordHits
-- the hits of a query whose keywords are numbered
pub mod NumberedHits
-- the numbers of rows from one on that pass
pub mod RowsAhead
-- the next row that matches a query
pub mod NextMatches
-- what is known of the words of a row
pub mod Known
-- plans that serve a node
pub mod Serving
-- keywords by their numbers
pub mod Numbering
-- cursors that a plan led on
pub mod Walked
-- the lists that rows may open
pub mod Debt
-- what is found by fields alone
pub mod ByFields
