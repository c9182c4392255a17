-- the rows of a chunk that match, by their numbers and as documents
pub mod Numbered
-- what a search gathers, document by document and layer by layer
pub mod Gathering
-- what the weight of a document asks of its hits
pub mod Weighing
-- each document has hits
pub mod SomeHits
-- the hits of a document are one list
pub mod OneHits
-- the members of lists
pub mod Members
-- what is found of documents in any order are the same rows, and what is shown is one list
pub mod OneFound
-- rows by their ids
pub mod ListedIds
-- a search that goes on past rows that fail
pub mod Leading
-- rows before the least id that a condition allows, and behind the greatest
pub mod Bounded
-- rows that are asked of the conditions one after the other
pub mod Passing
-- weights that are bounded by how many words a document has
pub mod ByWords
-- questions that take all documents
pub mod AllRows
-- the first document without a weight
pub mod WithoutWeight
-- a document at which a search ends is one of those that it goes over
pub mod Stopping
-- the most that any document weighs
pub mod MostOfAll
-- the rest of a layer, counted
pub mod LayerRest
-- rows that are gone over many at a time
pub mod ManyRows
-- what a row weighs by what is told of it
pub mod ToldWeights
