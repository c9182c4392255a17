-- Queries whose keywords are numbered from 1 in the order of the tree, or have query positions, and what that says of their hits.
use Rattle.std.specs.Prelude.{◌≡◌, ◌≢◌, ℕ, ◌<◌, ◌≤◌, ◌^◌, List, map, length, Some, slice_get, All, AllPairs, Any, Contains}
use Rattle.std.specs.List.{range_with_len}
use Rattle.doc_types.specs.declared.documents.DocRow.{DocRow}
use Rattle.doc_types.specs.declared.hits.Hit.{Hit}
use Rattle.doc_types.specs.declared.tokens.FieldTokens.{FieldTokens}
use Rattle.doc_types.specs.declared.tokens.TheConstants.{MAX_POSITION}
use Rattle.query_tree.specs.declared.key.Key.{Key}
use Rattle.query_tree.specs.declared.query.Query.{Query}
use Rattle.query_tree.specs.TreeKeys.{query_keys}
use Rattle.word_rows.specs.Keywords.{key_places}
use Rattle.op_eval.specs.Matching.{number_in}

-- The keywords of the query are numbered 1, 2, 3 and so on in the order of its tree, and are 255 at most. So are those of each query
-- that was read from a text.
pub record IsNumbered (query : Query) : Type 0 where
  pub few : length (query_keys query) ≤ 255
  pub count : query.keywords ≡ length (query_keys query)
  pub numbers : map (λ key. key.query) (query_keys query) ≡ range_with_len 1 (length (query_keys query))

-- The keywords have query positions from 1 to as many as the query counts, which are 255 at most; several may have one of them. So it
-- is of each query whose keywords are numbered, and of each that is asked in the place of such a one with prefixes.
pub record HasPositions (query : Query) : Type 0 where
  pub few : query.keywords ≤ 255
  pub short : length (query_keys query) < 2 ^ 16
  pub count : query.keywords ≤ length (query_keys query)
  pub within : All (λ key. (1 ≤ key.query) × (key.query ≤ query.keywords)) (query_keys query)

-- the word stands at the place, which is one of a field of the row
pub record IsWordAt (row : DocRow) (word : List ℕ) (place : ℕ × ℕ) : Type 0 where
  pub tokens : FieldTokens
  pub field : slice_get row.doc.fields place.0 ≡ Some tokens
  pub token : Any (λ token. (token.word ≡ word) × (token.position ≡ place.1)) tokens.words

-- the hit is of this keyword of the query, and stands at one of its places
pub record IsHitOf (query : Query) (row : DocRow) (hit : Hit) (key : Key) : Type 0 where
  pub position : hit.query ≡ key.query
  pub word : hit.word ≡ number_in query key.word
  pub place : Contains (key_places row key) (hit.field, hit.position)

-- a hit of one of so many keywords, in one of so many fields
pub record IsHitWithin (keywords fields : ℕ) (hit : Hit) : Type 0 where
  pub from_one : 1 ≤ hit.query
  pub query : hit.query ≤ keywords
  pub field : hit.field < fields
  pub position : hit.position ≤ MAX_POSITION

-- not of one query position at one place
abbrev pub AreTwoHits : Hit → Hit → Type 0
AreTwoHits hit other = hit.field ≡ other.field → hit.position ≡ other.position → hit.query ≢ other.query

-- hits of so many keywords, in so many fields: no two of one query position at one place
pub record AreHitsWithin (keywords fields : ℕ) (hits : List Hit) : Type 0 where
  pub each : All (IsHitWithin keywords fields) hits
  pub apart : AllPairs AreTwoHits hits
