-- Queries that the fields of words decide: one keyword whose limits and marks look at nothing but the field of a place.
use Rattle.std.specs.Prelude.{◌≡◌, ℕ, ◌==◌, not, Option, Some, None, All}
use Rattle.std.specs.List.{list_any}
use Rattle.query_tree.specs.declared.key.Key.{Key}
use Rattle.query_tree.specs.declared.query.Node.{Node}
use Rattle.query_tree.specs.declared.query.Node.TheVariants as nodes
use Rattle.query_tree.specs.declared.query.Query.{Query}
use Rattle.word_rows.specs.Fields.{LooksAtFields}
use Rattle.word_rows.specs.Keywords.{has_field}
use Rattle.op_eval.specs.Finding.{Found}

-- the node is such a keyword
pub record IsFieldWord (node : Node) : Type 0 where
  pub key : Key
  pub is : node ≡ nodes.Word key
  pub looks : LooksAtFields key

abbrev pub is_field_word : Option Node → Type 0
is_field_word None = ⊥
is_field_word (Some node) = IsFieldWord node

-- the query is such a keyword
abbrev pub GoesByFields : Query → Type 0
GoesByFields query = is_field_word query.root

-- The fields whose bits are set are those that have a hit; there is one where it matches, and all hits are of one keyword: of this
-- query position and of this word.
pub record AreFieldsOf (found : Found) (fields : ℕ) : Type 0 where
  pub told : found.matches ≡ not (fields == 0)
  pub each : (field : ℕ) → has_field fields field ≡ list_any (λ hit. hit.field == field) found.hits
  pub position : ℕ
  pub word : ℕ
  pub one : All (λ hit. (hit.query ≡ position) × (hit.word ≡ word)) found.hits
