-- Nodes that join two others, whatever the operator: their keywords.
use Rattle.std.proofs.Common.{◌≡◌, ◌∙◌, ap, ℕ, ◌⊎◌, inl, inr}
use Rattle.std.specs.Prelude.{◌++◌}
use Rattle.query_tree.specs.declared.query.Node.{Node}
use Rattle.query_tree.specs.declared.query.Node.TheVariants as nodes
use Rattle.query_tree.specs.TreeKeys.{node_keys}
use Rattle.query_tree.proofs.NodeKeys.{keys_or, keys_maybe, keys_before, keys_near, keys_sentence, keys_paragraph}

-- SENTENCE or PARAGRAPH joins them
abbrev pub IsBounded : Node → Node → Node → Type 0
IsBounded node a b = (node ≡ nodes.Sentence a b) ⊎ (node ≡ nodes.Paragraph a b)

-- an operator on occurrences joins them
abbrev pub IsOrdered : Node → Node → Node → Type 0
IsOrdered node a b = (node ≡ nodes.Before a b) ⊎ ((n : ℕ) × (node ≡ nodes.Near n a b)) ⊎ IsBounded node a b

-- some operator joins them
abbrev pub IsJoint : Node → Node → Node → Type 0
IsJoint node a b = (node ≡ nodes.Or a b) ⊎ (node ≡ nodes.Maybe a b) ⊎ IsOrdered node a b

pub keys_bounded : (node a b : Node) → IsBounded node a b → node_keys node ≡ node_keys a ++ node_keys b
keys_bounded node a b (inl e) = ap node_keys e ∙ keys_sentence a b
keys_bounded node a b (inr e) = ap node_keys e ∙ keys_paragraph a b

pub keys_ordered : (node a b : Node) → IsOrdered node a b → node_keys node ≡ node_keys a ++ node_keys b
keys_ordered node a b (inl e) = ap node_keys e ∙ keys_before a b
keys_ordered node a b (inr (inl (n, e))) = ap node_keys e ∙ keys_near n a b
keys_ordered node a b (inr (inr bounded)) = keys_bounded node a b bounded

pub keys_joint : (node a b : Node) → IsJoint node a b → node_keys node ≡ node_keys a ++ node_keys b
keys_joint node a b (inl e) = ap node_keys e ∙ keys_or a b
keys_joint node a b (inr (inl e)) = ap node_keys e ∙ keys_maybe a b
keys_joint node a b (inr (inr ordered)) = keys_ordered node a b ordered
