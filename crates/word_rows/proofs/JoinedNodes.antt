-- Nodes that join two others, whatever the operator: what they ask for.
use Rattle.std.proofs.Common.{◌≡◌, ◌∙◌, ap, ℕ, ◌⊎◌, inl, inr}
use Rattle.std.specs.Prelude.{◌||◌, true}
use Rattle.query_tree.specs.declared.query.Node.{Node}
use Rattle.query_tree.specs.declared.query.Node.TheVariants as nodes
use Rattle.query_tree.proofs.JoinedKeys.{IsBounded}
use Rattle.word_rows.specs.RowMarks.{asks_boundaries, asks_spans}
use Rattle.word_rows.proofs.MarkedNodes.{bounds_or, bounds_maybe, bounds_before, bounds_near, bounds_sentence, bounds_paragraph, zones_or, zones_maybe, zones_before, zones_near, zones_sentence, zones_paragraph}

-- one that asks for no boundaries by itself
abbrev pub IsPlain : Node → Node → Node → Type 0
IsPlain node a b = (node ≡ nodes.Or a b) ⊎ (node ≡ nodes.Maybe a b) ⊎ (node ≡ nodes.Before a b) ⊎ ((n : ℕ) × (node ≡ nodes.Near n a b))

pub bounds_plain : (node a b : Node) → IsPlain node a b → asks_boundaries node ≡ (asks_boundaries a || asks_boundaries b)
bounds_plain node a b (inl e) = ap asks_boundaries e ∙ bounds_or a b
bounds_plain node a b (inr (inl e)) = ap asks_boundaries e ∙ bounds_maybe a b
bounds_plain node a b (inr (inr (inl e))) = ap asks_boundaries e ∙ bounds_before a b
bounds_plain node a b (inr (inr (inr (n, e)))) = ap asks_boundaries e ∙ bounds_near n a b

pub zones_plain : (node a b : Node) → IsPlain node a b → asks_spans node ≡ (asks_spans a || asks_spans b)
zones_plain node a b (inl e) = ap asks_spans e ∙ zones_or a b
zones_plain node a b (inr (inl e)) = ap asks_spans e ∙ zones_maybe a b
zones_plain node a b (inr (inr (inl e))) = ap asks_spans e ∙ zones_before a b
zones_plain node a b (inr (inr (inr (n, e)))) = ap asks_spans e ∙ zones_near n a b

pub bounds_bounded : (node a b : Node) → IsBounded node a b → asks_boundaries node ≡ true
bounds_bounded node a b (inl e) = ap asks_boundaries e ∙ bounds_sentence a b
bounds_bounded node a b (inr e) = ap asks_boundaries e ∙ bounds_paragraph a b

pub zones_bounded : (node a b : Node) → IsBounded node a b → asks_spans node ≡ (asks_spans a || asks_spans b)
zones_bounded node a b (inl e) = ap asks_spans e ∙ zones_sentence a b
zones_bounded node a b (inr e) = ap asks_spans e ∙ zones_paragraph a b
