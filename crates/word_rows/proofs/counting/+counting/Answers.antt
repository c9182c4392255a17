use Rattle.std.proofs.Common.{arith, ◌++◌, ◌∙◌, sym, ap, length, length-append}
use Rattle.std.specs.List.{flat_map}
use Rattle.query_tree.specs.declared.query.Item.{Item}
use Rattle.query_tree.specs.declared.query.Node.{Node}
use Rattle.query_tree.specs.TreeKeys.{node_keys}
use Rattle.query_tree.proofs.NodeKeys.{keys_word, keys_quoted, keys_and, keys_span}
use Rattle.query_tree.proofs.JoinedKeys.{keys_joint}
use Rattle.word_rows.proofs.counting.+counting.Goals as goal

pub key_count-returns-in-Word : goal.key_count-returns-in-Word
key_count-returns-in-Word t c = omega (arith, ap length (ap node_keys c.in-Word.is ∙ keys_word _))

pub key_count-returns-in-Quoted : goal.key_count-returns-in-Quoted
key_count-returns-in-Quoted t c = omega (arith, ap length (ap node_keys c.in-Quoted.is ∙ keys_quoted _ _))

pub key_count-returns-in-And : goal.key_count-returns-in-And
key_count-returns-in-And t c =
    omega (arith, c.count_items.ensures, ap length (ap node_keys c.in-And.is ∙ keys_and _ ∙ ap (flat_map (λ (item : Item). node_keys item.node)) (sym c.as_slice.ensures)))

pub key_count-returns-in-ZoneSpan : goal.key_count-returns-in-ZoneSpan
key_count-returns-in-ZoneSpan t c =
    omega (arith, c.key_count.ensures, ap length (ap node_keys c.in-ZoneSpan.is ∙ keys_span _ _ ∙ ap node_keys (sym c.get.ensures)))

pub key_count-returns-in-Or : goal.key_count-returns-in-Or
key_count-returns-in-Or t c =
    omega (
      arith,
      c.saturating_add.ensures,
      c.key_count-in-Or.ensures,
      c.key_count-in-Or-2.ensures,
      ap length (keys_joint c.args.node.now _ _ c.in-Or.is ∙ ap (λ (n : Node). node_keys n ++ node_keys c.in-Or.b) (sym c.get-in-Or.ensures) ∙ ap (λ (n : Node). node_keys c.get-in-Or.result.now ++ node_keys n) (sym c.get-in-Or-2.ensures)),
      length-append (node_keys c.get-in-Or.result.now) (node_keys c.get-in-Or-2.result.now),
    )
