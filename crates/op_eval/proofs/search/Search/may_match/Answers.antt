use Rattle.std.proofs.Common.{Bor, map, ap, ◌∙◌}
use Rattle.query_tree.specs.declared.key.Key.{Key}
use Rattle.query_tree.specs.TreeKeys.{node_keys}
use Rattle.word_rows.specs.Slots.{keys_of, number_among}
use Rattle.op_eval.proofs.Searched.{node_apart, seen_as}
use Rattle.op_eval.proofs.search.Search.may_match.Goals as goal

pub returns-clause-passed : goal.returns-clause-passed
returns-clause-passed g c = λ fails found here.
    let node = c.args.self.now.root.now in
    c.may_match.ensures fails found (number_among (node_keys node)) (node_apart node)
    (seen_as found (keys_of c.seek.new.slots) (node_keys node) c.seek.new.slots.terms.items c.deref.result.now
    (ap (λ keys. map (λ (key : Bor Key). key.now) keys.items) c.seek.ensures.keys ∙ c.requires.keys) c.deref.ensures.value (c.seek.ensures.seen found here))
