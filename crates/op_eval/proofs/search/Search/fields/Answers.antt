use Rattle.std.proofs.Common.{Bor, map, ap, ◌∙◌}
use Rattle.query_tree.specs.declared.key.Key.{Key}
use Rattle.query_tree.specs.TreeKeys.{node_keys}
use Rattle.word_rows.specs.Slots.{number_among}
use Rattle.op_eval.proofs.ByFields.{only_key, word_fields}
use Rattle.op_eval.proofs.search.Search.fields.Goals as goal

pub returns-clause-fields : goal.returns-clause-fields
returns-clause-fields g c = λ its here.
    let node = c.args.self.now.root.now in
    let word = c.requires.word in
    word_fields its (number_among (node_keys node)) node c.fields.result word
    (c.fields.ensures.fields its word.key here (ap (λ keys. map (λ (key : Bor Key). key.now) keys.items) c.seek.ensures.keys ∙ (c.requires.search.keys ∙ only_key node word)) word.looks)
