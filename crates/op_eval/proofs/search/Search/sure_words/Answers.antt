use Rattle.std.proofs.Common.{[], Bor, map, refl, ap, ◌∙◌}
use Rattle.query_tree.specs.declared.key.Key.{Key}
use Rattle.query_tree.specs.TreeKeys.{node_keys}
use Rattle.word_rows.specs.Slots.{keys_of, number_among}
use Rattle.word_rows.proofs.PresentCounts.{present_count}
use Rattle.op_eval.proofs.Searched.{node_apart, seen_as}
use Rattle.op_eval.proofs.search.Search.sure_words.Goals as goal

pub returns-in-Yes-clause-sure : goal.returns-in-Yes-clause-sure
returns-in-Yes-clause-sure g c = λ its here.
    let keys = node_keys c.args.self.now.root.now in
    let same = ap (λ its. map (λ (key : Bor Key). key.now) its.items) c.seek.ensures.keys ∙ c.requires.keys in
    let seen = c.seek.ensures.seen its here in
    let judged = seen_as its (keys_of c.seek.new.slots) keys c.seek.new.slots.terms.items c.deref.result.now same c.deref.ensures.value seen in
    let counted = seen_as its (keys_of c.seek.new.slots) keys c.seek.new.slots.terms.items c.deref-in-Yes.result.now same c.deref-in-Yes.ensures.value seen in (
      c.in-Yes.ensures its (number_among keys) (node_apart c.args.self.now.root.now) judged [] (λ unspanned. refl),
      c.present_count.ensures ∙ present_count its keys c.deref-in-Yes.result.now counted,
    )
