use Rattle.std.proofs.Common.{Bor, length, map, sym, ap, ◌∙◌}
use Rattle.query_tree.specs.declared.key.Key.{Key}
use Rattle.std.proofs.lemmas.List.{length-map}
use Rattle.word_rows.specs.Slots.{IsTermFor, keys_of, number_among}
use Rattle.word_rows.proofs.Zipped.{zip_length}
use Rattle.word_rows.proofs.slots.Slots.fields.Goals as goal

pub fields_of_first-requires-clause-long : goal.fields_of_first-requires-clause-long
fields_of_first-requires-clause-long g c =
    let slots = c.args.self.now in
    let rows = g.C.Chunk.content c.args.chunk.now in
    ap length c.deref-3.ensures.value
    ∙ (sym (zip_length (IsTermFor rows (number_among (keys_of slots))) (keys_of slots) slots.terms.items c.requires.slots.terms)
    ∙ (length-map slots.keys.items (λ (key : Bor Key). key.now)
    ∙ sym (ap length c.deref.ensures.value)))

pub returns-clause-fields : goal.returns-clause-fields
returns-clause-fields g c = λ found key here only.
    c.fields_of_first.ensures.fields found key here (ap (map (λ (k : Bor Key). k.now)) c.deref.ensures.value ∙ only)
