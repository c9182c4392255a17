use Rattle.std.proofs.Common.{◌+◌, ◌≤◌, List, sym, ap, subst, ◌∙◌}
use Rattle.std.specs.List.{list_any}
use Rattle.query_tree.specs.declared.key.Key.{Key}
use Rattle.word_rows.specs.Keywords.{present_in}
use Rattle.word_rows.specs.RowMarks.{has_zones}
use Rattle.word_rows.specs.Slots.{keys_of, number_among}
use Rattle.word_rows.proofs.Loaded.{all_placed}
use Rattle.word_rows.proofs.Opening.{row_there}
use Rattle.word_rows.proofs.PlacedRows.{IsPlacedRow, at_one, placed_rows}
use Rattle.word_rows.proofs.ZonesAsked.{zones_asked}
use Rattle.op_eval.proofs.search.Search.load.Goals as goal

pub load-requires-2-clause-spans : goal.load-requires-2-clause-spans
load-requires-2-clause-spans g c = λ found here has.
    c.deref.ensures.value
    ∙ c.in_ok-load.ensures.spans found here
    (c.requires.search.spans ∙ zones_asked c.args.self.now.root.now (sym (ap (list_any has_zones) c.requires.search.keys) ∙ has))

pub returns-clause-placed : goal.returns-clause-placed
returns-clause-placed g c =
    let rows = g.C.Chunk.content c.args.chunk.now in
    let there = row_there rows c.args.row c.requires.row in
    all_placed there.0 (at_one IsPlacedRow rows (placed_rows rows (g.met.C.Chunk.whole c.args.chunk.now)) c.args.row there.0 there.1)
    (number_among (keys_of c.args.self.now.slots)) (keys_of c.args.self.now.slots) c.load-2.new.self.terms.items (c.in_ok-load-2.ensures.loaded there.0 there.1)

pub returns-in_err-load-2-clause-count : goal.returns-in_err-load-2-clause-count
returns-in_err-load-2-clause-count g c = λ its here.
    subst (λ (keys : List Key). c.load-2.new.steps ≤ c.args.steps.now + present_in its keys) c.requires.search.keys (c.load-2.ensures.count its here)

pub returns-clause-count : goal.returns-clause-count
returns-clause-count g c = λ its here.
    subst (λ (keys : List Key). c.load-2.new.steps ≤ c.args.steps.now + present_in its keys) c.requires.search.keys (c.load-2.ensures.count its here)
