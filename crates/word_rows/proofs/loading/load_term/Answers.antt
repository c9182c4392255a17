use Rattle.std.proofs.Common.{sym, ap, ◌∙◌}
use Rattle.occ_lists.specs.declared.term.Term.{Term}
use Rattle.word_rows.proofs.Opening.{is_left, opened_is, row_there}
use Rattle.word_rows.proofs.Passing.{it_belongs}
use Rattle.word_rows.proofs.PlacedRows.{IsPlacedRow, at_one, placed_rows}
use Rattle.word_rows.proofs.loading.load_term.Goals as goal

pub open-requires : goal.open-requires
open-requires g c =
    let belongs = g.C.Chunk.belongs c.args.chunk.now in
    let place = g.C.Chunk.place c.args.chunk.now in
    let rows = g.C.Chunk.content c.args.chunk.now in
    let word = c.args.key.now.word in
    let there = row_there rows c.args.row c.requires.row in
    record {
      its = it_belongs belongs place rows c.args.row word c.args.cursor c.requires.its;
      left = λ present. is_left belongs place rows c.args.row word there.0 there.1 c.args.cursor c.requires.at (sym (c.requires.seen there.0 there.1).present ∙ present);
    }

pub returns-clause-loaded : goal.returns-clause-loaded
returns-clause-loaded g c = λ found here.
    let belongs = g.C.Chunk.belongs c.args.chunk.now in
    let place = g.C.Chunk.place c.args.chunk.now in
    let rows = g.C.Chunk.content c.args.chunk.now in
    let word = c.args.key.now.word in
    let seen = c.requires.seen found here in
    c.limit.ensures.limited found (at_one IsPlacedRow rows (placed_rows rows (g.met.C.Chunk.whole c.args.chunk.now)) c.args.row found here)
    (c.requires.spans found here) (c.requires.lasts found here)
    (λ free. seen.free (sym (ap (λ (term : Term). term.free) c.in_ok-open.ensures.same) ∙ free))
    (c.in_ok-open.ensures.opened ∙ opened_is belongs place rows c.args.row word found here c.args.term.now.present c.args.cursor seen.present c.requires.its c.requires.at)
