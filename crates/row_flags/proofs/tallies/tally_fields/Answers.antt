use Rattle.std.proofs.Common.{◌+◌, ◌∙◌, cond, get_or, refl, sym, ap, arith, true}
use Rattle.doc_types.specs.Chunks.{CursorPlace, rows_from, rows_with}
use Rattle.row_plans.proofs.Seeking.{is_in}
use Rattle.row_flags.specs.steps.Tallies.{changed, fields_for, with_word}
use Rattle.row_flags.proofs.KeyTallies.{is_with, next_tally}
use Rattle.row_flags.proofs.RowsAhead.{all_ahead}
use Rattle.row_flags.proofs.TakenRows.{changed_end, changed_next, none_before, rises_ahead}
use Rattle.row_flags.proofs.tallies.tally_fields.Goals as goal

pub loop-row-init : goal.loop-row-init
loop-row-init g c =
    let key = c.args.key.now in
    record {
      belongs = c.seek.ensures.stays;
      word = ap (λ (p : CursorPlace). p.word) (c.seek.ensures.place ∙ ap (λ (p : CursorPlace). record p { ahead = rows_from c.args.from p.ahead }) c.requires.first);
      long = refl;
      each = λ i row d within there.
          ap (λ (p : CursorPlace). changed (with_word (fields_for true key row)) (c.args.from + i) (get_or c.args.into.now i d) p.ahead) (c.seek.ensures.place ∙ ap (λ (p : CursorPlace). record p { ahead = rows_from c.args.from p.ahead }) c.requires.first);
    }

pub returns-then-row-from-clause-each : goal.returns-then-row-from-clause-each
returns-then-row-from-clause-each g c = λ i row d within there.
    let rows = g.C.Chunk.content c.args.chunk.now in
    let place = g.C.Chunk.place c.args.chunk.now c.loop-row.here in
    let key = c.args.key.now in
    let change = with_word (fields_for true key row) in
    let told = get_or c.args.into.now i d in
    changed_end change (c.args.from + i) c.args.from told (get_or c.loop-row.into i d) place.ahead (rows_with key.word rows) (omega arith) (all_ahead rows key.word).rise
    (none_before c.in-Some.row (c.args.from + i) place.ahead (sym c.in-Some.ensures.next) (rises_ahead rows place (g.met.C.Chunk.places c.args.chunk.now c.loop-row.here c.loop-row.invariant.belongs))
    (omega (arith, within, c.loop-row.invariant.long, c.if-row-from.true)))
    (c.loop-row.invariant.each i row d within there)
    ∙ ap (λ b. cond b (change told) told) (is_with rows key.word (c.args.from + i) row there)

pub loop-row-preserved : goal.loop-row-preserved
loop-row-preserved g c =
    let rows = g.C.Chunk.content c.args.chunk.now in
    let place = g.C.Chunk.place c.args.chunk.now c.loop-row.here in
    let key = c.args.key.now in
    record {
      belongs = c.advance.ensures.stays;
      word = ap (λ (p : CursorPlace). p.word) c.advance.ensures.next ∙ c.loop-row.invariant.word;
      long = c.tally_one.ensures.long ∙ c.loop-row.invariant.long;
      each = λ i row d within there.
          let number = c.args.from + i in
          changed_next (with_word (fields_for true key row)) number c.in-Some.row (get_or c.loop-row.into i d) (get_or c.tally_one.new.into i d) place.ahead (g.C.Chunk.place c.args.chunk.now c.advance.new.cursor).ahead
          (sym c.in-Some.ensures.next) (ap (λ (p : CursorPlace). p.ahead) c.advance.ensures.next)
          (c.tally_one.ensures.each i d (omega (arith, within, c.loop-row.invariant.long))
          ∙ next_tally rows place c.in-Some.row number c.fields_at.result key row (get_or c.loop-row.into i d) c.loop-row.invariant.word (sym c.in-Some.ensures.next) there c.fields_at.ensures.bits)
          ∙ c.loop-row.invariant.each i row d within there;
    }

pub returns-clause-each : goal.returns-clause-each
returns-clause-each g c = λ i row d within there.
    let rows = g.C.Chunk.content c.args.chunk.now in
    let key = c.args.key.now in
    let change = with_word (fields_for true key row) in
    let told = get_or c.args.into.now i d in
    changed_end change (c.args.from + i) c.args.from told (get_or c.loop-row.into i d) (g.C.Chunk.place c.args.chunk.now c.loop-row.here).ahead (rows_with key.word rows) (omega arith) (all_ahead rows key.word).rise
    (ap (is_in (c.args.from + i)) c.in_default.ensures.none)
    (c.loop-row.invariant.each i row d within there)
    ∙ ap (λ b. cond b (change told) told) (is_with rows key.word (c.args.from + i) row there)
