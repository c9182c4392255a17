use Rattle.std.proofs.Common.{◌≡◌, ◌∙◌, ℕ, [], List, refl, sym, ap, subst, arith, rules}
use Rattle.doc_types.specs.Chunks.{has_word, rows_from, rows_with}
use Rattle.word_rows.proofs.PlacedRows.{placed_rows}
use Rattle.row_flags.specs.steps.Flags.{AreFlags}
use Rattle.row_flags.proofs.Places.{free_flags}
use Rattle.row_flags.proofs.RowsAhead.{flagging_ended, flagging_first}
use Rattle.row_flags.proofs.keys.flag_key.Goals as goal

pub returns-then-is_free-clause-flags : goal.returns-then-is_free-clause-flags
returns-then-is_free-clause-flags g c = λ told.
    let rows = g.C.Chunk.content c.args.chunk.now in
    let key = c.args.key.now in
    let flags = c.flag_word.new.into in
    free_flags rows key c.fields.result c.args.from flags (search rules) (c.is_free.ensures c.if-is_free.true) c.fields.ensures (placed_rows rows (g.met.C.Chunk.whole c.args.chunk.now))
    (subst (λ (word : List ℕ). AreFlags (has_word word) rows c.args.from flags) c.as_bytes.ensures c.flag_word.ensures.flags)

pub returns-in_default-clause-flags : goal.returns-in_default-clause-flags
returns-in_default-clause-flags g c = λ told.
    let rows = g.C.Chunk.content c.args.chunk.now in
    let key = c.args.key.now in
    let none : rows_with key.word rows ≡ [] = ap (λ (word : List ℕ). rows_with word rows) (sym c.as_bytes-else-is_free.ensures) ∙ c.in_default.ensures.none in
    let ahead = rows_from c.args.from (rows_with key.word rows) in
    flagging_ended rows key c.args.from c.unset.new.flags ahead (ap (rows_from c.args.from) none) (flagging_first rows key c.args.from ahead c.unset.new.flags refl (λ i d within. c.unset.ensures.none i d (omega (arith, within, c.unset.ensures.long))))
