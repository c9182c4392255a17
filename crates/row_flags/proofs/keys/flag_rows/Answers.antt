use Rattle.std.proofs.Common.{◌-◌, ◌≤◌, ◌∙◌, refl, sym, ap, arith}
use Rattle.std.proofs.lemmas.List.{length-set}
use Rattle.doc_types.specs.Chunks.{CursorPlace, rows_from}
use Rattle.row_flags.proofs.RowsAhead.{flagging_ended, flagging_first, flagging_has, flagging_next, flagging_on, flagging_past}
use Rattle.row_flags.proofs.keys.flag_rows.Goals as goal

pub loop-row-init : goal.loop-row-init
loop-row-init g c = record {
  belongs = c.seek.ensures.stays;
  word = ap (λ (p : CursorPlace). p.word) (c.seek.ensures.place ∙ ap (λ (p : CursorPlace). record p { ahead = rows_from c.args.from p.ahead }) c.requires.first);
  flagging = flagging_first (g.C.Chunk.content c.args.chunk.now) c.args.key.now c.args.from (g.C.Chunk.place c.args.chunk.now c.seek.new.cursor).ahead c.args.into.now
      (ap (λ (p : CursorPlace). p.ahead) c.seek.ensures.place ∙ ap (λ (p : CursorPlace). rows_from c.args.from p.ahead) c.requires.first) c.requires.none;
  long = refl;
}

pub overflow_sub-at : goal.overflow_sub-at
overflow_sub-at g c =
    flagging_on (g.C.Chunk.content c.args.chunk.now) c.args.key.now c.args.from c.loop-row.into c.in-Some.row (g.C.Chunk.place c.args.chunk.now c.loop-row.here).ahead (sym c.in-Some.ensures.next) c.loop-row.invariant.flagging

pub returns-then-at-into-clause-flags : goal.returns-then-at-into-clause-flags
returns-then-at-into-clause-flags g c =
    let rows = g.C.Chunk.content c.args.chunk.now in
    let ahead = (g.C.Chunk.place c.args.chunk.now c.loop-row.here).ahead in
    let on : c.args.from ≤ c.in-Some.row = flagging_on rows c.args.key.now c.args.from c.loop-row.into c.in-Some.row ahead (sym c.in-Some.ensures.next) c.loop-row.invariant.flagging in
    flagging_past rows c.args.key.now c.args.from c.loop-row.into c.in-Some.row ahead (sym c.in-Some.ensures.next) (omega (arith, on, c.if-at-into.true)) c.loop-row.invariant.flagging

pub loop-row-preserved : goal.loop-row-preserved
loop-row-preserved g c =
    let rows = g.C.Chunk.content c.args.chunk.now in
    let ahead = (g.C.Chunk.place c.args.chunk.now c.loop-row.here).ahead in
    let row = c.in-Some.row in
    let next = sym c.in-Some.ensures.next in
    let flagging = c.loop-row.invariant.flagging in
    let on : c.args.from ≤ row = flagging_on rows c.args.key.now c.args.from c.loop-row.into row ahead next flagging in
    record {
      belongs = c.advance.ensures.stays;
      word = ap (λ (p : CursorPlace). p.word) c.advance.ensures.next ∙ c.loop-row.invariant.word;
      flagging = flagging_next rows c.args.key.now c.args.from c.loop-row.into row ahead (g.C.Chunk.place c.args.chunk.now c.advance.new.cursor).ahead next (ap (λ (p : CursorPlace). p.ahead) c.advance.ensures.next) flagging
          (row - c.args.from) (omega (arith, on)) (omega (arith, c.if-at-into.false)) c.stands_next.result
          (λ its there. c.stands_next.ensures its there (flagging_has rows c.args.key.now c.args.from c.loop-row.into row ahead its next flagging there));
      long = length-set c.loop-row.into (row - c.args.from) c.stands_next.result ∙ c.loop-row.invariant.long;
    }

pub returns-clause-flags : goal.returns-clause-flags
returns-clause-flags g c =
    flagging_ended (g.C.Chunk.content c.args.chunk.now) c.args.key.now c.args.from c.loop-row.into (g.C.Chunk.place c.args.chunk.now c.loop-row.here).ahead c.in_default.ensures.none c.loop-row.invariant.flagging
