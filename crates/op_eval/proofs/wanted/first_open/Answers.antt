use Rattle.std.proofs.Common.{length}
use Rattle.std.specs.Prelude.{unwrap_or}
use Rattle.row_plans.proofs.LivingRows.{gone_later}
use Rattle.op_eval.proofs.NextMatches.{opens_for, stands_now}
use Rattle.op_eval.proofs.wanted.first_open.Goals as goal

pub returns-in-None-clause-first : goal.returns-in-None-clause-first
returns-in-None-clause-first g c = λ query stands. c.first_living.ensures.first query

pub returns-in-None-clause-gone : goal.returns-in-None-clause-gone
returns-in-None-clause-gone g c =
    gone_later c.args.dead.now c.args.gone.now c.args.from (unwrap_or c.first_living.result (length (g.C.Chunk.content c.args.chunk.now))) c.first_living.ensures.on c.requires.gone

pub returns-in-Some-clause-stands : goal.returns-in-Some-clause-stands
returns-in-Some-clause-stands g c = λ query stands.
    let rows = g.C.Chunk.content c.args.chunk.now in
    stands_now (g.C.Chunk.belongs c.args.chunk.now) (g.C.Chunk.place c.args.chunk.now) rows query c.args.from (unwrap_or c.first_worded.result (length rows)) c.args.search.now c.in-Some.search c.first_worded.new.search
    c.in-Some.is c.first_worded.ensures.search stands

pub returns-in-Some-clause-first : goal.returns-in-Some-clause-first
returns-in-Some-clause-first g c = λ query stands.
    opens_for (g.C.Chunk.belongs c.args.chunk.now) (g.C.Chunk.place c.args.chunk.now) (g.C.Chunk.content c.args.chunk.now) query c.args.from c.args.dead.now c.first_worded.result c.args.search.now c.in-Some.search
    c.in-Some.is stands c.first_worded.ensures.first
