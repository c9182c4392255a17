use Rattle.std.proofs.Common.{ap}
use Rattle.doc_types.specs.Chunks.{CursorPlace}
use Rattle.row_flags.proofs.TakenRows.{flags_with, unset_flags}
use Rattle.row_flags.proofs.words.flag_word.Goals as goal

pub returns-in-Some-clause-flags : goal.returns-in-Some-clause-flags
returns-in-Some-clause-flags g c =
    flags_with (g.C.Chunk.content c.args.chunk.now) c.args.word.now c.args.from (g.C.Chunk.place c.args.chunk.now c.in-Some.cursor).ahead c.args.into.now c.flag_ahead.new.into
    (ap (λ (place : CursorPlace). place.ahead) c.in-Some.ensures.first.1) c.flag_ahead.ensures.long c.requires c.flag_ahead.ensures.each

pub returns-in_default-clause-flags : goal.returns-in_default-clause-flags
returns-in_default-clause-flags g c = unset_flags (g.C.Chunk.content c.args.chunk.now) c.args.word.now c.args.from c.args.into.now c.in_default.ensures.none c.requires
