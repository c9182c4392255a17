use Rattle.std.proofs.Common.{subst}
use Rattle.store_reads.specs.steps.Pieces.{MakesPiece}
use Rattle.store_reads.proofs.BothPieces.{laid_both, refuses_back, refuses_front}
use Rattle.store_reads.proofs.loading.lay_two.Goals as goal

pub lay_both-requires : goal.lay_both-requires
lay_both-requires g c =
    let source = c.args.source in (
      source.schema.now,
      c.requires.limits,
      (
        c.requires.laid.0,
        source.through,
        c.requires.laid.1,
        _,
        _,
        c.requires.laid.2,
        subst (MakesPiece source.schema.now source.through source.file c.args.first.now) c.in-Ok.is c.read_both-first.ensures.first,
        subst (MakesPiece source.schema.now source.through source.file c.args.second.now) c.in-Ok-second.is c.read_both-first.ensures.second,
      ),
    )

pub returns-in-Ok-lay_both : goal.returns-in-Ok-lay_both
returns-in-Ok-lay_both g c = λ chunks front laid.
    let source = c.args.source in
    laid_both source.schema.now chunks source.through front c.args.first.now c.args.second.now c.lay_both.new.laid
    (c.in-Ok-lay_both.ensures source.schema.now chunks source.through front _ _ laid
    (subst (MakesPiece source.schema.now source.through source.file c.args.first.now) c.in-Ok.is c.read_both-first.ensures.first)
    (subst (MakesPiece source.schema.now source.through source.file c.args.second.now) c.in-Ok-second.is c.read_both-first.ensures.second))

pub returns-in-Err-second : goal.returns-in-Err-second
returns-in-Err-second g c = λ chunks front laid.
    let source = c.args.source in
    let first = subst (MakesPiece source.schema.now source.through source.file c.args.first.now) c.in-Ok.is c.read_both-first.ensures.first in
    refuses_back source.schema.now source.file c.args.first.now c.args.second.now c.in-Err-second.fault first.taken.all
    (subst (MakesPiece source.schema.now source.through source.file c.args.second.now) c.in-Err-second.is c.read_both-first.ensures.second)

pub returns-in-Err : goal.returns-in-Err
returns-in-Err g c = λ chunks front laid.
    let source = c.args.source in
    refuses_front source.schema.now source.file c.args.first.now c.args.second.now c.in-Err.fault
    (subst (MakesPiece source.schema.now source.through source.file c.args.first.now) c.in-Err.is c.read_both-first.ensures.first)
