use Rattle.std.proofs.Common.{◌^◌, arith, sym}
use Rattle.rank_expr.proofs.MarkSteps.{no_mark}
use Rattle.rank_expr.proofs.PieceRead.{some_text, no_text, size_fits, rest_fits, piece_read}
use Rattle.rank_expr.proofs.cursor.MarkCursor.read_piece.Goals as goal

pub returns-then-is_empty : goal.returns-then-is_empty
returns-then-is_empty c =
    sym (no_mark c.args.schema.now c.args.due c.args.level c.args.at c.args.text.now (no_text c.args.text.now c.is_empty.result c.is_empty.ensures c.if-is_empty.true))

pub behind-rest-requires : goal.behind-rest-requires
behind-rest-requires c =
    (size_fits c.args.schema.now c.args.text.now c.piece_of-sign.result (some_text c.args.text.now c.is_empty.result c.is_empty.ensures c.if-is_empty.false) c.piece_of-sign.ensures).1

pub overflow_cast-result : goal.overflow_cast-result
overflow_cast-result c =
    omega (arith, c.requires.small, (size_fits c.args.schema.now c.args.text.now c.piece_of-sign.result (some_text c.args.text.now c.is_empty.result c.is_empty.ensures c.if-is_empty.false) c.piece_of-sign.ensures).1)

pub overflow_add-result : goal.overflow_add-result
overflow_add-result c =
    omega (arith, c.requires.small, (size_fits c.args.schema.now c.args.text.now c.piece_of-sign.result (some_text c.args.text.now c.is_empty.result c.is_empty.ensures c.if-is_empty.false) c.piece_of-sign.ensures).1)

pub invariant_of-result-2 : goal.invariant_of-result-2
invariant_of-result-2 c =
    let some = some_text c.args.text.now c.is_empty.result c.is_empty.ensures c.if-is_empty.false in
    let fits = size_fits c.args.schema.now c.args.text.now c.piece_of-sign.result some c.piece_of-sign.ensures in (
      c.requires.few,
      rest_fits c.args.schema.now c.args.at (2 ^ 31) c.args.text.now c.behind-rest.result.now c.piece_of-sign.result some c.piece_of-sign.ensures c.behind-rest.ensures c.requires.small,
      omega (arith, c.requires.level, c.level_after.ensures.one_more, fits.0),
    )

pub returns : goal.returns
returns c =
    let some = some_text c.args.text.now c.is_empty.result c.is_empty.ensures c.if-is_empty.false in
    piece_read c.args.schema.now c.args.due c.args.level c.args.at c.args.text.now c.behind-rest.result.now c.piece_of-sign.result c.in_scope.result c.is_due_after.result c.level_after.result some c.requires.plain c.piece_of-sign.ensures c.behind-rest.ensures c.in_scope.ensures c.is_due_after.ensures c.level_after.ensures.is
