use Rattle.std.proofs.Common.{◌+◌, ◌^◌, ◌∙◌, arith, drop, sym, ap}
use Rattle.std.proofs.lemmas.List.Sums.{prefix_len-le-length}
use Rattle.rank_expr.specs.Pieces.{is_blank}
use Rattle.rank_expr.specs.Marks.{marks_from}
use Rattle.rank_expr.proofs.MarkSteps.{past_blanks, no_blank, behind_blanks}
use Rattle.rank_expr.proofs.cursor.MarkCursor.read.Goals as goal

pub behind-text-requires : goal.behind-text-requires
behind-text-requires c = omega (arith, c.blanks_len-blanks.ensures, prefix_len-le-length is_blank c.args.rest.now)

pub overflow_cast-at : goal.overflow_cast-at
overflow_cast-at c = omega (arith, c.requires.small, c.blanks_len-blanks.ensures, prefix_len-le-length is_blank c.args.rest.now)

pub overflow_add-at : goal.overflow_add-at
overflow_add-at c = omega (arith, c.requires.small, c.blanks_len-blanks.ensures, prefix_len-le-length is_blank c.args.rest.now)

pub read_piece-requires-clause-small : goal.read_piece-requires-clause-small
read_piece-requires-clause-small c = behind_blanks c.args.at c.blanks_len-blanks.result (2 ^ 31) c.args.rest.now c.behind-text.result.now c.blanks_len-blanks.ensures c.behind-text.ensures c.requires.small

pub read_piece-requires-clause-plain : goal.read_piece-requires-clause-plain
read_piece-requires-clause-plain c = no_blank c.args.rest.now c.blanks_len-blanks.result c.behind-text.result.now c.blanks_len-blanks.ensures c.behind-text.ensures

pub returns : goal.returns
returns c =
    c.read_piece.ensures
    ∙ ap (λ u. marks_from c.args.schema.now c.args.due c.args.level (c.args.at + c.blanks_len-blanks.result) 0 u) c.behind-text.ensures
    ∙ ap (λ k. marks_from c.args.schema.now c.args.due c.args.level (c.args.at + k) 0 (drop k c.args.rest.now)) c.blanks_len-blanks.ensures
    ∙ sym (past_blanks c.args.schema.now c.args.due c.args.level c.args.at c.args.rest.now)
