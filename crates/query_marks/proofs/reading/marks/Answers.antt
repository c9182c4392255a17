use Rattle.std.proofs.Common.{◌≡◌, refl, sym, ap, ◌∙◌}
use Rattle.std.specs.Prelude.{◌||◌, option_to_list}
use Rattle.std.proofs.lemmas.Str.{IsCharBoundary-start}
use Rattle.charset_map.specs.Spans.{folded}
use Rattle.query_pieces.specs.Pieces.{ends_in_letter}
use Rattle.query_marks.specs.Marks.{alphabet_in, setting_of}
use Rattle.query_marks.specs.Enough.{has_not}
use Rattle.query_marks.proofs.WholeSlices.{are_cut}
use Rattle.query_marks.proofs.MarkSteps.{Marked, marked_start, marked_next, enough_all, enough_cut, ended}
use Rattle.query_marks.proofs.reading.marks.Goals as goal

pub pieces-init : goal.pieces-init
pieces-init c = marked_start (alphabet_in (setting_of (folded c.args.charset.now) c.args.schema.now)) (setting_of (folded c.args.charset.now) c.args.schema.now) c.args.text.now _ _ (IsCharBoundary-start c.args.text.now c.utf8.text) c.new-marks.ensures.items c.at_start-state.ensures

pub mark_piece-requires-clause-cut : goal.mark_piece-requires-clause-cut
mark_piece-requires-clause-cut c = are_cut (alphabet_in (setting_of (folded c.args.charset.now) c.args.schema.now)) c.args.text.now c.pieces.inside c.pieces.at c.piece_at-piece.result c.utf8.text c.pieces.invariant.seam c.piece_at-piece.ensures.seam c.piece_at-piece.ensures.is

pub returns-then-decides : goal.returns-then-decides
returns-then-decides c =
    let alphabet = alphabet_in (setting_of (folded c.args.charset.now) c.args.schema.now) in
    let setting = (setting_of (folded c.args.charset.now) c.args.schema.now) in
    let negated : c.either-negated.result ≡ (c.pieces.negated || has_not (option_to_list c.in_ok-found.found)) = c.either-negated.ensures ∙ ap (λ b. c.pieces.negated || b) c.negates.ensures in
    let marked : Marked (alphabet_in (setting_of (folded c.args.charset.now) c.args.schema.now)) (setting_of (folded c.args.charset.now) c.args.schema.now) c.args.text.now c.put_mark.new.marks.items c.mark_piece.new.state (ends_in_letter c.piece_at-piece.result.form) c.piece_at-piece.result.to c.either-negated.result =
    marked_next alphabet setting c.args.text.now c.pieces.marks.items c.put_mark.new.marks.items c.pieces.state c.mark_piece.new.state c.pieces.inside (ends_in_letter c.piece_at-piece.result.form) c.pieces.at c.piece_at-piece.result c.in_ok-found.found c.pieces.negated c.either-negated.result
    c.pieces-test.true c.piece_at-piece.ensures.is c.piece_at-piece.ensures.seam c.in_ok-found.ensures.mark c.in_ok-found.ensures.state c.in_ok-put_mark.ensures refl negated c.pieces.invariant in
    ended alphabet setting c.args.text.now c.put_mark.new.marks.items c.with_end.result (λ given is pieces are. enough_cut alphabet setting c.args.text.now c.put_mark.new.marks.items c.pieces.marks.items given c.mark_piece.new.state (ends_in_letter c.piece_at-piece.result.form) c.piece_at-piece.result.to c.either-negated.result c.is_wrong-wrong.result c.in_ok-found.found
    c.in_ok-put_mark.ensures c.is_wrong-wrong.ensures (sym c.decides.ensures ∙ c.if-decides.true) is marked pieces are) c.with_end.ensures

pub pieces-preserved : goal.pieces-preserved
pieces-preserved c =
    let negated : c.either-negated.result ≡ (c.pieces.negated || has_not (option_to_list c.in_ok-found.found)) = c.either-negated.ensures ∙ ap (λ b. c.pieces.negated || b) c.negates.ensures in
    marked_next (alphabet_in (setting_of (folded c.args.charset.now) c.args.schema.now)) (setting_of (folded c.args.charset.now) c.args.schema.now) c.args.text.now c.pieces.marks.items c.put_mark.new.marks.items c.pieces.state c.mark_piece.new.state c.pieces.inside c.leaves_letter-inside.result c.pieces.at c.piece_at-piece.result c.in_ok-found.found c.pieces.negated c.either-negated.result
    c.pieces-test.true c.piece_at-piece.ensures.is c.piece_at-piece.ensures.seam c.in_ok-found.ensures.mark c.in_ok-found.ensures.state c.in_ok-put_mark.ensures c.leaves_letter-inside.ensures negated c.pieces.invariant

pub returns : goal.returns
returns c = ended (alphabet_in (setting_of (folded c.args.charset.now) c.args.schema.now)) (setting_of (folded c.args.charset.now) c.args.schema.now) c.args.text.now c.pieces.marks.items c.with_end-2.result (λ given is pieces are. enough_all (alphabet_in (setting_of (folded c.args.charset.now) c.args.schema.now)) (setting_of (folded c.args.charset.now) c.args.schema.now) c.args.text.now c.pieces.marks.items given c.pieces.state c.pieces.inside c.pieces.at c.pieces.negated c.pieces-test.false is c.pieces.invariant pieces are) c.with_end-2.ensures
