use Rattle.std.proofs.Common.{◌∙◌, List, Bool, false, sym, ap, subst, refl, is_ok}
use Rattle.std.proofs.ResultArms.{chosen}
use Rattle.std.proofs.lemmas.Str.{IsCharBoundary-start}
use Rattle.charset_map.specs.Spans.{folded}
use Rattle.query_pieces.specs.declared.piece.Piece.{Piece}
use Rattle.query_pieces.specs.Letters.{alphabet_of}
use Rattle.query_pieces.specs.Pieces.{Stands, Splits}
use Rattle.query_pieces.proofs.LetterRuns.{splits_push, after_pieces, after_push}
use Rattle.query_pieces.proofs.reading.pieces.Goals as goal

pub pieces-init : goal.pieces-init
pieces-init c = record {
  splits = subst (λ (l : List Piece). Splits (alphabet_of (folded c.args.charset.now) c.args.stars) c.args.text.now false 0 l 0) (sym c.new-list.ensures.items) refl;
  flag = sym (ap (after_pieces false) c.new-list.ensures.items);
  seam = IsCharBoundary-start c.args.text.now c.utf8.text;
}

pub pieces-preserved : goal.pieces-preserved
pieces-preserved c =
    let pushed = chosen _ _ _ _ c.push.ensures.items (ap is_ok c.in_ok-push.was) in
    let stands = subst (λ (b : Bool). Stands (alphabet_of (folded c.args.charset.now) c.args.stars) c.args.text.now b c.pieces.at c.piece_at-piece.result) c.pieces.invariant.flag c.piece_at-piece.ensures.is in
    record {
      splits = subst (λ (l : List Piece). Splits (alphabet_of (folded c.args.charset.now) c.args.stars) c.args.text.now false 0 l c.piece_at-piece.result.to) (sym pushed) (splits_push (alphabet_of (folded c.args.charset.now) c.args.stars) c.args.text.now false 0 c.pieces.at c.pieces.list.items c.piece_at-piece.result c.pieces.invariant.splits c.pieces-test.true stands);
      flag = c.leaves_letter-inside.ensures ∙ sym (ap (after_pieces false) pushed ∙ after_push false c.pieces.list.items c.piece_at-piece.result);
      seam = c.piece_at-piece.ensures.seam;
    }
