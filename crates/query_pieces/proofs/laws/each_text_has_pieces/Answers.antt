use Rattle.query_pieces.proofs.EachPiece.{has_pieces}
use Rattle.query_pieces.proofs.laws.each_text_has_pieces.Goals as goal

pub returns : goal.returns
returns c = has_pieces
