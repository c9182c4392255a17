use Rattle.query_pieces.proofs.Seams.{seam_of}
use Rattle.query_pieces.proofs.reading.piece_at.Goals as goal

pub returns-in-Some-clause-seam : goal.returns-in-Some-clause-seam
returns-in-Some-clause-seam c = seam_of c.args.text.now c.args.at c.in-Some.piece.to c.utf8.text c.in-Some.ensures.ends
