use Rattle.std.proofs.Common.{arith, sym, subst}
use Rattle.std.specs.Str.{IsCharBoundary}
use Rattle.charset_map.specs.Spans.{folded}
use Rattle.query_pieces.specs.Letters.{alphabet_of}
use Rattle.query_pieces.proofs.EachPiece.{end_seam}
use Rattle.query_pieces.proofs.reading.read_word.Goals as goal

pub returns-clause-follows : goal.returns-clause-follows
returns-clause-follows c = record {
  after = omega (arith, c.requires.ahead, c.after_letters-to.ensures.follows.after, c.after_word-after.ensures.ahead);
  seam = subst (IsCharBoundary c.args.text.now) (sym c.after_word-after.ensures.is) (end_seam (alphabet_of (folded c.args.charset.now) c.args.stars) c.args.text.now c.after_letters-to.result c.utf8.text c.after_letters-to.ensures.follows.seam);
}
