use Rattle.std.proofs.Common.{◌≡◌, ◌-◌, false, length}
use Rattle.std.specs.Str.{IsCharBoundary}
use Rattle.charset_map.specs.Spans.{folded}
use Rattle.query_pieces.specs.Letters.{alphabet_of}
use Rattle.query_pieces.specs.Pieces.{Splits}
use Rattle.query_pieces.proofs.LetterRuns.{after_pieces}
use Rattle.query_pieces.proofs.reading.pieces.Given as goal

abbrev pub invariant-pieces : goal.invariant-pieces
invariant-pieces l = record {
  splits : Splits (alphabet_of (folded l.charset) l.stars) l.text false 0 l.list.items l.at;
  flag : l.inside ≡ after_pieces false l.list.items;
  seam : IsCharBoundary l.text l.at;
}

abbrev pub decreases-pieces : goal.decreases-pieces
decreases-pieces l = length l.text - l.at
