use Rattle.std.proofs.Common.{◌-◌, length}
use Rattle.charset_map.specs.Spans.{folded}
use Rattle.query_pieces.specs.Letters.{alphabet_of}
use Rattle.query_pieces.specs.steps.Ends.{HasRead}
use Rattle.query_pieces.proofs.letters.after_letters.Given as goal

abbrev pub invariant-letters : goal.invariant-letters
invariant-letters l = HasRead (alphabet_of (folded l.charset) l.stars) l.text l.from l.inside l.at

abbrev pub decreases-letters : goal.decreases-letters
decreases-letters l = length l.text - l.at
