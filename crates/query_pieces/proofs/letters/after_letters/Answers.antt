use Rattle.std.proofs.Common.{sym}
use Rattle.charset_map.specs.Spans.{folded}
use Rattle.query_pieces.specs.Letters.{alphabet_of}
use Rattle.query_pieces.specs.steps.Names.{letter_is}
use Rattle.query_pieces.proofs.LetterRuns.{has_read_more}
use Rattle.query_pieces.proofs.letters.after_letters.Goals as goal

pub letters-preserved : goal.letters-preserved
letters-preserved c = has_read_more (alphabet_of (folded c.args.charset.now) c.args.stars) c.args.text.now c.args.from c.letters.inside c.letters.at (letter_is c.in-Some.found) c.letters.invariant (sym c.in-Some.ensures.is) c.in-Some.ensures.ends
