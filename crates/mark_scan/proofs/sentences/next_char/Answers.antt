use Rattle.std.proofs.Common.{List, ◌∙◌, ap}
use Rattle.mark_scan.specs.Markup.{TextPart}
use Rattle.mark_scan.specs.Marks.{run_of}
use Rattle.mark_scan.proofs.FirstPieces.{no_more_parts}
use Rattle.mark_scan.proofs.sentences.next_char.Goals as goal

-- where the text ends, the run does
pub returns-in-None-cut-clause-next : goal.returns-in-None-cut-clause-next
returns-in-None-cut-clause-next c = λ parts are.
    let ahead = c.pieces.invariant.ahead parts are in
    ahead.run_is ∙ ap (λ (ps : List TextPart). run_of c.args.rules.now.zones ps) (no_more_parts c.pieces.rest ahead.parts c.in-None-cut.ensures ahead.are)
