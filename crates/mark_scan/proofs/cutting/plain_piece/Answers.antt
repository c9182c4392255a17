use Rattle.mark_scan.proofs.Cuts.{cut_plain}
use Rattle.mark_scan.proofs.cutting.plain_piece.Goals as goal

pub returns-clause-cut : goal.returns-clause-cut
returns-clause-cut c =
    let cut = cut_plain c.args.text.now c.cut_before.result.0.now c.cut_before.result.1.now c.args.place c.requires.some c.requires.within c.requires.none c.requires.up_to c.cut_before.ensures.front c.cut_before.ensures.back in
    record { begins = cut.0; rest = cut.1; piece_utf8 = c.cut_before.ensures.front_utf8; rest_utf8 = c.cut_before.ensures.back_utf8 }
