use Rattle.std.proofs.Common.{arith, lit<, sym, ◌∙◌}
use Rattle.query_pieces.proofs.Seams.{seam_next}
use Rattle.query_pieces.proofs.letters.letter.Goals as goal

pub escaped-requires : goal.escaped-requires
escaped-requires c = seam_next c.args.text.now c.args.at 92 c.utf8.text (sym c.text_byte-b.ensures ∙ c.if-b-eq92.true) (lit< tt) (λ e. omega (arith, e))
