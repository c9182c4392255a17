use Rattle.std.proofs.Common.{arith, lit<, sym, ◌∙◌}
use Rattle.query_pieces.proofs.Seams.{seam_next}
use Rattle.query_pieces.proofs.reading.after_caret.Goals as goal

pub returns-then-text_byte-eq94-clause-seam : goal.returns-then-text_byte-eq94-clause-seam
returns-then-text_byte-eq94-clause-seam c = seam_next c.args.text.now c.args.at 94 c.utf8.text (sym c.text_byte.ensures ∙ c.if-text_byte-eq94.true) (lit< tt) (λ e. omega (arith, e))
