use Rattle.std.proofs.Common.{arith, lit<, sym, ◌∙◌}
use Rattle.query_pieces.proofs.Seams.{seam_next}
use Rattle.query_pieces.proofs.reading.read_separator.Goals as goal

pub after_character-to-requires : goal.after_character-to-requires
after_character-to-requires c = seam_next c.args.text.now c.args.at 92 c.utf8.text (sym c.text_byte.ensures ∙ c.if-text_byte-eq92.true) (lit< tt) (λ e. omega (arith, e))
