use Rattle.std.proofs.Common.{◌∙◌, sym}
use Rattle.charset_map.proofs.Spelling.{at_none, no_side_whole, no_side_cut, no_side_low, no_side_high}
use Rattle.charset_map.proofs.entries.read_side.Goals as goal

pub returns-in_err-first : goal.returns-in_err-first
returns-in_err-first c = at_none _ _ _ c.from_residual.ensures (no_side_whole c.args.text.now (sym c.place_of.ensures ∙ c.if-place_of-text.true) c.in_err-first.ensures)

pub returns-in_err-low : goal.returns-in_err-low
returns-in_err-low c = at_none _ _ _ c.from_residual-in_err-low.ensures (no_side_cut c.args.text.now (λ whole. c.if-place_of-text.false (c.place_of.ensures ∙ whole)) c.in_err-low.ensures)

pub returns-in_err-first-2 : goal.returns-in_err-first-2
returns-in_err-first-2 c = at_none _ _ _ c.from_residual-in_err-first-2.ensures (no_side_low c.args.text.now c.in_ok-low.low.now c.in_ok-low.high.now (λ whole. c.if-place_of-text.false (c.place_of.ensures ∙ whole)) c.in_ok-low.ensures.0 c.in_ok-low.ensures.1 c.in_err-first-2.ensures)

pub returns-in_err-last : goal.returns-in_err-last
returns-in_err-last c = at_none _ _ _ c.from_residual-in_err-last.ensures (no_side_high c.args.text.now c.in_ok-low.low.now c.in_ok-low.high.now (λ whole. c.if-place_of-text.false (c.place_of.ensures ∙ whole)) c.in_ok-low.ensures.0 c.in_ok-low.ensures.1 c.in_err-last.ensures)
