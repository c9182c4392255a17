use Rattle.std.proofs.Common.{◌∙◌, sym, subst}
use Rattle.charset_map.specs.declared.entries.Side.{Side}
use Rattle.charset_map.specs.declared.entries.Side.TheVariants.{Single, Range}
use Rattle.charset_map.specs.steps.Sides.{IsSide}
use Rattle.charset_map.proofs.Spelling.{at_none, no_entry_whole, no_entry_cut, no_entry_left, no_entry_right, no_entry_single_range, no_entry_range_single}
use Rattle.charset_map.proofs.entries.read_entry.Goals as goal

pub returns-in_err-range : goal.returns-in_err-range
returns-in_err-range c = at_none _ _ _ c.from_residual.ensures (no_entry_whole c.args.text.now (sym c.place_of.ensures ∙ c.if-place_of-text.true) c.in_err-range.ensures)

pub returns-in_err-left : goal.returns-in_err-left
returns-in_err-left c = at_none _ _ _ c.from_residual-in_err-left.ensures (no_entry_cut c.args.text.now (λ whole. c.if-place_of-text.false (c.place_of.ensures ∙ whole)) c.in_err-left.ensures)

pub returns-in_err-read_side : goal.returns-in_err-read_side
returns-in_err-read_side c = at_none _ _ _ c.from_residual-in_err-read_side.ensures (no_entry_left c.args.text.now c.in_ok-left.left.now c.in_ok-left.right.now (λ whole. c.if-place_of-text.false (c.place_of.ensures ∙ whole)) c.in_ok-left.ensures.0 c.in_ok-left.ensures.1 c.in_err-read_side.ensures)

pub returns-in_err-to : goal.returns-in_err-to
returns-in_err-to c = at_none _ _ _ c.from_residual-in_err-to.ensures (no_entry_right c.args.text.now c.in_ok-left.left.now c.in_ok-left.right.now (λ whole. c.if-place_of-text.false (c.place_of.ensures ∙ whole)) c.in_ok-left.ensures.0 c.in_ok-left.ensures.1 c.in_err-to.ensures)

pub returns-in_default : goal.returns-in_default
returns-in_default c =
    let from : IsSide c.in_ok-left.left.now (Single c.in_default.field-0-0) = subst (λ (side : Side). IsSide c.in_ok-left.left.now side) c.in_default.is-0 c.in_ok-read_side.ensures in
    let to : IsSide c.in_ok-left.right.now (Range c.in_default.field-0-1) = subst (λ (side : Side). IsSide c.in_ok-left.right.now side) c.in_default.is-1 c.in_ok-to.ensures in
    no_entry_single_range c.args.text.now c.in_ok-left.left.now c.in_ok-left.right.now c.in_default.field-0-0 c.in_default.field-0-1 (λ whole. c.if-place_of-text.false (c.place_of.ensures ∙ whole)) c.in_ok-left.ensures.0 c.in_ok-left.ensures.1 from to

pub returns-in_default-2 : goal.returns-in_default-2
returns-in_default-2 c =
    let from : IsSide c.in_ok-left.left.now (Range c.in_default.field-0-0) = subst (λ (side : Side). IsSide c.in_ok-left.left.now side) c.in_default.is-0 c.in_ok-read_side.ensures in
    let to : IsSide c.in_ok-left.right.now (Single c.in_default.field-0-1) = subst (λ (side : Side). IsSide c.in_ok-left.right.now side) c.in_default.is-1 c.in_ok-to.ensures in
    no_entry_range_single c.args.text.now c.in_ok-left.left.now c.in_ok-left.right.now c.in_default.field-0-0 c.in_default.field-0-1 (λ whole. c.if-place_of-text.false (c.place_of.ensures ∙ whole)) c.in_ok-left.ensures.0 c.in_ok-left.ensures.1 from to
