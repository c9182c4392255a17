use Rattle.std.proofs.Common.{refl, sym, ap, ◌+◌, ◌∙◌}
use Rattle.step_book.proofs.Adding.{takes_moves}
use Rattle.step_book.proofs.line.Past.hold.Goals as goal

pub compare_exchange-found-requires : goal.compare_exchange-found-requires
compare_exchange-found-requires g c =
    let h = c.requires in
    let pen = c.no_pen-pen.ensures in
    let seen = c.again-seen.ensures in
    let same = ap (λ s. s.book) seen ∙ sym (ap (λ w. w.book) h) in (
      ap (λ w. w.tracked) h,
      same,
      pen.0 ∙ same,
      c.plain-offer.ensures.0,
      rw (ap (λ w. w.key) h, pen.1) (takes_moves c.again-seen.result.log c.plain-offer.result.ask c.plain-offer.result.state (c.args.self.now.steps + c.args.self.now.steps) c.args.self.now.steps refl),
    )
