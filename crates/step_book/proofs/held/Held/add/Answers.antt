use Rattle.std.proofs.Common.{sym, ap, ◌+◌, ◌∙◌, arith}
use Rattle.step_book.proofs.Adding.{adds_moves}
use Rattle.step_book.proofs.held.Held.add.Goals as goal

pub compare_exchange-requires : goal.compare_exchange-requires
compare_exchange-requires g c =
    let h = c.requires.head in
    let learn = c.learn.ensures in
    let same = sym (ap (λ w. w.book) h) in
    let counted = c.args.self.past.counted in (
      ap (λ w. w.tracked) h,
      learn.0 ∙ same,
      c.args.self.book ∙ same,
      c.plain-offer.ensures.0,
      rw (ap (λ w. w.key) h, c.args.self.right) (adds_moves c.args.self.past.seen.log c.learn.new.self.log c.plain-offer.result.ask c.plain-offer.result.state (c.args.self.past.steps + c.args.self.past.steps + 1) (omega (arith, counted)) learn.2),
    )
