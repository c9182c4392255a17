use Rattle.std.proofs.Common.{ℕ, not, List, ◌&&◌, nat_le, ap, sym, ◌∙◌}
use Rattle.std.specs.List.{filter}
use Rattle.occ_lists.specs.declared.wanted.Wanted.{Wanted}
use Rattle.occ_lists.specs.Places.{is_before, occ}
use Rattle.occ_lists.specs.steps.Wanted.{holds_words}
use Rattle.occ_lists.proofs.WindowEnds.{ends_are, ends_nowhere}
use Rattle.occ_lists.proofs.windows.Proximity.ends_from.Goals as goal

pub returns-in_default : goal.returns-in_default
returns-in_default c =
    let from = c.args.from in
    sym (ends_nowhere c.args.self.now from c.requires.sorted (λ b.
    ap (λ (words : List Wanted). nat_le from.1 b && holds_words words (occ from.0 from.1 b)) (sym c.deref.ensures.value) ∙ c.in_default.ensures b))

pub returns : goal.returns
returns c =
    let from = c.args.from in
    let end = c.in-Some.end in
    ends_are c.args.self.now from c.requires.sorted end c.reach.result
    (λ b. ap (λ (words : List Wanted). nat_le from.1 b && holds_words words (occ from.0 from.1 b)) (sym c.deref.ensures.value) ∙ c.in-Some.ensures b)
    c.reach.ensures c.from_on-late.result.now c.up_to.result.now
    (c.from_on-late.ensures.all ∙ ap (filter (λ (p : ℕ × ℕ). not (is_before p (from.0, end)))) c.deref-2.ensures.value)
    c.up_to.ensures
