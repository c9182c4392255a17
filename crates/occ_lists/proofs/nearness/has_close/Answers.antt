use Rattle.std.proofs.Common.{ℕ, not, ap, sym, ◌∙◌}
use Rattle.std.specs.List.{filter, list_any}
use Rattle.occ_lists.specs.Places.{is_before}
use Rattle.occ_lists.specs.Close.{is_close}
use Rattle.occ_lists.proofs.ClosePlaces.{close_first, close_within, empty_by}
use Rattle.occ_lists.proofs.nearness.has_close.Goals as goal

pub returns-in-None : goal.returns-in-None
returns-in-None c =
    let ys = c.args.ys.now in
    let x = c.args.x in
    let is = c.from_on.ensures.all ∙ ap (λ (n : ℕ). filter (λ (place : ℕ × ℕ). not (is_before place (x.0, n))) ys) c.saturating_sub.ensures in
    sym (close_within c.args.n x ys c.from_on.result.now is ∙ ap (list_any (is_close c.args.n x)) (empty_by c.from_on.result.now c.in-None.ensures.cases))

pub returns-in-Some : goal.returns-in-Some
returns-in-Some c =
    let ys = c.args.ys.now in
    let x = c.args.x in
    let is = c.from_on.ensures.all ∙ ap (λ (n : ℕ). filter (λ (place : ℕ × ℕ). not (is_before place (x.0, n))) ys) c.saturating_sub.ensures in
    c.is_close.ensures ∙ sym (close_first c.args.n x c.in-Some.first.now ys c.from_on.result.now c.in-Some.field-0-1.now c.from_on.ensures.ascend is c.in-Some.ensures.cases.0)
