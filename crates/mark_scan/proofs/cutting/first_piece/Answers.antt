use Rattle.std.proofs.Common.{ℕ, List, ◌<◌, drop, length, subst, sym, refl, [], ap, ◌∙◌}
use Rattle.std.proofs.Math.Seq.{drop-length}
use Rattle.mark_scan.specs.Markup.{BeginsMarkup}
use Rattle.mark_scan.specs.steps.Scanning.{Rules}
use Rattle.mark_scan.proofs.Cuts.{whole_plain}
use Rattle.mark_scan.proofs.Fronts.{rules_after, found_markup}
use Rattle.mark_scan.proofs.cutting.first_piece.Goals as goal

pub plain_piece-requires-clause-none : goal.plain_piece-requires-clause-none
plain_piece-requires-clause-none c = subst (λ (s : List ℕ). (k : ℕ) → k < c.in-Some.place → BeginsMarkup (drop k s) → ⊥) c.as_bytes.ensures.value c.in-Some.ensures.first

pub plain_piece-requires-clause-up_to : goal.plain_piece-requires-clause-up_to
plain_piece-requires-clause-up_to c = subst (λ (s : List ℕ). BeginsMarkup (drop c.in-Some.place s)) c.as_bytes.ensures.value (found_markup _ c.in-Some.found c.in-Some.ensures.found.1)

pub returns-else-place-eq0-clause-ends : goal.returns-else-place-eq0-clause-ends
returns-else-place-eq0-clause-ends c =
    subst (λ (s : List ℕ). Rules c.next_markup.new.ends s) (ap (λ (s : List ℕ). drop c.in-Some.place s) c.as_bytes.ensures.value ∙ sym c.plain_piece.ensures.place) c.in-Some.ensures.ends

pub returns-then-place-eq0-clause-ends : goal.returns-then-place-eq0-clause-ends
returns-then-place-eq0-clause-ends c =
    let here : Rules c.next_markup.new.ends c.args.text.now = subst (λ (s : List ℕ). Rules c.next_markup.new.ends s) (ap (λ (n : ℕ). drop n c.as_bytes.result.now) c.if-place-eq0.true ∙ c.as_bytes.ensures.value) c.in-Some.ensures.ends in
    subst (λ (s : List ℕ). Rules c.next_markup.new.ends s) (sym c.markup_piece.ensures.rest) (rules_after c.next_markup.new.ends c.args.text.now _ here)

pub returns-in-None-clause-cut : goal.returns-in-None-clause-cut
returns-in-None-clause-cut c = record {
  begins = whole_plain c.args.text.now c.requires.some (subst (λ (s : List ℕ). (k : ℕ) → k < length s → BeginsMarkup (drop k s) → ⊥) c.as_bytes.ensures.value c.in-None.ensures.none);
  rest = sym (drop-length c.args.text.now);
  piece_utf8 = c.utf8.text;
  rest_utf8 = ([], (refl, refl));
}
