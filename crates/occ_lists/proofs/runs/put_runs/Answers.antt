use Rattle.std.proofs.Common.{◌≡◌, ℕ, List, ◌++◌, ◌+◌, length, map, OnOk, sym, ap, ◌∙◌, subst}
use Rattle.std.specs.List.{filter}
use Rattle.occ_lists.specs.declared.occ.Occ.{Occ}
use Rattle.occ_lists.specs.Places.{ArePlaces, has_place, within_all}
use Rattle.occ_lists.specs.Runs.{runs}
use Rattle.occ_lists.specs.steps.Follow.{ending_at, next_place}
use Rattle.occ_lists.proofs.Following.{Followed, Small, spots, spots_small, first_placed, term_placed, followed_none, term_followed, phrase_runs}
use Rattle.occ_lists.proofs.runs.put_runs.Goals as goal
use Rattle.occ_lists.proofs.runs.put_runs.Goals.{In_ok-extend_from_slice}

-- the loop begins at the places of the first keyword
begins : (c : In_ok-extend_from_slice) → c.extend_from_slice.new.self.items ≡ spots c.args.spans.now c.in-Some.first.now
begins c =
    c.in_ok-extend_from_slice.ensures.items
    ∙ ap (λ xs. xs ++ c.within.result.now) c.clear.ensures.items
    ∙ c.within.ensures.all
    ∙ ap (filter (within_all c.args.spans.now)) c.deref.ensures.value

-- src/runs.rt:30:5
pub loop-term-init : goal.loop-term-init
loop-term-init c =
    let placed = first_placed c.args.terms.now c.in-Some.rest.now c.in-Some.first.now c.in-Some.ensures.cases.0 c.requires in
    followed_none c.extend_from_slice.new.self.items (map (spots c.args.spans.now) c.in-Some.rest.now)
    (subst (λ (xs : List (ℕ × ℕ)). Small xs) (sym (begins c)) (spots_small c.args.spans.now c.in-Some.first.now placed))

-- src/runs.rt:31:21
pub within-requires-in-loop-term : goal.within-requires-in-loop-term
within-requires-in-loop-term c =
    let placed = term_placed c.args.terms.now c.in-Some.rest.now c.in-Some.first.now c.term-item.result c.loop-term.term-index c.in-Some.ensures.cases.0 c.requires c.loop-term-test.true c.term-item.is in
    subst (λ (xs : List (ℕ × ℕ)). ArePlaces xs) (sym c.deref-in-loop-term.ensures.value) placed.ascend

-- src/runs.rt:30:5
pub loop-term-preserved : goal.loop-term-preserved
loop-term-preserved c =
    let spans = c.args.spans.now in
    let placed = term_placed c.args.terms.now c.in-Some.rest.now c.in-Some.first.now c.term-item.result c.loop-term.term-index c.in-Some.ensures.cases.0 c.requires c.loop-term-test.true c.term-item.is in
    let read : c.within-in-loop-term.result.now ≡ spots spans c.term-item.result = c.within-in-loop-term.ensures.all ∙ ap (filter (within_all spans)) c.deref-in-loop-term.ensures.value in
    let went : c.go_on.new.ends.items ≡ filter (has_place (spots spans c.term-item.result)) (map next_place c.loop-term.ends.items) =
    c.go_on.ensures ∙ ap (λ ps. filter (has_place ps) (map next_place c.loop-term.ends.items)) read in
    subst (λ (ends : List (ℕ × ℕ)). Followed c.extend_from_slice.new.self.items (map (spots spans) c.in-Some.rest.now) (c.loop-term.term-index + 1) ends) (sym went)
    (term_followed spans c.extend_from_slice.new.self.items c.in-Some.rest.now c.term-item.result c.loop-term.term-index c.loop-term.ends.items c.loop-term-test.true c.term-item.is placed c.loop-term.invariant)

-- src/runs.rt:16:1
pub returns : goal.returns
returns c =
    let steps : ℕ = length c.in-Some.rest.now in
    let found : map (ending_at steps) c.deref-2.result.now ≡ runs (map (spots c.args.spans.now) c.args.terms.now) =
    ap (map (ending_at steps)) c.deref-2.ensures.value
    ∙ phrase_runs c.args.spans.now c.args.terms.now c.in-Some.rest.now c.in-Some.first.now c.extend_from_slice.new.self.items c.loop-term.ends.items c.loop-term.term-index c.in-Some.ensures.cases.0 (begins (goal.at.returns c).In_ok-extend_from_slice) c.loop-term-test.false c.loop-term.invariant in
    subst (λ (occs : List Occ). OnOk c.put_ending.result (c.put_ending.new.out.items ≡ c.args.out.now.items ++ occs)) found c.put_ending.ensures
