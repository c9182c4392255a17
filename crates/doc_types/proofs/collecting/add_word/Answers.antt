use Rattle.std.proofs.Common.{◌≡◌, rules, sym, subst, Vec, Global, ℕ, List, Some, cond}
use Rattle.std.specs.BTreeMap.{get}
use Rattle.std.specs.Ordering.{nat_cmp, is_eq}
use Rattle.std.specs.Cmp.Lexicographic.{slice_cmp}
use Rattle.doc_types.proofs.Collected.{one_more, first_one}
use Rattle.doc_types.proofs.collecting.add_word.Goals as goal

pub returns-in_ok-end_by-in-Some-clause-rows : goal.returns-in_ok-end_by-in-Some-clause-rows
returns-in_ok-end_by-in-Some-clause-rows c =
    one_more (λ (v : Vec ℕ Global). v.items) (get (slice_cmp nat_cmp) c.args.collected.now) (get (slice_cmp nat_cmp) (c.get_mut.follows.lender c.end_by.new.rows)) c.args.word.now c.end_by.new.rows c.args.row
    ((c.get_mut.follows.holds c.end_by.new.rows).3 (search rules)).0 c.in-Some.rows.now (sym c.in-Some.ensures.value) c.in_ok-end_by-in-Some.ensures

pub returns-in_ok-insert-in-None-clause-rows : goal.returns-in_ok-insert-in-None-clause-rows
returns-in_ok-insert-in-None-clause-rows c =
    let copied : c.in_ok-clone-in-None.field-0 ≡ c.args.word.now = c.in_ok-clone-in-None.ensures.cases in
    let same : c.get_mut.follows.lender-at-none ≡ c.args.collected.now = c.get_mut.follows.holds-at-none in
    let updates = subst (λ (k : List ℕ). (q : List ℕ) → get (slice_cmp nat_cmp) c.insert.new.self q ≡ cond (is_eq (slice_cmp nat_cmp k q)) (Some c.in_ok-vec-in-None.field-0) (get (slice_cmp nat_cmp) c.get_mut.follows.lender-at-none q)) copied c.in_ok-insert-in-None.ensures.updates.0 in
    rw (← same) (first_one (λ (v : Vec ℕ Global). v.items) (get (slice_cmp nat_cmp) c.get_mut.follows.lender-at-none) (get (slice_cmp nat_cmp) c.insert.new.self) c.args.word.now c.in_ok-vec-in-None.field-0 c.args.row
    updates (rw same (sym c.in-None.ensures.value)) c.in_ok-vec-in-None.ensures.items)
