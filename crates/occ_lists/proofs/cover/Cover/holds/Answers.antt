use Rattle.std.proofs.Common.{◌≡◌, ℕ, ◌≤◌, true, false, length, ◌&&◌, nat_le, List, take, rules, sym, ap, ◌∙◌, subst}
use Rattle.std.specs.List.{list_any}
use Rattle.std.specs.List.Sorted.{IsPartitionPoint}
use Rattle.std.proofs.lemmas.Bool.{eq-eqb, ne_eqb}
use Rattle.std.proofs.lemmas.List.Sorted.{IsPartitionPoint-from_clause}
use Rattle.occ_lists.specs.declared.occ.Occ.{Occ}
use Rattle.occ_lists.specs.Places.{holds}
use Rattle.occ_lists.specs.steps.Spread.{IsSpread}
use Rattle.occ_lists.proofs.Covering.{is_begun, last_reaches, begun_parted, one_look}
use Rattle.occ_lists.proofs.cover.Cover.holds.Goals as goal
use Rattle.occ_lists.proofs.cover.Cover.holds.Goals.{After-last}

-- the list has such an occurrence where the one that is looked at is one
looked : (c : After-last) → last_reaches (c.args.field, c.args.position) c.last.result ≡ list_any (λ o. holds o (c.args.field, c.args.position)) c.args.self.now
looked c =
    let place : ℕ × ℕ = (c.args.field, c.args.position) in
    let occs = c.self.inside.list.items in
    let begun = c.partition_point-begun.result in
    let seen : c.deref.result.now ≡ occs = c.deref.ensures.value in
    let parts : IsPartitionPoint (λ o. is_begun place o ≡ true) (λ o. is_begun place o ≡ false) c.deref.result.now begun = IsPartitionPoint-from_clause (is_begun place) c.deref.result.now begun c.partition_point-begun.ensures.partitioned (begun_parted place c.deref.result.now (subst (λ (xs : List Occ). IsSpread xs) (sym seen) c.self.invariant)) (λ a r f' k. search rules) in
    sym
    (one_look place occs c.split_at.result.0.now begun c.last.result c.self.invariant (subst (λ (xs : List Occ). IsPartitionPoint (λ o. is_begun place o ≡ true) (λ o. is_begun place o ≡ false) xs begun) seen parts)
    (subst (λ (xs : List Occ). begun ≤ length xs) seen c.partition_point-begun.ensures.bound)
    (c.split_at.ensures.front ∙ ap (take begun) c.deref-2.ensures.value)
    c.last.ensures.item)
    ∙ ap (λ xs. list_any (λ o. holds o place) xs) c.self.view_is

pub returns-then-occ-field : goal.returns-then-occ-field
returns-then-occ-field c =
    let place : ℕ × ℕ = (c.args.field, c.args.position) in
    ap (λ b. b && nat_le c.args.position c.in-Some.occ.now.last) (sym (eq-eqb c.in-Some.occ.now.field c.args.field c.if-occ-field.true))
    ∙ ap (last_reaches place) (sym c.in-Some.is)
    ∙ looked (goal.at.returns-then-occ-field c).After-last

pub returns-else-occ-field : goal.returns-else-occ-field
returns-else-occ-field c =
    let place : ℕ × ℕ = (c.args.field, c.args.position) in
    let other = ne_eqb c.in-Some.occ.now.field c.args.field c.if-occ-field.false in
    other
    ∙ ap (λ b. b && nat_le c.args.position c.in-Some.occ.now.last) (sym other)
    ∙ ap (last_reaches place) (sym c.in-Some.is)
    ∙ looked (goal.at.returns-else-occ-field c).After-last

pub returns-in-None : goal.returns-in-None
returns-in-None c =
    let place : ℕ × ℕ = (c.args.field, c.args.position) in
    ap (last_reaches place) (sym c.in-None.is)
    ∙ looked (goal.at.returns-in-None c).After-last
