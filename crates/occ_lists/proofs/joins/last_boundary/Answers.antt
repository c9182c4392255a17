use Rattle.std.proofs.Common.{◌≡◌, ◌-◌, ◌≤◌, length, length-take, rules, is_some, sym, ◌∙◌, ap, arith}
use Rattle.std.proofs.lemmas.Bool.{ltb-false, le-ltb}
use Rattle.std.proofs.lemmas.List.Sorted.{IsPartitionPoint-from_clause}
use Rattle.occ_lists.proofs.Boundaries.{place_below, below_parted, last_found, last_other, last_none, last_of_front}
use Rattle.occ_lists.proofs.joins.last_boundary.Goals as goal

pub returns-in-Some : goal.returns-in-Some
returns-in-Some c =
    let places = c.args.boundaries.now in
    let at = c.partition_point-at.result in
    let split = IsPartitionPoint-from_clause (place_below c.args.field c.args.position) places _ c.partition_point-at.ensures.partitioned (below_parted c.args.field c.args.position places c.requires) (λ a r f' k. search rules) in
    let found = last_of_front places c.split_at.result.0.now at c.in-Some.end.now c.partition_point-at.ensures.bound c.split_at.ensures.front c.in-Some.ensures.item.3.0 c.in-Some.ensures.item.3.1 in
    λ limit. last_found places c.args.field limit c.args.position at (at - 1) c.in-Some.end.now c.requires split c.partition_point-at.ensures.bound found.0 found.1 c.if-end-field.true

pub returns-in_default : goal.returns-in_default
returns-in_default c =
    let places = c.args.boundaries.now in
    let at = c.partition_point-at.result in
    let split = IsPartitionPoint-from_clause (place_below c.args.field c.args.position) places _ c.partition_point-at.ensures.partitioned (below_parted c.args.field c.args.position places c.requires) (λ a r f' k. search rules) in
    let found = last_of_front places c.split_at.result.0.now at c.in-Some.end.now c.partition_point-at.ensures.bound c.split_at.ensures.front c.in-Some.ensures.item.3.0 c.in-Some.ensures.item.3.1 in
    λ limit. last_other places c.args.field limit c.args.position at (at - 1) c.in-Some.end.now c.requires split c.partition_point-at.ensures.bound found.0 found.1 c.if-end-field.false ∙ sym (le-ltb limit 0 (omega arith))

pub returns-in_default-2 : goal.returns-in_default-2
returns-in_default-2 c =
    let places = c.args.boundaries.now in
    let at = c.partition_point-at.result in
    let front = c.split_at.result.0.now in
    let split = IsPartitionPoint-from_clause (place_below c.args.field c.args.position) places _ c.partition_point-at.ensures.partitioned (below_parted c.args.field c.args.position places c.requires) (λ a r f' k. search rules) in
    let short : length front ≤ 0 = ltb-false 0 (length front) (sym c.last.ensures.item.0 ∙ ap is_some c.in_default.is) in
    let none : at ≡ 0 = omega (arith, short, ap length c.split_at.ensures.front ∙ length-take at places, c.partition_point-at.ensures.bound) in
    λ limit. last_none places c.args.field limit c.args.position at split none ∙ sym (le-ltb limit 0 (omega arith))
