use Rattle.std.proofs.Common.{rules, is_some, sym, ◌∙◌, ap}
use Rattle.std.proofs.lemmas.Bool.{ltb-false}
use Rattle.std.proofs.lemmas.List.Sorted.{IsPartitionPoint-from_clause}
use Rattle.occ_lists.proofs.Boundaries.{place_up_to, up_to_parted, next_found, next_other, next_none}
use Rattle.occ_lists.proofs.joins.next_boundary.Goals as goal

pub returns-in-Some : goal.returns-in-Some
returns-in-Some c =
    let places = c.args.boundaries.now in
    let split = IsPartitionPoint-from_clause (place_up_to c.args.field c.args.position) places _ c.partition_point-at.ensures.partitioned (up_to_parted c.args.field c.args.position places c.requires) (λ a r f' k. search rules) in
    λ limit. next_found places c.args.field c.args.position limit c.partition_point-at.result c.in-Some.end.now c.requires split c.in-Some.ensures.lookup.3.0 c.in-Some.ensures.lookup.3.1 c.if-end-field.true

pub returns-in_default : goal.returns-in_default
returns-in_default c =
    let places = c.args.boundaries.now in
    let split = IsPartitionPoint-from_clause (place_up_to c.args.field c.args.position) places _ c.partition_point-at.ensures.partitioned (up_to_parted c.args.field c.args.position places c.requires) (λ a r f' k. search rules) in
    λ limit. next_other places c.args.field c.args.position limit c.partition_point-at.result c.in-Some.end.now c.requires split c.in-Some.ensures.lookup.3.0 c.in-Some.ensures.lookup.3.1 c.if-end-field.false

pub returns-in_default-2 : goal.returns-in_default-2
returns-in_default-2 c =
    let places = c.args.boundaries.now in
    let split = IsPartitionPoint-from_clause (place_up_to c.args.field c.args.position) places _ c.partition_point-at.ensures.partitioned (up_to_parted c.args.field c.args.position places c.requires) (λ a r f' k. search rules) in
    λ limit. next_none places c.args.field c.args.position limit c.partition_point-at.result split (ltb-false _ _ (sym c.get.ensures.lookup.0 ∙ ap is_some c.in_default.is))
