use Rattle.std.proofs.Common.{refl, rules, not}
use Rattle.std.proofs.lemmas.List.Sorted.{IsPartitionPoint-from_clause}
use Rattle.occ_lists.specs.Places.{is_before}
use Rattle.occ_lists.proofs.PlaceOrder.{begun_parted, ended_parted, inside_is}
use Rattle.occ_lists.proofs.places.inside.Goals as goal

-- src/places.rt:29:1
pub returns-clause-all : goal.returns-clause-all
returns-clause-all c =
    let span = c.args.span in
    let places = c.args.places.now in
    inside_is span places c.partition_point-from.result c.partition_point-to.result c.get.result c.unwrap_or.result _
    (IsPartitionPoint-from_clause (λ place. is_before place (span.0, span.1.first)) places c.partition_point-from.result c.partition_point-from.ensures.partitioned (begun_parted span places c.requires) (λ a r f' k. search rules))
    (IsPartitionPoint-from_clause (λ place. not (is_before (span.0, span.1.last) place)) places c.partition_point-to.result c.partition_point-to.ensures.partitioned (ended_parted span places c.requires) (λ a r f' k. search rules))
    c.partition_point-to.ensures.bound c.get.ensures.lookup.0 c.unwrap_or.ensures refl
