use Rattle.std.proofs.Common.{ℕ, rules, ◌∙◌, not}
use Rattle.std.proofs.lemmas.List.Sorted.{IsPartitionPoint-from_clause}
use Rattle.occ_lists.specs.Places.{is_before}
use Rattle.occ_lists.proofs.CutPlaces.{front_is}
use Rattle.occ_lists.proofs.PlaceOrder.{ended_parted}
use Rattle.occ_lists.proofs.places.up_to.Goals as goal

pub returns : goal.returns
returns c =
    let places = c.args.places.now in
    let last = c.args.last in
    c.split_at.ensures.front ∙ front_is (λ place. not (is_before last place)) places c.partition_point-end.result c.partition_point-end.ensures.bound
    (IsPartitionPoint-from_clause (λ (place : ℕ × ℕ). not (is_before last place)) places c.partition_point-end.result c.partition_point-end.ensures.partitioned (ended_parted (last.0, record { zone = 0; first = 0; last = last.1 }) places c.requires) (λ a r f k. search rules))
