use Rattle.std.proofs.Common.{ℕ, rules, ◌∙◌}
use Rattle.std.proofs.lemmas.List.Sorted.{IsPartitionPoint-from_clause}
use Rattle.occ_lists.specs.Places.{is_before}
use Rattle.occ_lists.proofs.CutPlaces.{back_is}
use Rattle.occ_lists.proofs.PlaceOrder.{begun_parted}
use Rattle.occ_lists.proofs.places.from_on.Goals as goal

pub returns-clause-all : goal.returns-clause-all
returns-clause-all c =
    let places = c.args.places.now in
    let first = c.args.first in
    c.split_at.ensures.back ∙ back_is (λ place. is_before place first) places c.partition_point-begin.result c.partition_point-begin.ensures.bound
    (IsPartitionPoint-from_clause (λ (place : ℕ × ℕ). is_before place first) places c.partition_point-begin.result c.partition_point-begin.ensures.partitioned (begun_parted (first.0, record { zone = 0; first = first.1; last = 0 }) places c.requires) (λ a r f k. search rules))
