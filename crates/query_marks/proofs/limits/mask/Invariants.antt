use Rattle.std.proofs.Common.{◌≡◌, ◌≤◌, length, drop}
use Rattle.query_marks.specs.Limits.{mask, keeps}
use Rattle.query_marks.proofs.limits.mask.Given as goal

abbrev pub invariant-fields : goal.invariant-fields
invariant-fields l = record {
  within : l.k ≤ length l.fields;
  is : l.mask ≡ mask (keeps l.text l.negated l.names) (drop l.k l.fields);
}

abbrev pub decreases-fields : goal.decreases-fields
decreases-fields l = l.k
